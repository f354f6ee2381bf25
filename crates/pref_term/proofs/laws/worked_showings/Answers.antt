use Rattle.pref_term.proofs.Common.{[], ◌++◌, refl, ap, ◌∙◌, decimal, codes, arith, decimal_digit, asked, IsShownAs, worked_names}
use Rattle.pref_term.proofs.laws.worked_showings.Goals as goal

reversed_shown : IsShownAs worked_names (codes "best reverse(low(x) & pos(y,-1,2))") (codes "best -(low(x) & pos(y, -1, 2))")
unfolding asked
reversed_shown =
    ap (λ one. codes "best -(low(x) & pos(y, -" ++ ((((one ++ (codes ", " ++ (decimal 2 ++ []))) ++ codes ")") ++ codes ")") ++ [])) (decimal_digit 1 (omega arith))
    ∙ ap (λ two. codes "best -(low(x) & pos(y, -1, " ++ ((((two ++ []) ++ codes ")") ++ codes ")") ++ [])) (decimal_digit 2 (omega arith))

counted_shown : IsShownAs worked_names (codes "at_least 007 around( x , - 3 ) by g,h") (codes "at_least 7 around(x, -3) by g, h")
unfolding asked
counted_shown =
    ap (λ seven. codes "at_least " ++ (((seven ++ codes " ") ++ (codes "around(x, -" ++ (decimal 3 ++ codes ")"))) ++ codes " by g, h")) (decimal_digit 7 (omega arith))
    ∙ ap (λ three. codes "at_least 7 around(x, -" ++ ((three ++ codes ")") ++ codes " by g, h")) (decimal_digit 3 (omega arith))

pub returns : goal.returns
unfolding asked
returns c = record { tighter = refl; grouped = refl; bare = refl; reversed = reversed_shown; factor = refl; skyline = refl; distinct = refl; counted = counted_shown }
