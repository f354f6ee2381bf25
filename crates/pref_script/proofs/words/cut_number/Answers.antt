use Rattle.pref_script.proofs.Common.{◌≡◌, ◌∙◌, ap, arith, length, sym, Some, position_or_len, ne_eqb, is_blank, is_numeral-some, word_of}
use Rattle.pref_script.proofs.WordsLaws.{after_at, number-empty, number-is, number-over, word_size}
use Rattle.pref_script.proofs.words.cut_number.Goals as goal

pub returns-then-size-eq0-clause-cut : goal.returns-then-size-eq0-clause-cut
returns-then-size-eq0-clause-cut c = grind (arith, number-empty, number-over)

pub returns-clause-cut : goal.returns-clause-cut
returns-clause-cut c =
    let text = c.args.text.now in
    let word = word_of text in
    let digits = c.in_ok-number.ensures in
    let at : position_or_len is_blank text ≡ c.in_ok-number.size = sym (word_size text) ∙ digits.size in (
      number-is c.args.most word (is_numeral-some word (ne_eqb (length word) 0 (λ none. absurd (omega (arith, none, digits.size)))) digits.digits) (omega (arith, digits.is)) ∙ ap Some digits.is,
      c.skip_blanks.ensures ∙ sym (after_at text c.in_ok-number.size at),
    )
