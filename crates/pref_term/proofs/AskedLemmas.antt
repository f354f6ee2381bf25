-- The ask that is computed is the one that the text spells, and the fault the one that it has.
use Rattle.pref_term.proofs.Common.{◌≡◌, ◌≤◌, ◌<◌, ◌+◌, ℕ, zero, suc, List, [], ◌∷◌, Bool, false, length, None, Result, Ok, Err, refl, sym, ap, subst, ◌∙◌, inl}
use Rattle.pref_term.proofs.Common.{inr, arith, MatchResult, IfOk, IfErr, nat_tests, Placed, more_bytes, tokens_from, tokens_of, plain, says_distinct}
use Rattle.pref_term.proofs.Common.{AskText, Names, Spells, Faults, UnlessMemory}
use Rattle.pref_term.proofs.Common.{question, Question, FitsWidth, start, run, ordered, meant, asked, TermFault, TooLong, AsksWhole, Gives}
use Rattle.pref_term.proofs.LedLemmas.{unless_map}
use Rattle.pref_term.proofs.SpellsLaws.{Finishes, Due, Spelt, Answers, run_answers, spelt_run, fault_run}
use Rattle.std.proofs.Common.{rules}

-- ---- the tokens of a text end with its end

pub tokens_finish : (reported p : ℕ) (bs : List ℕ) → Finishes (tokens_from reported p bs)
tokens_finish reported p [] = refl
tokens_finish (suc k) p (b ∷ bs) = tokens_finish k (p + 1) bs
tokens_finish zero p (b ∷ bs) = grind (arith, tokens_finish 0 (p + 1) bs, tokens_finish (more_bytes b bs) (p + 1) bs)

-- also without the word `distinct`
finishes_plain : (ts : List Placed) → Finishes ts → Finishes (plain ts)
finishes_plain ts h = search (rules)

text_answers : (names : Names) (text : List ℕ) → Answers names (plain (tokens_of text)) (run names (plain (tokens_of text)) 0 start)
text_answers names text = run_answers names (plain (tokens_of text)) [] start (record { leaves = []; reads = refl; played = refl; good = tt }) (go (plain (tokens_of text)) (finishes_plain (tokens_of text) (tokens_finish 0 0 text)))
  where
    go : (ts : List Placed) → Finishes ts → Due ts start
    go ts h = grind (arith)

-- ---- what is computed

pub asked_long : (names : Names) (text : List ℕ) → 4096 < length text → asked names text ≡ Err TooLong
unfolding asked
asked_long names text h = grind (arith)

pub asked_short : (names : Names) (text : List ℕ) → length text ≤ 4096 → asked names text ≡ meant names (says_distinct (tokens_of text)) (run names (plain (tokens_of text)) 0 start)
unfolding asked
asked_short names text h = grind (arith)

-- ---- and what the grammar says

abbrev IsAnswer : Names → List ℕ → Result Question TermFault → Type 0
IsAnswer names text r = MatchResult r (Spells names text) (Faults names text)

-- whether of equal rows one is kept has no part in whether a tree asks something
none_anyway : (names : Names) (d e : Bool) (tree : AskText) → question names d tree ≡ None → question names e tree ≡ None
none_anyway names d e tree h = grind (arith)

tree_answer : (names : Names) (text : List ℕ) (tree : AskText) → length text ≤ 4096 → Spelt names (plain (tokens_of text)) tree → IsAnswer names text (meant names (says_distinct (tokens_of text)) (Ok tree))
tree_answer names text tree short s = grind (arith, nat_tests, none_anyway)

short_answer : (names : Names) (text : List ℕ) → length text ≤ 4096 → IsAnswer names text (meant names (says_distinct (tokens_of text)) (run names (plain (tokens_of text)) 0 start))
short_answer names text short = go (run names (plain (tokens_of text)) 0 start) (text_answers names text)
  where
    go : (r : Result AskText TermFault) → Answers names (plain (tokens_of text)) r → IsAnswer names text (meant names (says_distinct (tokens_of text)) r)
    go r s = grind (arith, tree_answer)

pub asked_answer : (names : Names) (text : List ℕ) → MatchResult (asked names text) (Spells names text) (Faults names text)
asked_answer names text = grind (arith, nat_tests, asked_long, asked_short, short_answer)

-- what is spelled is computed, and what is wrong
pub spelled_asked : (names : Names) (text : List ℕ) (q : Question) → Spells names text q → asked names text ≡ Ok q
spelled_asked names text q s =
    asked_short names text s.short
    ∙ (ap (meant names (says_distinct (tokens_of text))) (spelt_run names (plain (tokens_of text)) s.tree (record { written = s.written; tokens_are = s.tokens; good = s.good })) ∙ ap ordered s.meaning)

pub fault_asked : (names : Names) (text : List ℕ) (f : TermFault) → Faults names text f → asked names text ≡ Err f
fault_asked names text f (inl h) = asked_long names text h.0 ∙ ap Err (sym h.1)
fault_asked names text f (inr (short, inl h)) = asked_short names text short ∙ ap (meant names (says_distinct (tokens_of text))) (fault_run names (plain (tokens_of text)) f h)
fault_asked names text f (inr (short, inr h)) =
    asked_short names text short
    ∙ (ap (meant names (says_distinct (tokens_of text))) (spelt_run names (plain (tokens_of text)) h.0.tree (record { written = h.0.written; tokens_are = h.0.played; good = h.0.good }))
    ∙ (ap ordered (none_anyway names false (says_distinct (tokens_of text)) h.0.tree h.0.none) ∙ ap Err (sym h.1)))

-- ---- one reading

pub one_ask : (names : Names) (text : List ℕ) (p q : Question) → Spells names text p → Spells names text q → p ≡ q
one_ask names text p q s t = let a = spelled_asked names text p s in let b = spelled_asked names text q t in cc (a, b)

pub no_both : (names : Names) (text : List ℕ) (p : Question) (f : TermFault) → Spells names text p → Faults names text f → ⊥
no_both names text p f s t = let a = spelled_asked names text p s in let b = fault_asked names text f t in cc (a, b)

pub one_fault : (names : Names) (text : List ℕ) (f g : TermFault) → Faults names text f → Faults names text g → f ≡ g
one_fault names text f g s t = let a = fault_asked names text f s in let b = fault_asked names text g t in cc (a, b)

-- ---- what the reader promises

module _ (names : Names) (text : List ℕ) (ts : List Placed) (e : ts ≡ tokens_of text) (short : length text ≤ 4096) where
  pub read_exact : (r : Result Question TermFault) → AsksWhole names ts r → Gives (asked names text) r
  read_exact r h = subst (λ (x : Result Question TermFault). Gives x r) (sym (asked_short names text short)) (subst (λ (us : List Placed). AsksWhole names us r) e h)

  pub read_ok : (r : Result Question TermFault) → AsksWhole names ts r → IfOk r (FitsWidth (length names)) → IfOk r (λ a. Spells names text a × FitsWidth (length names) a)
  read_ok (Ok a) h known = (subst (IsAnswer names text) (read_exact (Ok a) h) (asked_answer names text), known)
  read_ok (Err f) h known = tt

  pub read_err : (r : Result Question TermFault) → AsksWhole names ts r → IfErr r (λ f. UnlessMemory f (Faults names text f))
  read_err (Ok a) h = tt
  read_err (Err f) h = unless_map f (λ (is : asked names text ≡ Err f). subst (IsAnswer names text) is (asked_answer names text)) (read_exact (Err f) h)
