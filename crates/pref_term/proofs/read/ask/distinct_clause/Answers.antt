use Rattle.pref_term.proofs.Common.{bytes_eq-Decides, ◌≡◌, true, codes, List, refl, sym, subst, ap, ◌∙◌, ◌∷◌, bytes_eq, str_to_ascii_lowercase, Placed, ahead, behind_token, seen, is_distinct_ahead}
use Rattle.pref_term.proofs.Common.{IsBehindDistinct, word_ahead}
use Rattle.pref_term.proofs.LedLemmas.{taken_is}
use Rattle.pref_term.proofs.DistinctLemmas.{behind_distinct, behind_said}
use Rattle.pref_term.proofs.read.ask.distinct_clause.Goals as goal

pub returns-then-is_distinct_ahead : goal.returns-then-is_distinct_ahead
returns-then-is_distinct_ahead c =
    let t = c.take-first.result in
    let u = c.take-second.result in
    let r = c.take.result in
    let s = c.in-Word.skyline.now in
    let o = c.in-Word-token.of.now in
    let ahead_is : is_distinct_ahead (ahead u.next) ≡ true = sym c.is_distinct_ahead.ensures ∙ c.if-is_distinct_ahead.true in
    let there : is_distinct_ahead (record { token = seen r.token; place = r.at } ∷ behind_token r.token (ahead r.next)) ≡ true = ap is_distinct_ahead (sym c.take.ensures) ∙ ahead_is in
    let rest = behind_said r.token r.at (ahead r.next) there in
    let third : ahead u.next ≡ record { token = seen r.token; place = r.at } ∷ ahead r.next = c.take.ensures ∙ ap (λ xs. record { token = seen r.token; place = r.at } ∷ xs) rest in
    let second : ahead t.next ≡ word_ahead o u.at (ahead u.next) = taken_is _ u _ c.take-second.ensures c.in-Word-token.is in
    let first : ahead c.args.cursor ≡ word_ahead s t.at (ahead t.next) = taken_is _ t _ c.take-first.ensures c.in-Word.is in
    let hs : bytes_eq (codes "skyline") (str_to_ascii_lowercase s) ≡ true = (bytes_eq-Decides (codes "skyline") (str_to_ascii_lowercase s)).1 (sym (c.if-eq_ignore_ascii_case.ensures.test.0 refl)) in
    let ho : bytes_eq (codes "of") (str_to_ascii_lowercase o) ≡ true = (bytes_eq-Decides (codes "of") (str_to_ascii_lowercase o)).1 (sym (c.if-eq_ignore_ascii_case-2.ensures.test.0 refl)) in
    subst (λ (ts : List Placed). IsBehindDistinct ts (ahead r.next)) (sym (first ∙ ap (word_ahead s t.at) (second ∙ ap (word_ahead o u.at) third)))
    (behind_distinct s o t.at u.at (record { token = seen r.token; place = r.at }) (ahead r.next) hs ho (ap is_distinct_ahead (sym third) ∙ ahead_is))
