use Rattle.pref_term.proofs.Common.{◌≡◌, refl, sym, ap, ◌∙◌, codes, str_to_ascii_lowercase, bytes_eq-Decides, ahead, seen, is_word, is_distinct_ahead, word_ahead}
use Rattle.pref_term.proofs.LedLemmas.{taken_is}
use Rattle.pref_term.proofs.DistinctLemmas.{third_decides, not_word}
use Rattle.pref_term.proofs.read.ask.is_distinct_ahead.Goals.{Then-eq_ignore_ascii_case}
use Rattle.pref_term.proofs.read.ask.is_distinct_ahead.Goals as goal

-- the second token behind the word decides
by_third : (c : Then-eq_ignore_ascii_case) → is_distinct_ahead (ahead c.args.cursor) ≡ is_word (seen c.take-third.result.token)
by_third c =
    let t = c.take-taken.result in
    let w = c.in-Word.letters.now in
    let ahead_is = taken_is _ t _ c.take-taken.ensures c.in-Word.is ∙ ap (word_ahead w t.at) c.take-second.ensures in
    let is = (bytes_eq-Decides (codes "distinct") (str_to_ascii_lowercase w)).1 (sym (c.if-eq_ignore_ascii_case.ensures.test.0 refl)) in
    third_decides _ w t.at c.take-second.result c.take-third.result ahead_is c.if-ends.ensures.no c.take-third.ensures is

pub returns-in-Word-matches : goal.returns-in-Word-matches
returns-in-Word-matches c = sym (by_third (goal.at.returns-in-Word-matches c).Then-eq_ignore_ascii_case ∙ ap (λ k. is_word (seen k)) c.in-Word-matches.is)

pub returns-in_default-matches : goal.returns-in_default-matches
returns-in_default-matches c = sym (by_third (goal.at.returns-in_default-matches c).Then-eq_ignore_ascii_case ∙ not_word _ c.in_default-matches.not-Word)
