use Rattle.pref_script.proofs.Common.{passes_at_first, true≢false, arith, eqb-false, eqb-true, is_blank}
use Rattle.pref_script.proofs.WordsLaws.{rest_first, word_at, word_place, word_stripped}
use Rattle.std.proofs.lemmas.Bool.{false_from_ne_true}
use Rattle.pref_script.proofs.words.strip_word.Goals as goal

pub returns-in_err-rest : goal.returns-in_err-rest
returns-in_err-rest c = grind (arith, false_from_ne_true, word_at, word_place)

pub returns-then-not-is_blank_byte : goal.returns-then-not-is_blank_byte
returns-then-not-is_blank_byte c = grind (arith, eqb-false, false_from_ne_true, word_place, true≢false, passes_at_first is_blank c.args.text.now 0, rest_first)

pub returns : goal.returns
returns c = grind (arith, rest_first, eqb-true, word_stripped)
