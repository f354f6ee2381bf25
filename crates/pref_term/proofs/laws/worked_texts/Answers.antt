use Rattle.pref_term.proofs.Common.{refl, asked}
use Rattle.pref_term.proofs.laws.worked_texts.Goals as goal

pub returns : goal.returns
unfolding asked
returns c = record { best = refl; skyline = refl; unknown = refl; unordered = refl; distinct = refl; column = refl; no_column = refl; column_then = refl; comma_then_word = refl }
