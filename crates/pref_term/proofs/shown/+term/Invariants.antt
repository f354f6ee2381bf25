use Rattle.pref_term.proofs.Common.{◌+◌, ◌*◌, preference_of}
use Rattle.pref_term.proofs.Sizes.{size}
use Rattle.pref_term.proofs.shown.+term.Given as goal

abbrev pub decreases-show_term : goal.decreases-show_term
decreases-show_term l = 3 * size (preference_of l.term.now)

abbrev pub decreases-show_part : goal.decreases-show_part
decreases-show_part l = 3 * size (preference_of l.part.now) + 1

abbrev pub decreases-show_parts : goal.decreases-show_parts
decreases-show_parts l = 3 * (size (preference_of l.first.0.now) + size (preference_of l.second.0.now)) + 2
