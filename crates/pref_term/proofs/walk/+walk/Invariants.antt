use Rattle.pref_term.proofs.Common.{◌+◌, ◌*◌, preference_of}
use Rattle.pref_term.proofs.Sizes.{size}
use Rattle.pref_term.proofs.walk.+walk.Given as goal

abbrev pub decreases-walk : goal.decreases-walk
decreases-walk l = 2 * size (preference_of l.term.now)

abbrev pub decreases-product : goal.decreases-product
decreases-product l = 2 * (size (preference_of l.p.now) + size (preference_of l.q.now)) + 1

abbrev pub decreases-priority : goal.decreases-priority
decreases-priority l = 2 * (size (preference_of l.p.now) + size (preference_of l.q.now)) + 1

abbrev pub decreases-converse : goal.decreases-converse
decreases-converse l = 2 * size (preference_of l.p.now) + 1
