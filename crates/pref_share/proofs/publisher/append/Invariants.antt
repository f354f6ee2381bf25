use Rattle.pref_share.proofs.Common.{◌≡◌, drop}
use Rattle.pref_share.proofs.publisher.append.Given as goal

abbrev pub invariant-loop : goal.invariant-loop
invariant-loop g l = (l.writer.desk ≡ l.fn.writer.desk) × (drop l.writer.behind l.writer.log.items ≡ drop l.fn.writer.behind l.fn.writer.log.items) × (l.stamp ≡ l.fn.stamp) × (goal.iterator-loop g).can_next l.iterator' × (goal.iterator-loop g).is_finite l.iterator'
