use Rattle.pref_share.proofs.Common.{◌≡◌, drop, fold, stamped}
use Rattle.pref_share.proofs.publisher.with_room.Given as goal

abbrev pub invariant-loop : goal.invariant-loop
invariant-loop l = (l.writer.desk.shown.value ≡ l.fn.writer.desk.shown.value) × (fold stamped l.writer.desk.shown.value (drop l.writer.behind l.writer.log.items) ≡ l.writer.desk.shown.value)
