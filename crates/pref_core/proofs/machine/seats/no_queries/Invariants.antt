use Rattle.pref_core.proofs.Common.{◌≡◌, replicate, None}
use Rattle.pref_core.proofs.machine.seats.no_queries.Given as goal

abbrev pub invariant-loop-client : goal.invariant-loop-client
invariant-loop-client l = l.queries.items ≡ replicate l._client None
