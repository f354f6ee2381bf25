use Rattle.pref_core.proofs.Common.{◌≡◌, ◌≤◌, ◌++◌, length, drop, System, replies, replies_from, StandsForSystem}
use Rattle.pref_core.proofs.run.replay_part.Given as goal

abbrev pub invariant-loop-event : goal.invariant-loop-event
invariant-loop-event l = record {
  limits : l.machine.limits ≡ l.fn.setup;
  few : length l.fn.rows ≤ l.fn.setup.capacity;
  system : System;
  stands : StandsForSystem l.machine system;
  count : length l.returned.items ≡ length l.yielded;
  rest : l.returned.items ++ replies_from l.fn.setup system (drop (length l.yielded) l.fn.events.items) ≡ replies l.fn.setup l.fn.rows l.fn.events.items;
}
