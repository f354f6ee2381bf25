use Rattle.pref_script.proofs.Common.{◌≡◌, length, true, AllGiven, ArePartsUpTo, raw_lines}
use Rattle.pref_script.proofs.parts.client_parts.Given as goal

abbrev pub invariant-loop-left : goal.invariant-loop-left
invariant-loop-left l = record {
  count : length l.parts.items ≡ l.clients;
  parts : ArePartsUpTo l.schema (raw_lines l.lines) (raw_lines l.left) l.parts.items;
  given : l.all_given ≡ true → AllGiven l.clients (raw_lines l.left) → AllGiven l.clients (raw_lines l.lines);
}

abbrev pub decreases-loop-left : goal.decreases-loop-left
decreases-loop-left l = length l.left
