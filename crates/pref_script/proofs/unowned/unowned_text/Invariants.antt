use Rattle.pref_script.proofs.Common.{◌≡◌, ◌+◌, ◌<◌, ◌^◌, ◌++◌, length, string_bytes, commands_of, raw_lines, unowned_lines}
use Rattle.pref_script.proofs.unowned.unowned_text.Given as goal

abbrev pub invariant-loop-left : goal.invariant-loop-left
invariant-loop-left l = record {
  few : l.number + length l.left < 2 ^ 64;
  returned : string_bytes l.text ++ unowned_lines (length l.parts) (length l.schema) (commands_of l.schema l.number (raw_lines l.left))
      ≡ unowned_lines (length l.parts) (length l.schema) (commands_of l.schema l.script.first (raw_lines l.script.commands.now));
}

abbrev pub decreases-loop-left : goal.decreases-loop-left
decreases-loop-left l = length l.left
