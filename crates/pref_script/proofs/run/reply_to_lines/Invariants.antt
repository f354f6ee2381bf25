use Rattle.pref_script.proofs.Common.{◌≡◌, ◌+◌, ◌<◌, ◌^◌, length, string_bytes, commands_of, names_of, next_number, running_of, raw_lines}
use Rattle.pref_script.proofs.PlayLaws.{Playing}
use Rattle.pref_script.proofs.run.reply_to_lines.Given as goal

abbrev pub invariant-loop-left : goal.invariant-loop-left
invariant-loop-left l = record {
  names : names_of l.live ≡ names_of l.fn.live;
  few : next_number l.live + length l.left < 2 ^ 64;
  playing : Playing (length (names_of l.fn.live)) (running_of l.fn.live) (commands_of (names_of l.fn.live) (next_number l.fn.live) (raw_lines l.lines)) (string_bytes l.text) (running_of l.live)
      (commands_of (names_of l.fn.live) (next_number l.live) (raw_lines l.left));
}

abbrev pub decreases-loop-left : goal.decreases-loop-left
decreases-loop-left l = length l.left
