use Rattle.std.proofs.Common.{length, string_bytes}
use Rattle.pref_script.specs.Script.{raw_lines, without_line_end}
use Rattle.prefq_c.specs.Lines.{Replies}
use Rattle.prefq_c.proofs.EachLaws.{GoesOn}
use Rattle.prefq_c.proofs.table.Table.reply_to_lines.Given as goal

abbrev pub invariant-loop-left : goal.invariant-loop-left
invariant-loop-left l = GoesOn (λ line. Replies (without_line_end line)) (λ _ size. size) (length (string_bytes l.fn.self.text)) (raw_lines l.lines) l.fn.self l.size (raw_lines l.left) l.self

abbrev pub decreases-loop-left : goal.decreases-loop-left
decreases-loop-left l = length l.left
