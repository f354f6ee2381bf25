use Rattle.pref_script.proofs.Common.{◌≡◌, ◌++◌, string_bytes, row_text}
use Rattle.pref_script.proofs.text.push_row.Given as goal

abbrev pub invariant-loop-col : goal.invariant-loop-col
invariant-loop-col l = string_bytes l.out ≡ string_bytes l.fn.out ++ row_text l.col l.row
