use Rattle.pref_script.proofs.Common.{◌≡◌, ◌++◌, drop, string_bytes, level_lines}
use Rattle.pref_script.proofs.text.push_levels.Given as goal

abbrev pub invariant-loop-ranked : goal.invariant-loop-ranked
invariant-loop-ranked l = string_bytes l.out ++ level_lines l.width (drop l.ranked-index l.rows) ≡ string_bytes l.fn.out ++ level_lines l.width l.rows
