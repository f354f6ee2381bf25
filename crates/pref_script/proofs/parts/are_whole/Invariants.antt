use Rattle.pref_script.proofs.Common.{◌<◌, ℕ, get_or, Part}
use Rattle.pref_script.specs.ClientParts.{IsWhole}
use Rattle.pref_script.proofs.parts.are_whole.Given as goal

abbrev pub invariant-loop-part : goal.invariant-loop-part
invariant-loop-part l = (place : ℕ) (other : Part) → place < l.part-index → IsWhole (get_or l.parts place other)
