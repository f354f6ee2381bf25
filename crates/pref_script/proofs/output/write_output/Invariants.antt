use Rattle.pref_script.proofs.Common.{◌≡◌, ◌≤◌, ℕ, length, take, drop, Appends}
use Rattle.pref_script.proofs.output.write_output.Given as goal

-- a beginning of the bytes was written, and the rest is left
abbrev pub invariant-loop-rest : goal.invariant-loop-rest
invariant-loop-rest g l =
    let contents = g.W.Write.contents in
    (count : ℕ) × (count ≤ length l.bytes) × (l.rest ≡ drop count l.bytes) × Appends (contents l.fn.writer.inner) (contents l.writer.inner) (take count l.bytes)

abbrev pub decreases-loop-rest : goal.decreases-loop-rest
decreases-loop-rest g l = length l.rest
