use Rattle.pref_script.proofs.Common.{◌≤◌, ◌-◌, vec_len, Consumes}
use Rattle.pref_script.proofs.input.read_input.Given as goal

abbrev pub invariant-loop-chunk : goal.invariant-loop-chunk
invariant-loop-chunk g l =
    let remaining = g.R.Read.remaining in
    (vec_len l.input ≤ 16777217) × Consumes (remaining l.fn.reader.inner) (remaining l.reader.inner) l.input.items

abbrev pub decreases-loop-chunk : goal.decreases-loop-chunk
decreases-loop-chunk g l = 16777217 - vec_len l.input
