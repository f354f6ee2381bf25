use Rattle.pref_term.proofs.Common.{◌≡◌, drop, flat_map, bits_by, signature, signed_onto}
use Rattle.pref_term.proofs.signature.scales.Scales.signature.Given as goal

-- the scales that are left make the rest
abbrev pub invariant-loop-scale : goal.invariant-loop-scale
invariant-loop-scale l = signed_onto l.bits (flat_map (λ scale. bits_by scale l.row) (drop l.scale-index l.scale-items)) ≡ signature l.self l.row
