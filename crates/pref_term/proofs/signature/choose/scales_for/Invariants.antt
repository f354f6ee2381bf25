use Rattle.pref_term.proofs.Common.{◌<◌, All}
use Rattle.pref_term.specs.Signatures.{IsBy}
use Rattle.pref_term.proofs.signature.choose.scales_for.Given as goal

-- the columns so far are within a row, and the scales by these keys
abbrev pub invariant-loop-key : goal.invariant-loop-key
invariant-loop-key l = record {
  within : All (λ scale. scale.key.col < 16) l.scales.items;
  by : All (IsBy l.keys) l.scales.items;
}
