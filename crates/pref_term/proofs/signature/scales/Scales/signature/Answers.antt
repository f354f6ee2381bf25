use Rattle.pref_term.proofs.Common.{arith, common_steps}
use Rattle.pref_term.proofs.SignatureWords.{signed_onto_append}
use Rattle.pref_term.proofs.signature.scales.Scales.signature.Goals as goal

-- the bits of the scale at hand come first of those that are left
pub loop-scale-preserved : goal.loop-scale-preserved
loop-scale-preserved c = grind (arith, common_steps, signed_onto_append)
