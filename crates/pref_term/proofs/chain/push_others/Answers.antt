use Rattle.pref_term.proofs.Common.{arith}
use Rattle.pref_term.proofs.LeadingLaws.{one_added, one_held}
use Rattle.pref_term.proofs.chain.push_others.Goals as goal

pub loop-other-preserved-in-Continue-1 : goal.loop-other-preserved-in-Continue-1
loop-other-preserved-in-Continue-1 c = grind (arith, one_added, one_held)

pub loop-other-preserved : goal.loop-other-preserved
loop-other-preserved c = grind (arith, one_added, one_held)
