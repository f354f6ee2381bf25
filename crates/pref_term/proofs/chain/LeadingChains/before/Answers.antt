use Rattle.pref_term.proofs.Common.{arith, common_steps}
use Rattle.pref_term.proofs.LeadingLaws.{part_leads, whole_leads}
use Rattle.pref_term.proofs.chain.LeadingChains.before.Goals as goal

pub returns : goal.returns
returns c = grind (arith, common_steps, part_leads, whole_leads)
