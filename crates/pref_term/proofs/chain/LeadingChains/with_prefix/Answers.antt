use Rattle.pref_term.proofs.Common.{arith}
use Rattle.pref_term.proofs.LeadingLaws.{behind_leads}
use Rattle.pref_term.proofs.chain.LeadingChains.with_prefix.Goals as goal

-- for an edit that must fail: an answer fails at once, a search twice at its limits
pub returns : goal.returns
returns c = grind (arith, behind_leads)
