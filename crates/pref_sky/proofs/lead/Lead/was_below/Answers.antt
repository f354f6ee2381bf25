use Rattle.pref_sky.proofs.Common.{rules}
use Rattle.pref_sky.proofs.lead.Lead.was_below.Goals as goal

-- for an edit that must fail: an answer fails at once, a search twice at its limits
pub returns-then-level-gt0 : goal.returns-then-level-gt0
returns-then-level-gt0 c = search rules
