use Rattle.pref_sky.proofs.Common.{rules}
use Rattle.pref_sky.proofs.entry.is_over.Goals as goal

-- for an edit that must fail: an answer fails at once, a search twice at its limits
pub returns-then-a-b : goal.returns-then-a-b
returns-then-a-b g c = search rules
