use Rattle.pref_core.proofs.Common.{rules}
use Rattle.pref_core.proofs.store.needs.use_of.Goals as goal

-- for an edit that must fail: an answer fails at once, a search twice at its limits
pub returns-in-Some-2 : goal.returns-in-Some-2
returns-in-Some-2 c = search rules
