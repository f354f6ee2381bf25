use Rattle.pref_term.proofs.Common.{rules}
use Rattle.pref_term.proofs.shown.is_composed.Goals as goal

-- for an edit that must fail: an answer fails at once, a search twice at its limits
pub returns-in_default : goal.returns-in_default
returns-in_default c = search rules
