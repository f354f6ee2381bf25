use Rattle.pref_term.proofs.Common.{rules}
use Rattle.pref_term.proofs.key.outside.Goals as goal

-- for an edit that must fail: an answer fails at once, a search twice at its limits
pub returns-then-value-left : goal.returns-then-value-left
returns-then-value-left c = search rules
