use Rattle.pref_term.proofs.Common.{rules}
use Rattle.pref_term.proofs.number.count_value.Goals as goal

-- for an edit that must fail: an answer fails at once, a search twice at its limits
pub returns : goal.returns
returns c = search rules
