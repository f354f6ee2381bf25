use Rattle.pref_core.proofs.Common.{rules}
use Rattle.pref_core.proofs.index.Index.follow.Goals as goal

-- for an edit that must fail: an answer fails at once, a search twice at its limits
pub returns-in_err-reserve-clause-same : goal.returns-in_err-reserve-clause-same
returns-in_err-reserve-clause-same c = search rules
