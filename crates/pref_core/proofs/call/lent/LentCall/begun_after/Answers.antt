use Rattle.pref_core.proofs.Common.{rules}
use Rattle.pref_core.proofs.call.lent.LentCall.begun_after.Goals as goal

-- for an edit that must fail: an answer fails at once, a search twice at its limits
pub returns-in-Finish : goal.returns-in-Finish
returns-in-Finish c = search rules
