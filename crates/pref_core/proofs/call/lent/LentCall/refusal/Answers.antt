use Rattle.pref_core.proofs.Common.{le-ltb, refl}
use Rattle.pref_core.proofs.call.lent.LentCall.refusal.Goals as goal

-- for an edit that must fail: an answer fails at once, a search twice at its limits
pub returns-then-calls-ge-MOST_CALLS : goal.returns-then-calls-ge-MOST_CALLS
returns-then-calls-ge-MOST_CALLS c = rw (le-ltb c.args.calls _ c.if-calls-ge-MOST_CALLS.true) refl
