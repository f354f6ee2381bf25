use Rattle.pref_sky.proofs.Common.{rules}
use Rattle.pref_sky.proofs.own_order.OwnOrder.of.Goals as goal

-- for an edit that must fail: an answer fails at once, a search twice at its limits
pub returns-in_ok-copy-in-Some : goal.returns-in_ok-copy-in-Some
returns-in_ok-copy-in-Some g c = search rules
