use Rattle.std.proofs.Common.{refl}
use Rattle.prefq_c.proofs.table.Table.of.Goals as goal

-- for an edit that must fail: an answer fails at once, a search twice at its limits
pub returns : goal.returns
returns c = (refl, refl, c.in-Ok.ensures.opened.0, c.in-Ok.ensures.opened.1, c.capacity-capacity.ensures.value)
