use Rattle.std.proofs.Common.{refl}
use Rattle.prefq_c.proofs.sizes.or_else.Goals as goal

-- for an edit that must fail: an answer fails at once, a search twice at its limits
pub returns-then-size-eq0 : goal.returns-then-size-eq0
returns-then-size-eq0 c = rw c.if-size-eq0.true refl
