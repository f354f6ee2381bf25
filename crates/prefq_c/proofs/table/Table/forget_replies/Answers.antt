use Rattle.std.proofs.Common.{◌∙◌, refl}
use Rattle.prefq_c.proofs.table.Table.forget_replies.Goals as goal

-- for an edit that must fail: an answer fails at once, a search twice at its limits
pub returns : goal.returns
returns c = (c.shrink_to.ensures.bytes ∙ (cc), refl)
