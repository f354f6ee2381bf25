use Rattle.std.proofs.Common.{◌∙◌, refl}
use Rattle.prefq_c.proofs.table.Table.reply_to.Goals as goal

-- for an edit that must fail: an answer fails at once, a search twice at its limits
pub returns-in-Ok : goal.returns-in-Ok
returns-in-Ok c = (c.in-Ok.ensures.returned, c.len.ensures ∙ c.reply_to.new.text.bytes.ok.0, refl)
