use Rattle.pref_script.proofs.Common.{◌∙◌, length, sym}
use Rattle.pref_script.proofs.CommandLaws.{unowned-blank, unowned-event, unowned-refused}
use Rattle.pref_script.proofs.unowned.push_unowned.Goals as goal

pub returns-then-is_blank_line-clause-returned : goal.returns-then-is_blank_line-clause-returned
returns-then-is_blank_line-clause-returned c = unowned-blank c.args.clients (length c.args.schema.now) c.args.schema.now c.args.number c.args.line.now _ (sym c.is_blank_line.ensures ∙ c.if-is_blank_line.true)

pub returns-in_ok-push_if_nobody-in-Ok-clause-returned : goal.returns-in_ok-push_if_nobody-in-Ok-clause-returned
returns-in_ok-push_if_nobody-in-Ok-clause-returned c =
    unowned-event c.args.clients (length c.args.schema.now) c.args.schema.now c.args.number c.args.line.now _ _ c.in-Ok.event (sym c.is_blank_line.ensures ∙ c.if-is_blank_line.false) c.in-Ok.ensures c.in_ok-push_if_nobody-in-Ok.ensures

pub returns-in_ok-push_refused-in-Err-Refused-clause-returned : goal.returns-in_ok-push_refused-in-Err-Refused-clause-returned
returns-in_ok-push_refused-in-Err-Refused-clause-returned c =
    unowned-refused c.args.clients (length c.args.schema.now) c.args.schema.now c.args.number c.args.line.now _ _ c.in-Err-Refused.why (sym c.is_blank_line.ensures ∙ c.if-is_blank_line.false) (rw c.in-Err-Refused.field-0-is at c.in-Err-Refused.ensures)
    c.in_ok-push_refused-in-Err-Refused.ensures
