use Rattle.pref_script.proofs.Common.{refl, IfOk-weaker, exits, names_of, running_of}
use Rattle.pref_script.proofs.OutputLaws.{script-ok, script-sections-fault, prints-played}
use Rattle.pref_script.proofs.PlayLaws.{prints_output}
use Rattle.pref_script.proofs.run.reply_text.Goals as goal

pub returns-in_err-table : goal.returns-in_err-table
returns-in_err-table c = rw (exits c.from_residual.result c.from_residual.ensures.1) (script-sections-fault c.args.setup c.args.bytes.now c.in_err-table.field-0.0 c.in_err-table.ensures.sections)

pub returns-in_err-live : goal.returns-in_err-live
returns-in_err-live c = rw (exits c.from_residual-in_err-live.result c.from_residual-in_err-live.ensures.1) (c.in_err-live.ensures.fault c.args.bytes.now _ c.in_ok-table.ensures.sections refl)

pub returns : goal.returns
returns c =
    let live = c.in_ok-live.live in
    let opened = c.in_ok-live.ensures.opened in
    let said = script-ok c.args.setup c.args.bytes.now _ (names_of live, opened.rows) c.in_ok-table.ensures.sections opened.gives opened.room in
    let returned = IfOk-weaker c.reply_to_lines.result _ _ (λ text prints. prints_output c.args.setup opened.rows (names_of live) _ _ _ (running_of live) _ opened.bounds opened.stands prints opened.starts) c.reply_to_lines.ensures.returned in
    prints-played c.args.setup c.args.bytes.now _ c.reply_to_lines.result said returned c.reply_to_lines.ensures.memory
