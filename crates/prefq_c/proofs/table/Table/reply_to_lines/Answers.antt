use Rattle.std.proofs.Common.{◌≡◌, Err, arith, rules}
use Rattle.pref_script.specs.Script.{without_line_end}
use Rattle.pref_script.proofs.ScriptLaws.{lines_empty}
use Rattle.prefq_c.specs.Lines.{Replies}
use Rattle.prefq_c.proofs.EachLaws.{all_done, one_more, one_refused}
use Rattle.prefq_c.proofs.table.Table.reply_to_lines.Goals as goal

pub loop-left-preserved : goal.loop-left-preserved
loop-left-preserved c =
    one_more (λ line. Replies (without_line_end line)) (λ _ size. size) _ _ c.args.self.now c.loop-left.size _ _ _ _ c.loop-left.self _ c.loop-left.invariant c.cut_line.ensures.lines (rw c.line_text.ensures at c.in_ok-size.ensures)

pub returns-in_err-size : goal.returns-in_err-size
returns-in_err-size c =
    let is : c.from_residual.result ≡ Err c.in_err-size.field-0.0 = search rules in
    rw is (one_refused (λ line. Replies (without_line_end line)) (λ _ size. size) _ _ c.args.self.now c.loop-left.size _ _ _ _ c.loop-left.self _ c.loop-left.invariant c.cut_line.ensures.lines c.in_err-size.ensures)

pub returns : goal.returns
returns c = all_done (λ line. Replies (without_line_end line)) (λ _ size. size) _ _ c.args.self.now c.loop-left.size _ c.loop-left.self c.loop-left.invariant (lines_empty c.loop-left.left.now (grind arith))
