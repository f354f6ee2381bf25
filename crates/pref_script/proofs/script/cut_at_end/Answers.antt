use Rattle.pref_script.proofs.Common.{◌∙◌, sym, arith}
use Rattle.pref_script.proofs.ScriptLaws.{seen_all, seen_found, seen_more}
use Rattle.pref_script.proofs.script.cut_at_end.Goals as goal

pub returns-then-is_end_line : goal.returns-then-is_end_line
returns-then-is_end_line c =
    seen_found c.args.rest.now c.loop-left.left.now c.cut_line.result.0.now c.cut_line.result.1.now c.loop-left.count c.loop-left.invariant c.cut_line.ensures.lines c.cut_line.ensures.whole
    (sym c.is_end_line.ensures ∙ c.if-is_end_line.true)

pub loop-left-preserved : goal.loop-left-preserved
loop-left-preserved c =
    seen_more c.args.rest.now c.loop-left.left.now c.cut_line.result.0.now c.cut_line.result.1.now c.loop-left.count c.loop-left.invariant c.cut_line.ensures.lines c.cut_line.ensures.whole c.cut_line.ensures.some
    (sym c.is_end_line.ensures ∙ c.if-is_end_line.false)

pub returns : goal.returns
returns c = seen_all c.args.rest.now c.loop-left.left.now c.loop-left.count c.loop-left.invariant (grind arith)
