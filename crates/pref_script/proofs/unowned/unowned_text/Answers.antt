use Rattle.pref_script.proofs.Common.{◌∙◌, ap, append-nil, arith, commands_of, exits, length, length-append, sym, texts}
use Rattle.pref_script.proofs.CommandLaws.{unowned-more}
use Rattle.pref_script.proofs.ScriptLaws.{lines_empty}
use Rattle.pref_script.proofs.unowned.unowned_text.Goals as goal

pub loop-left-preserved : goal.loop-left-preserved
loop-left-preserved c =
    let raw = c.cut_line.result.0.now in
    let tail = c.cut_line.result.1.now in
    let returned = rw c.line_text.ensures at c.in_ok-push_unowned.ensures.returned in
    record {
      few = omega (arith, c.loop-left.invariant.few, ap length c.cut_line.ensures.whole, length-append raw tail, c.cut_line.ensures.some);
      returned = unowned-more (length c.args.parts.now) (length c.args.schema.now) c.args.schema.now c.loop-left.number c.loop-left.left.now raw tail _ _ _ c.loop-left.invariant.returned c.cut_line.ensures.lines returned;
    }

pub returns-clause-returned : goal.returns-clause-returned
unfolding commands_of texts
returns-clause-returned c = sym (append-nil _) ∙ (rw (lines_empty c.loop-left.left.now (grind arith)) at c.loop-left.invariant.returned)

pub returns-in_err-push_unowned : goal.returns-in_err-push_unowned
returns-in_err-push_unowned c = grind (arith, exits)

pub loop-left-smaller : goal.loop-left-smaller
loop-left-smaller c = omega (arith, ap length c.cut_line.ensures.whole, length-append c.cut_line.result.0.now c.cut_line.result.1.now, c.cut_line.ensures.some)
