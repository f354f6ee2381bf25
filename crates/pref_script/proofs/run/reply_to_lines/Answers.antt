use Rattle.pref_script.proofs.Common.{◌∙◌, ap, append-nil, arith, commands_of, command_lines, length, length-append, names_of, sym}
use Rattle.pref_script.proofs.PlayLaws.{playing_line}
use Rattle.pref_script.proofs.ScriptLaws.{lines_empty}
use Rattle.pref_script.proofs.run.reply_to_lines.Goals as goal

pub loop-left-preserved : goal.loop-left-preserved
loop-left-preserved c =
    let prints = rw c.line_text.ensures at c.in_ok-reply_to.ensures.returned in
    record {
      names = prints.names ∙ c.loop-left.invariant.names;
      few = omega (arith, prints.number, c.loop-left.invariant.few, ap length c.cut_line.ensures.whole, length-append c.cut_line.result.0.now c.cut_line.result.1.now, c.cut_line.ensures.some);
      playing = rw prints.number (playing_line _ (names_of c.args.live.now) _ _ _ _ _ c.loop-left.left.now c.cut_line.result.0.now c.cut_line.result.1.now _ _ c.loop-left.invariant.playing c.cut_line.ensures.lines (rw c.loop-left.invariant.names at prints.plays));
    }

pub returns-clause-returned : goal.returns-clause-returned
unfolding commands_of command_lines
returns-clause-returned c = λ system h. sym (append-nil _) ∙ (rw (lines_empty c.loop-left.left.now (grind arith)) at (c.loop-left.invariant.playing.from system h).whole)
