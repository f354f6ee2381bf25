use Rattle.pref_script.proofs.Common.{[], arith, Appends-kept, exits, sink_of, source_of}
use Rattle.pref_script.proofs.HeardLaws.{heard_number, heard_too_many, ran_whole, stops_early}
use Rattle.pref_script.proofs.LineLaws.{some_none}
use Rattle.pref_script.proofs.LiveRunLaws.{replying_more, turn_failed}
use Rattle.pref_script.proofs.live.reply_to_all.Goals as goal

pub loop-line-preserved : goal.loop-line-preserved
loop-line-preserved g c =
    let turned = rw c.in-Replied.is at c.in_ok-take_turn.ensures in
    record {
      number = omega (arith, turned.1.prints.number, c.loop-line.invariant.number);
      replying = λ limits had h. replying_more limits had _ _ (sink_of g.W.Write.contents c.loop-line.writer c.take_turn.new.writer) _ _ _ _ _ (c.loop-line.invariant.replying limits had h) turned.1 turned.2;
    }

pub returns-in_err-take_turn : goal.returns-in_err-take_turn
returns-in_err-take_turn g c =
    let source = source_of g.R.Read.remaining c.loop-line.reader c.take_turn.new.reader in
    let sink = sink_of g.W.Write.contents c.loop-line.writer c.take_turn.new.writer in
    λ limits had h. rw (exits c.from_residual.result c.from_residual.ensures.1)
    (turn_failed limits had _ source sink _ _ _ _ _ (c.loop-line.invariant.replying limits had h) c.in_err-take_turn.ensures)

pub returns-in-End : goal.returns-in-End
returns-in-End g c =
    let source = source_of g.R.Read.remaining c.loop-line.reader c.take_turn.new.reader in
    let sink = sink_of g.W.Write.contents c.loop-line.writer c.take_turn.new.writer in
    let all = sink_of g.W.Write.contents c.args.writer.now c.take_turn.new.writer in
    let turned = rw c.in-End.is at c.in_ok-take_turn.ensures in
    λ limits had h.
    let so_far = c.loop-line.invariant.replying limits had h in
    ran_whole limits had source all _ _ _ so_far.text so_far.hears turned.0 (Appends-kept all.held sink.held sink.holds so_far.text so_far.wrote turned.1)

pub returns : goal.returns
returns g c =
    let all = sink_of g.W.Write.contents c.args.writer.now c.loop-line.writer in
    λ limits had h.
    let so_far = c.loop-line.invariant.replying limits had h in
    let number = heard_number limits h.heard c.args.live.now [] h.script in (
      heard_too_many limits had _ _ _ so_far.text so_far.hears (omega (arith, c.loop-line.invariant.number, number, c.loop-line-test.false)),
      stops_early limits had (source_of g.R.Read.remaining c.loop-line.reader c.loop-line.reader) all _ _ so_far.text so_far.hears (some_none _ _ 0) so_far.wrote,
    )
