use Rattle.pref_script.proofs.Common.{◌≤◌, ℕ, List, Result, arith, length, in_bytes, sink_of, source_of, Consumes, IsAtEnd}
use Rattle.pref_script.proofs.Common.{Limits, PrintsOutput, Sink, Source, Wrote, RunFault}
use Rattle.pref_script.specs.Run.{Ran}
use Rattle.pref_script.proofs.run.run_script.Goals as goal

-- a run that read its input whole, and wrote what a script may return
ran : (limits : Limits) (source : Source) (sink : Sink) (bytes : List ℕ) (returned : Result (List ℕ) RunFault)
    (result : Result (Unit {0}) RunFault) → Consumes source.had source.left bytes → IsAtEnd source.left → length bytes ≤ 16777216
    → PrintsOutput limits bytes returned → Wrote sink returned result → Ran (PrintsOutput limits) source sink result
ran limits source sink bytes returned result read ended most prints wrote = grind (arith)

pub returns-clause-ran : goal.returns-clause-ran
returns-clause-ran g c =
    let source = source_of g.R.Read.remaining c.args.reader.now c.read_input.new.reader in
    let sink = sink_of g.W.Write.contents c.args.writer.now c.write_result.new.writer in
    let (read, ended, most) = c.in_ok-input.ensures.ok in
    let prints = rw c.as_slice.ensures.value at c.reply_text-returned.ensures in
    ran c.args.setup source sink c.in_ok-input.input.items (in_bytes c.reply_text-returned.result) c.write_result.result
    read ended most prints c.write_result.ensures
