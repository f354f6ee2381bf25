use Rattle.pref_script.proofs.Common.{sink_of, source_of}
use Rattle.pref_script.proofs.LiveRunLaws.{refused_live}
use Rattle.pref_script.proofs.live.run_live.Goals as goal

pub returns : goal.returns
returns g c =
    let source = source_of g.R.Read.remaining c.args.reader.now c.open_live.new.reader in
    let sink = sink_of g.W.Write.contents c.args.writer.now c.write_result.new.writer in
    refused_live c.args.setup source sink c.open_live.new.ahead c.in-Err.fault c.write_result.result c.in-Err.ensures c.write_result.ensures
