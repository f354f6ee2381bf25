use Rattle.pref_script.proofs.ThreadsLaws.{holds-nobody}
use Rattle.pref_script.proofs.threads.run_script_on_threads.Goals as goal

pub returns-clause-nobody : goal.returns-clause-nobody
returns-clause-nobody g c = holds-nobody c.args.setup _ _ _ _ c.run_threads-returned.ensures c.write_result.ensures
