use Rattle.pref_script.proofs.Common.{refl}
use Rattle.pref_script.proofs.PlayLaws.{plays_done, plays_failed}
use Rattle.pref_core.specs.declared.event.Act.TheVariants.{Update}
use Rattle.pref_script.proofs.playing.play_update.Goals as goal

pub returns-in-Ok : goal.returns-in-Ok
returns-in-Ok c width = plays_done _ width c.args.machine.now c.update.new.self (record { client = c.args.client; act = Update c.args.id c.args.row.now }) _ _ _ c.push_line.result refl c.in-Ok.ensures c.push_line.ensures

pub returns-in-Err : goal.returns-in-Err
returns-in-Err c width = plays_failed _ width c.args.machine.now c.update.new.self (record { client = c.args.client; act = Update c.args.id c.args.row.now }) _ _ _ c.push_failed_change.result refl c.in-Err.ensures c.push_failed_change.ensures
