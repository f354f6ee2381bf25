use Rattle.pref_share.proofs.Common.{arith, map-append}
use Rattle.std.proofs.lemmas.Grind.{common_steps}
use Rattle.pref_share.proofs.run.all_results.Goals as goal

pub loop-worked-preserved : goal.loop-worked-preserved
loop-worked-preserved g c = grind (arith, common_steps, map-append)

pub returns : goal.returns
returns g c = grind (arith, common_steps)
