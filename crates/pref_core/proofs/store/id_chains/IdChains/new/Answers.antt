use Rattle.pref_core.proofs.Common.{arith, common_steps}
use Rattle.pref_core.proofs.OpeningLaws.{opening_links}
use Rattle.pref_core.proofs.store.id_chains.IdChains.new.Goals as goal

pub returns : goal.returns
returns c ids is = opening_links c.args.capacity c.args.rows ids _ c.requires.few c.requires.rows is (grind (arith, common_steps)) (grind (arith, common_steps)) (grind (arith, common_steps))
