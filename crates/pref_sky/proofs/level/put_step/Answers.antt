use Rattle.pref_sky.proofs.Common.{arith, get_or_default}
use Rattle.pref_sky.proofs.level.put_step.Goals as goal
use Rattle.std.proofs.lemmas.Grind.{common_steps}

pub returns-else-from-to : goal.returns-else-from-to
returns-else-from-to c = grind (arith, common_steps, get_or_default c.args.entries.now c.args.place c.index-entries-place.result)
