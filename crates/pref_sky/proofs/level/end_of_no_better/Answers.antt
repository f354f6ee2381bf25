use Rattle.pref_sky.proofs.Common.{◌+◌, arith, cases_eq, get_or-drop, get_or-take, get_or_default, length-drop}
use Rattle.pref_sky.proofs.level.end_of_no_better.Goals as goal

pub loop-skipped-preserved : goal.loop-skipped-preserved
loop-skipped-preserved c k le near = grind (arith, le, near, cases_eq k (c.args.from + c.loop-skipped.skipped), c.loop-skipped.invariant k, get_or-drop, get_or-take, length-drop, get_or_default c.args.entries.now)
