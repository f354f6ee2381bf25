use Rattle.pref_sky.proofs.Common.{◌≡◌, ap, arith, length, length_push, subst, sym}
use Rattle.pref_sky.proofs.SweepLaws.{swept_longer}
use Rattle.pref_sky.specs.Sweep.{HasSwept}
use Rattle.pref_sky.proofs.sweep.Sweep.begin_level.Goals as goal

pub returns-in_ok-push-clause-so_far : goal.returns-in_ok-push-clause-so_far
returns-in_ok-push-clause-so_far c over second third rule mark cut all i so_far early within =
    let levels = c.args.self.now.levels.items in
    let class = c.args.self.now.class in
    let last : c.args.self.now.above ≡ length levels = omega arith in
    let pushed = (c.in_ok-push.ensures {u = tt}).items in (
      subst (HasSwept over second third rule mark cut all i class) (sym pushed)
          (swept_longer so_far c.new.result (omega (arith, last, early)) (c.new.ensures over second third rule mark all class i (length levels))),
      omega (arith, last, ap length pushed, length_push levels c.new.result),
    )
