use Rattle.pref_sky.proofs.Common.{◌≡◌, ◌+◌, ◌-◌, [], arith, entry_at, get_or-map, length-map, level_of, own_order, subst}
use Rattle.pref_sky.proofs.LeveledLaws.{level_is}
use Rattle.pref_sky.proofs.ListLaws.{front_more}
use Rattle.pref_sky.specs.Sweep.{AreAbove}
use Rattle.pref_sky.proofs.sweep.find_levels.Goals as goal

pub loop-place-preserved : goal.loop-place-preserved
loop-place-preserved c =
    let over = own_order c.args.order.now in
    let cut = c.args.order.now.cut in
    let all = c.args.entries.now in
    let i = c.loop-place.place in
    let inside = c.loop-place-test.true in
    let passed = c.in_ok-step.ensures {u = tt} in
    let n = c.step.new.self.above in
    let last : i + 1 - 1 ≡ i = omega arith in
    let above = subst (λ j. AreAbove over cut all (entry_at all j) n) last (passed.above (omega arith)) in
    let level = level_is over cut all (entry_at all i) n above in
    record { passed = passed; found = grind (arith, level, get_or-map (level_of over all cut) all i (record { id = 0; row = [] }) c.level.result, front_more, length-map) }
