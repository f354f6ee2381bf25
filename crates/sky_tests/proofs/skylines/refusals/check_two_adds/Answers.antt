use Rattle.std.proofs.Common.{◌≡◌, ◌++◌, ◌∙◌, [], map, sym, subst}
use Rattle.pref_sky.specs.Levels.{HaveDifferentIds, entry_order, entry_of, levels}
use Rattle.pref_sky.proofs.LevelLaws.{first_differ, held_differ, levels_of_none}
use Rattle.sky_tests.proofs.skylines.refusals.check_two_adds.Goals as goal

pub levels-requires-clause-ids : goal.levels-requires-clause-ids
levels-requires-clause-ids g c = first_differ c.args.front.now c.args.back.now c.requires.ids

pub add_in_the_end-requires : goal.add_in_the_end-requires
add_in_the_end-requires g c =
    subst (λ l. HaveDifferentIds (map entry_of l ++ c.args.front.now)) (sym c.requires.nothing) (first_differ c.args.front.now c.args.back.now c.requires.ids)

pub add_in_the_end-requires-2 : goal.add_in_the_end-requires-2
add_in_the_end-requires-2 g c =
    let over = entry_order (g.D.Dominance.order c.args.dominance.now) in
    let first = first_differ c.args.front.now c.args.back.now c.requires.ids in
    let held : c.add_in_the_end.new.partial ≡ levels over c.args.front.now 2 = (c.in_ok-add_in_the_end.ensures {u = tt}) [] first (c.requires.nothing ∙ levels_of_none over 2) in
    subst (λ l. HaveDifferentIds (map entry_of l ++ c.args.back.now)) (sym held) (held_differ over c.args.front.now c.args.back.now 2 c.requires.ids)
