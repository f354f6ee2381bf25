use Rattle.std.proofs.Common.{◌≡◌, ◌++◌, ◌∙◌, [], map, sym, subst}
use Rattle.pref_sky.specs.Levels.{HaveDifferentIds, entry_order, entry_of, levels}
use Rattle.pref_sky.proofs.LevelLaws.{first_differ, held_differ, levels_of_none}
use Rattle.sky_tests.proofs.skylines.groups.add_by_two.Goals as goal

pub add-requires-clause-ids : goal.add-requires-clause-ids
add-requires-clause-ids g c =
    subst (λ l. HaveDifferentIds (map entry_of l ++ c.args.front.now)) (sym c.requires.nothing) (first_differ c.args.front.now c.args.back.now c.requires.ids)

pub add-requires-2-clause-ids : goal.add-requires-2-clause-ids
add-requires-2-clause-ids g c =
    let over = entry_order (g.D.Dominance.order c.args.first.0.now) in
    let first = first_differ c.args.front.now c.args.back.now c.requires.ids in
    let held : c.add.new.self ≡ levels over c.args.front.now c.args.first.1 = (c.in_ok-add.ensures {u = tt}).ok [] first (c.requires.nothing ∙ levels_of_none over c.args.first.1) in
    subst (λ l. HaveDifferentIds (map entry_of l ++ c.args.back.now)) (sym held) (held_differ over c.args.front.now c.args.back.now c.args.first.1 c.requires.ids)
