use Rattle.std.proofs.Common.{◌≡◌, ◌++◌, ◌∙◌, ℕ, Bool, List, [], map, sym, subst}
use Rattle.pref_sky.specs.Levels.{HaveDifferentIds, entry_order, entry_of, levels}
use Rattle.pref_sky.specs.declared.entry.{Entry.{Entry}, Ranked.{Ranked}}
use Rattle.pref_sky.proofs.LevelLaws.{first_differ, held_differ, levels_of_none}
use Rattle.sky_tests.proofs.skylines.cuttings.add_in_two.Goals as goal

-- once the front is added to nothing, its levels are held, which have other ids than the back
first_is_held : (over : Entry → Entry → Bool) (front back : List Entry) (cut : ℕ) {old new : List Ranked} → HaveDifferentIds (front ++ back) → old ≡ []
    → ((before : List Entry) → HaveDifferentIds (before ++ front) → old ≡ levels over before cut → new ≡ levels over (before ++ front) cut)
    → (new ≡ levels over front cut) × HaveDifferentIds (map entry_of new ++ back)
first_is_held over front back cut ids nothing added =
    let held = added [] (first_differ front back ids) (nothing ∙ levels_of_none over cut) in
    (held, subst (λ l. HaveDifferentIds (map entry_of l ++ back)) (sym held) (held_differ over front back cut ids))

pub add-requires-clause-ids : goal.add-requires-clause-ids
add-requires-clause-ids g c =
    let front = c.split_at.result.0.now in
    let back = c.split_at.result.1.now in
    let ids = subst HaveDifferentIds c.split_at.ensures.by_index.0 c.requires.ids in
    subst (λ l. HaveDifferentIds (map entry_of l ++ front)) (sym c.requires.nothing) (first_differ front back ids)

pub add_plainly-requires-clause-ids : goal.add_plainly-requires-clause-ids
add_plainly-requires-clause-ids g c =
    let over = entry_order (g.D.Dominance.order c.args.dominance.now) in
    let ids = subst HaveDifferentIds c.split_at.ensures.by_index.0 c.requires.ids in
    (first_is_held over c.split_at.result.0.now c.split_at.result.1.now c.args.cut ids c.requires.nothing (c.in_ok-add.ensures {u = tt}).ok).1

pub add-requires-2-clause-ids : goal.add-requires-2-clause-ids
add-requires-2-clause-ids g c =
    let over = entry_order (g.D.Dominance.order c.args.dominance.now) in
    let ids = subst HaveDifferentIds c.split_at.ensures.by_index.0 c.requires.ids in
    (first_is_held over c.split_at.result.0.now c.split_at.result.1.now c.args.cut ids c.requires.nothing (c.in_ok-add.ensures {u = tt}).ok).1

pub returns : goal.returns
returns g c =
    let over = entry_order (g.D.Dominance.order c.args.dominance.now) in
    let front = c.split_at.result.0.now in
    let all = c.split_at.ensures.by_index.0 in
    let ids = subst HaveDifferentIds all c.requires.ids in
    let held = (first_is_held over front c.split_at.result.1.now c.args.cut ids c.requires.nothing (c.in_ok-add.ensures {u = tt}).ok).0 in
    subst (λ l. c.add-2.new.self ≡ levels over l c.args.cut) (sym all) ((c.in_ok-add-2.ensures {u = tt}).ok front ids held)
