use Rattle.std.proofs.Common.{rules, ◌≡◌, not, sym, ◌∙◌, ap, subst, arith}
use Rattle.std.proofs.lemmas.List.Sorted.{IsNonDecreasingBy-from_sort_by_key}
use Rattle.std.proofs.lemmas.Grind.{common_steps}
use Rattle.pref_sky.specs.declared.entry.Entry.{Entry}
use Rattle.pref_sky.specs.Best.{best, is_beaten}
use Rattle.pref_sky.specs.Levels.{entry_order, in_order_of_id, HaveDifferentIds}
use Rattle.pref_sky.proofs.IdOrder.{sorted_is}
use Rattle.pref_sky.proofs.Merges.{different_filter}
use Rattle.sky_tests.proofs.skylines.plain.best_rows_by_pairs.Goals as goal

pub returns : goal.returns
returns g c =
    let over = entry_order (g.D.Dominance.order c.args.dominance.now) in
    let entries = c.args.entries.now in
    let unbeaten : c.loop-entry.unbeaten.items ≡ best over entries = grind (arith, common_steps) in
    let sorted = IsNonDecreasingBy-from_sort_by_key (λ (e : Entry). e.id) _ c.sort_unstable_by_key.ensures.sorted (λ a r q k. search rules) in
    let same = sorted_is c.loop-entry.unbeaten.items _ c.sort_unstable_by_key.ensures.permutation sorted
    (subst HaveDifferentIds (sym unbeaten) (different_filter (λ e. not (is_beaten over entries e)) entries c.requires)) in
    same ∙ ap in_order_of_id unbeaten
