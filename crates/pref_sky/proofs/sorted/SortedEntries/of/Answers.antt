use Rattle.pref_sky.proofs.Common.{arith, own_order}
use Rattle.pref_sky.proofs.LevelLaws.{held_differ, levels_of_none, next_piece}
use Rattle.pref_sky.proofs.sorted.SortedEntries.of.Goals as goal

pub invariant_of-held-2 : goal.invariant_of-held-2
invariant_of-held-2 c =
    let own = own_order c.args.order in
    grind (arith, levels_of_none own c.args.order.cut)

pub add-requires : goal.add-requires
add-requires c =
    let order = c.each_piece.held.pruned.order in
    let levels = c.each_piece.invariant.levels in
    let piece = c.split_at.result.0.now in
    grind (arith, next_piece levels.0 piece c.split_at.result.1.now levels.1 c.split_at.ensures.by_index.0 c.requires, held_differ (own_order order) levels.0 piece order.cut)

pub each_piece-preserved : goal.each_piece-preserved
each_piece-preserved c =
    let inv = c.each_piece.invariant in
    let piece = c.split_at.result.0.now in
    grind (arith, next_piece inv.levels.0 piece c.split_at.result.1.now inv.levels.1 c.split_at.ensures.by_index.0 c.requires)
