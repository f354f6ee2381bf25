use Rattle.pref_sky.proofs.Common.{◌++◌, map, sym, subst, arith, take-append_seam, own_levels, HaveDifferentIds, entry_of}
use Rattle.pref_sky.proofs.SortedLevels.{all_differ, own_merged}
use Rattle.pref_sky.proofs.sorted.SortedEntries.add.Goals.{After-prune}
use Rattle.pref_sky.proofs.sorted.SortedEntries.add.Goals as goal

coming_differ : (c : After-prune) → HaveDifferentIds (map entry_of (own_levels c.prune.new.self.order (c.prune.new.self.entries.items ++ c.prune.new.recent.items)) ++ c.args.entries.now)
coming_differ c = subst (λ l. HaveDifferentIds (map entry_of l ++ c.args.entries.now)) (sym c.prune.ensures.levels) c.requires

pub invariant_of-self : goal.invariant_of-self
invariant_of-self c = record { ids = subst (λ l. HaveDifferentIds (map entry_of l)) (sym c.prune.ensures.levels) c.args.self.now.ids }

pub invariant_of-self-in-Err : goal.invariant_of-self-in-Err
invariant_of-self-in-Err c =
    grind (arith, take-append_seam)

pub invariant_of-self-in_default : goal.invariant_of-self-in_default
invariant_of-self-in_default c =
    let new = c.prune.new.self in
    grind (arith, all_differ new.order new.entries.items c.prune.new.recent.items c.args.entries.now (coming_differ ((goal.at.invariant_of-self-in_default c).After-prune)))

pub returns-clause-ok : goal.returns-clause-ok
returns-clause-ok c =
    let new = c.prune.new.self in
    let differ = coming_differ ((goal.at.returns-clause-ok c).After-prune) in
    grind (arith, all_differ new.order new.entries.items c.prune.new.recent.items c.args.entries.now differ, own_merged new.order new.entries.items c.prune.new.recent.items c.args.entries.now differ)
