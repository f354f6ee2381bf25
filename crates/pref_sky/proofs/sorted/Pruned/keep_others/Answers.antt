use Rattle.pref_sky.proofs.Common.{◌+◌, arith, append_assoc, drop, drop-cons}
use Rattle.pref_sky.proofs.SortedLevels.{left_out}
use Rattle.pref_sky.proofs.sorted.Pruned.keep_others.Goals as goal

pub loop-entry-preserved : goal.loop-entry-preserved
loop-entry-preserved c =
    let entries = c.args.entries.now in
    let i = c.loop-entry.entry-index in
    let e = c.entry-item.result in
    grind (arith, drop-cons entries i e, append_assoc, left_out c.args.self.now.order c.args.self.now.entries.items c.loop-entry.recent.items (drop (i + 1) entries) e)
