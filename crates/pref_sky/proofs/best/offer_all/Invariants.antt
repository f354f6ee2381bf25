use Rattle.pref_sky.proofs.Common.{ℕ, List, drop, Entry, entry_order, Passing}
use Rattle.pref_sky.proofs.best.offer_all.Given as goal

abbrev pub invariant-loop-entry : goal.invariant-loop-entry
invariant-loop-entry g l =
    let over = entry_order (g.D.Dominance.order l.dominance) in
    (all best : List Entry) (begun : ℕ) → Passing over all best begun l.initial.window l.initial.overflow.items l.entries → Passing over all best begun l.window l.overflow.items (drop l.entry-index l.entries)
