use Rattle.pref_sky.proofs.Common.{◌≡◌, ◌+◌, ◌∷◌, drop, subst, arith, drop_of_length-le, drop-cons, entry_order, Passing}
use Rattle.pref_sky.proofs.Merges.{entry_order_is_strict}
use Rattle.pref_sky.proofs.PassesLaws.{pass_more, pass_stays}
use Rattle.pref_sky.proofs.best.offer_all.Goals.{in-Overflow+in_ok-push-in-Overflow, in-Joined}
use Rattle.pref_sky.proofs.best.offer_all.Goals as goal

pub returns : goal.returns
returns g c all best begun p = grind (arith, drop_of_length-le c.args.entries.now, c.loop-entry.invariant all best begun)

pub loop-entry-preserved : goal.loop-entry-preserved
loop-entry-preserved g c all best begun p =
    let order = g.D.Dominance.order c.args.dominance.now in
    let over = entry_order order in
    let strict = entry_order_is_strict order (g.met.D.Dominance.laws c.args.dominance.now) in
    let i = c.loop-entry.entry-index in
    let entries = c.args.entries.now in
    let entry = c.entry-item.result in
    let next : drop i entries ≡ entry ∷ drop (i + 1) entries = grind (arith, drop-cons entries i entry) in
    let before : Passing over all best begun c.loop-entry.window c.loop-entry.overflow.items (entry ∷ drop (i + 1) entries) = subst (λ l. Passing over all best begun c.loop-entry.window c.loop-entry.overflow.items l) next (c.loop-entry.invariant all best begun p) in
    grind (arith, pass_more before strict {new = c.offer.new.self} c.offer.result, pass_stays before strict {new = c.offer.new.self} c.offer.result)
