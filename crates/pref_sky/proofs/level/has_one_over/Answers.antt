use Rattle.pref_sky.proofs.Common.{◌/◌, ◌<◌, ℕ, Among, IsPermutation-swap, Item, List, arith, get_or, get_or_default, length, subst}
use Rattle.pref_sky.proofs.ListLaws.{all_among, among_place, same_if_permuted}
use Rattle.pref_sky.proofs.level.has_one_over.Goals as goal

pub returns-then-is_over-clause-same : goal.returns-then-is_over-clause-same
returns-then-is_over-clause-same c =
    let items = c.args.items.now.items in
    let at = c.loop-at.at in
    let there : at < length items = subst (λ (l : List Item). at < length l) c.deref-item-items.ensures.value c.loop-at-test.true in
    same_if_permuted items c.swap.new.self.items (IsPermutation-swap items c.swap.new.self.items (at / 2) at (omega (arith, there)) there c.swap.ensures.items)

pub returns-then-is_over-clause-found : goal.returns-then-is_over-clause-found
returns-then-is_over-clause-found c _ =
    let entries = c.args.entries.now in
    let run = c.deref-item-items.result.now in
    let at = c.loop-at.at in
    let none : Item = record { signature = 0; place = 0 } in
    let x = get_or run at none in (
      x,
      subst (λ (l : List Item). Among x l) c.deref-item-items.ensures.value (among_place run at none c.loop-at-test.true),
      grind (arith, get_or_default entries x.place c.index-entries-item.result, get_or_default entries c.args.place c.index-entries-place.result),
    )

pub returns-clause-none : goal.returns-clause-none
returns-clause-none c _ =
    let run = c.deref-item-items.result.now in
    let none = rw c.deref-item-items.ensures.value at (λ (k : ℕ) (d : Item) (inside : k < length run). c.loop-at.invariant k d (omega (arith, inside))) in
    all_among _ c.args.items.now.items none
