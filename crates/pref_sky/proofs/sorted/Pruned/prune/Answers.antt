use Rattle.pref_sky.proofs.Common.{rules, sym, ◌≡◌, ◌<◌, ◌++◌, ℕ, List, Entry, ◌∙◌, ap, subst, append-nil, length, get_or, map, filter, nat_lt, All, AreLeveled, Item, level_of, own_levels, own_order}
use Rattle.std.proofs.lemmas.Fn.{filter_same}
use Rattle.pref_sky.proofs.RankingLaws.{filter_of_map}
use Rattle.pref_sky.proofs.HeldLaws.{kept_leveled, kept_levels, kept_lowest}
use Rattle.pref_sky.proofs.sorted.Pruned.prune.Goals.{After-retain}
use Rattle.pref_sky.proofs.sorted.Pruned.prune.Goals as goal

module _ (c : After-retain) where
  abbrev held : List Entry
  held = c.args.self.now.entries.items ++ c.args.recent.now.items

  abbrev all : List Entry
  all = c.in_ok-entries.field-0.entries.items

  abbrev levels : List ℕ
  levels = c.in_ok-entries.field-0.levels.items

  leveled : AreLeveled c.args.self.now.order held all levels
  leveled = subst (λ l. AreLeveled c.args.self.now.order (c.args.self.now.entries.items ++ l) all levels) c.deref.ensures.value (c.in_ok-entries.ensures {u = tt})

  dropped : (c.drop_below.new.elements.items ≡ filter (λ e. nat_lt 0 (level_of (own_order c.args.self.now.order) all c.args.self.now.order.cut e)) all)
      × (c.retain.new.self.items ≡ map (level_of (own_order c.args.self.now.order) all c.args.self.now.order.cut) c.drop_below.new.elements.items)
  dropped =
      let level = level_of (own_order c.args.self.now.order) all c.args.self.now.order.cut in
      let kept = c.drop_below.ensures level (c.deref-2.ensures.value ∙ leveled.level) in
      (kept, filter_same _ (nat_lt 0) _ (λ x b q r. (search rules, search rules)) levels _ c.retain.ensures.filtered ∙ (ap (filter (nat_lt 0)) leveled.level ∙ (filter_of_map level (nat_lt 0) all ∙ ap (map level) (sym kept))))

pub invariant_of-self : goal.invariant_of-self
invariant_of-self c =
    let d = (goal.at.invariant_of-self c).After-retain in
    let order = c.args.self.now.order in
    let kept = c.drop_below.new.elements.items in
    let left = c.retain.new.self.items in
    let items = c.in_ok-lowest.lowest.items in
    let are = dropped d in
    let lowest : All (λ (item : Item). (item.place < length kept) × (get_or left item.place 0 ≡ order.cut)) items =
    subst (λ l. All (λ (item : Item). (item.place < length kept) × (get_or l item.place 0 ≡ order.cut)) items) c.deref-4.ensures.value
    (subst (λ l. All (λ (item : Item). (item.place < length l) × (get_or c.deref-4.result.now item.place 0 ≡ order.cut)) items) c.deref-3.ensures.value (c.in_ok-lowest.ensures {u = tt})) in
    record {
      low = kept_lowest order (held d) (all d) (levels d) c.requires (leveled d) kept left are.0 are.1 items lowest;
      leveled = kept_leveled order (held d) (all d) (levels d) c.requires (leveled d) kept left are.0 are.1;
    }

pub returns-clause-levels : goal.returns-clause-levels
returns-clause-levels c =
    let d = (goal.at.returns-clause-levels c).After-retain in
    let order = c.args.self.now.order in
    let kept = c.drop_below.new.elements.items in
    let are = dropped d in
    ap (λ l. own_levels order (kept ++ l)) c.clear.ensures.items
    ∙ (ap (own_levels order) (append-nil kept) ∙ kept_levels order (held d) (all d) (levels d) c.requires (leveled d) kept c.retain.new.self.items are.0 are.1)
