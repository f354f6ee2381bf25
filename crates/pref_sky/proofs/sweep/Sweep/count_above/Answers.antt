use Rattle.pref_sky.proofs.Common.{◌≡◌, ◌-◌, ◌<◌, ℕ, arith, comes_after, entry_at, length, length-set, own_order, set, suc}
use Rattle.pref_sky.proofs.SweepLaws.{all_known, are_places, none_past, swept_asked}
use Rattle.pref_sky.specs.Leads.{HasSweptBy, mark_of}
use Rattle.pref_sky.proofs.sweep.Sweep.count_above.Goals.{After-dominates}
use Rattle.pref_sky.proofs.sweep.Sweep.count_above.Goals as goal

pub halves-init : goal.halves-init
halves-init c =
    let swept = c.requires in
    let held = swept.leads.held in
    let after = held.after c.args.place swept.inside in
    let known = all_known swept.so_far swept.leads.swept swept.inside (mark_of c.args.lead.now c.args.place - 1) (omega (arith, held.within c.args.place swept.inside)) after in
    record { swept = swept; ordered = omega (arith, known); within = omega arith; above = grind (arith, after); no_more = none_past swept.so_far swept.leads.swept swept.inside c.len-high.result (omega arith); from = omega arith }

pub dominates-requires-clause-places : goal.dominates-requires-clause-places
dominates-requires-clause-places c =
    let inv = c.halves.invariant in
    let there : c.next_between-middle.result < length c.halves.self.levels.items = omega (arith, c.next_between-middle.ensures.to, inv.within) in
    are_places inv.swept.inside (inv.swept.so_far.stand c.next_between-middle.result c.index_mut.result.now there c.index_mut.ensures.value)

-- what is known once a level was asked
module _ (c : After-dominates) where
  abbrev middle : ℕ
  middle = c.next_between-middle.result

  there : middle < length c.halves.self.levels.items
  there = omega (arith, c.next_between-middle.ensures.to, c.halves.invariant.within)

  so_far : HasSweptBy c.args.order.now c.args.lead.now c.args.entries.now c.args.place c.halves.self.class (set c.halves.self.levels.items middle c.dominates.new.self)
  so_far = swept_asked c.halves.invariant.swept.so_far middle c.index_mut.result.now c.dominates.new.self there c.index_mut.ensures.value c.dominates.ensures.same

  is : c.dominates.result ≡ comes_after (own_order c.args.order.now) c.args.entries.now (suc middle) (entry_at c.args.entries.now c.args.place)
  is =
      let swept = c.halves.invariant.swept in
      c.dominates.ensures.dominated swept.leads swept.class middle (swept.so_far.stand middle c.index_mut.result.now there c.index_mut.ensures.value) (omega (arith, c.halves.invariant.from, c.next_between-middle.ensures.from))

pub halves-preserved-then-dominates : goal.halves-preserved-then-dominates
halves-preserved-then-dominates c =
    let d = (goal.at.halves-preserved-then-dominates c).After-dominates in
    grind (arith, so_far d, is d, c.halves.invariant.swept, c.halves.invariant.no_more, length-set c.halves.self.levels.items (middle d) c.dominates.new.self)

pub halves-preserved : goal.halves-preserved
halves-preserved c =
    let d = (goal.at.halves-preserved c).After-dominates in
    grind (arith, so_far d, is d, c.halves.invariant.swept, length-set c.halves.self.levels.items (middle d) c.dominates.new.self)
