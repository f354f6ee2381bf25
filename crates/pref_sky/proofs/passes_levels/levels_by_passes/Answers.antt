use Rattle.pref_sky.proofs.Common.{rules, ◌≡◌, ◌==◌, [], suc, Bool, List, not, sym, ◌∙◌, ap, subst, arith, add-one, filter, list_any, eqb-true, nil_from_length, Entry, HaveDifferentIds, IsNonDecreasingBy, best, entry_order, in_order_of_id, levels, rest}
use Rattle.std.proofs.lemmas.Fn.{filter_same}
use Rattle.pref_sky.proofs.Merges.{different_best}
use Rattle.pref_sky.proofs.PassedLevels.{ids_rise, no_later_level, rest_differ, without_ids}
use Rattle.pref_sky.proofs.passes_levels.levels_by_passes.Goals.{then-each_level-test+else-not-is_empty, else-each_level-test}
use Rattle.pref_sky.proofs.passes_levels.levels_by_passes.Goals as goal

pub best_rows-requires-clause-ids : goal.best_rows-requires-clause-ids
best_rows-requires-clause-ids g c =
    let over = entry_order (g.D.Dominance.order c.args.dominance.now) in
    subst HaveDifferentIds (sym (c.deref.ensures.value ∙ c.each_level.invariant.left)) (rest_differ over c.args.entries.now c.each_level.level c.requires.ids)

pub each_level-preserved : goal.each_level-preserved
each_level-preserved g c =
    let over = entry_order (g.D.Dominance.order c.args.dominance.now) in
    let all = c.args.entries.now in
    let n = c.each_level.level in
    let inv = c.each_level.invariant in
    let top = c.in_ok-best.best.items in
    let before = rest over all n in
    let differ = rest_differ over all n c.requires.ids in
    let is : top ≡ in_order_of_id (best over before) = c.in_ok-best.ensures {u = tt} ∙ ap (λ l. in_order_of_id (best over l)) (c.deref.ensures.value ∙ inv.left) in
    let rises : IsNonDecreasingBy (λ (e : Entry). e.id) top = subst (IsNonDecreasingBy (λ (e : Entry). e.id)) (sym is) (ids_rise (best over before) (different_best over all n c.requires.ids)) in
    let out : List Entry → Entry → Bool = λ ids e. not (list_any (λ (b : Entry). b.id == e.id) ids) in
    let kept : c.retain.new.self.items ≡ filter (out top) c.each_level.left.items = filter_same _ (out top) _ (λ x b q r. (grind (arith, r, rises), search rules)) c.each_level.left.items _ c.retain.ensures.filtered in
    let found : c.push_level.new.ranked.items ≡ levels over all (suc n) = grind (arith, add-one n, is, inv.found) in
    let left : c.retain.new.self.items ≡ rest over all (suc n) = kept ∙ (ap (filter (out top)) inv.left ∙ (ap (λ ids. filter (out ids) before) is ∙ without_ids over before differ)) in
    record {
      found = subst (λ m. c.push_level.new.ranked.items ≡ levels over all m) (sym (add-one n)) found;
      left = subst (λ m. c.retain.new.self.items ≡ rest over all m) (sym (add-one n)) left;
      upto = omega (arith, c.each_level-test.true);
    }

pub returns : goal.returns
returns g c =
    let over = entry_order (g.D.Dominance.order c.args.dominance.now) in
    let all = c.args.entries.now in
    let n = c.each_level.level in
    let inv = c.each_level.invariant in
    elim c.each_level-test.branch [
      | then-each_level-test+else-not-is_empty w ↦ let none : c.each_level.left.items ≡ [] = nil_from_length c.each_level.left.items (grind (arith, eqb-true)) in inv.found ∙ no_later_level over all n c.args.cut (sym inv.left ∙ none) inv.upto
      | else-each_level-test w ↦ let last : n ≡ c.args.cut = omega (arith, w.each_level-test.false, inv.upto) in inv.found ∙ ap (levels over all) last
    ]
