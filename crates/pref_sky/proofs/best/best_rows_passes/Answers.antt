use Rattle.pref_sky.proofs.Common.{rules, ◌≡◌, ◌==◌, ◌+◌, ◌<◌, [], length, sym, ◌∙◌, ap, subst, arith, eqb-false, eqb-true, nil_from_length, vec_len, IsNonDecreasingBy-from_sort_by_key}
use Rattle.pref_sky.proofs.Common.{Entry, HaveDifferentIds, Passing, best, entry_order, is_beaten, not}
use Rattle.pref_sky.proofs.IdOrder.{same_in_order, sorted_is}
use Rattle.pref_sky.proofs.Merges.{different_filter, entry_order_is_strict}
use Rattle.pref_sky.proofs.PassesLaws.{pass_ends, pass_falls, passes_end}
use Rattle.pref_sky.proofs.best.best_rows_passes.Given.{Over}
use Rattle.pref_sky.proofs.best.best_rows_passes.Goals.{In_ok-end_pass}
use Rattle.pref_sky.proofs.best.best_rows_passes.Goals as goal

passed : (g : Over) (c : In_ok-end_pass g)
    → Passing (entry_order (g.D.Dominance.order c.args.dominance.now)) c.args.entries.now c.each_pass.best.items (length c.each_pass.held.early + length c.each_pass.input.items) c.offer_all.new.window c.in_ok-input-2.input.items []
passed g c = c.in_ok-input-2.ensures {u = tt} _ _ _ (subst (λ l. Passing (entry_order (g.D.Dominance.order c.args.dominance.now)) c.args.entries.now c.each_pass.best.items (length c.each_pass.held.early + length c.each_pass.input.items) c.each_pass.held [] l) (sym c.deref.ensures.value) c.each_pass.invariant.passing)

pub each_pass-smaller : goal.each_pass-smaller
each_pass-smaller g c =
    let some : 0 < length c.each_pass.input.items = omega (arith, eqb-false (vec_len c.each_pass.input) 0 (sym c.is_empty.ensures ∙ c.each_pass-test.true), c.each_pass.input.ok.0) in
    rw ((c.in_ok-end_pass.ensures {u = tt}).1) (pass_falls (passed g c) (omega (arith, some)))

pub each_pass-preserved : goal.each_pass-preserved
each_pass-preserved g c =
    let end = c.in_ok-end_pass.ensures {u = tt} in
    record {
      passing = rw (end.0, end.1) (pass_ends (passed g c));
      ends = rw (end.1) (passed g c).fresh;
      count = omega (arith, each_pass-smaller g c, c.each_pass.invariant.count);
      first = λ none. absurd (omega (arith, none));
    }

pub returns-clause-best : goal.returns-clause-best
returns-clause-best g c =
    let order = g.D.Dominance.order c.args.dominance.now in
    let over = entry_order order in
    let all = c.args.entries.now in
    let inv = c.each_pass.invariant in
    let top = c.each_pass.best.items in
    let none : c.each_pass.input.items ≡ [] = nil_from_length c.each_pass.input.items (omega (arith, eqb-true (vec_len c.each_pass.input) 0 (sym c.is_empty.ensures ∙ c.each_pass-test.false), c.each_pass.input.ok.0)) in
    let ended : Passing over all top (length c.each_pass.held.early + length c.each_pass.input.items) c.each_pass.held [] [] = subst (λ l. Passing over all top (length c.each_pass.held.early + length c.each_pass.input.items) c.each_pass.held [] l) none inv.passing in
    let found = passes_end (entry_order_is_strict order (g.met.D.Dominance.laws c.args.dominance.now)) (inv.ends (ap length none)) ended in
    let differ : HaveDifferentIds top = record { once = λ id. omega (arith, ended.counts (λ (e : Entry). e.id == id), c.requires.ids.once id) } in
    let sorted = IsNonDecreasingBy-from_sort_by_key (λ (e : Entry). e.id) _ c.sort_unstable_by_key.ensures.sorted (λ a r q k. search rules) in
    sorted_is top _ c.sort_unstable_by_key.ensures.permutation sorted differ ∙ same_in_order top (best over all) differ (different_filter (λ e. not (is_beaten over all e)) all c.requires.ids) found
