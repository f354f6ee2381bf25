use Rattle.std.proofs.Common.{◌≡◌, ◌++◌, map, sym, ◌∙◌, ap, subst}
use Rattle.std.proofs.lemmas.Result.{IfOk-weaker}
use Rattle.pref_sky.specs.Levels.{HaveDifferentIds, entry_order, entry_of, levels}
use Rattle.pref_sky.proofs.Merges.{entry_order_is_strict}
use Rattle.pref_sky.proofs.SortedLevels.{merge}
use Rattle.sky_tests.proofs.skylines.plain.add_plainly.Goals as goal

pub levels-requires-clause-ids : goal.levels-requires-clause-ids
levels-requires-clause-ids g c =
    let all : c.deref-2.result.now ≡ map entry_of c.args.partial.now ++ c.args.entries.now =
    c.deref-2.ensures.value ∙ ((c.in_ok-extend_from_slice.ensures {u = tt}).items ∙ ap (λ l. l ++ c.args.entries.now) (c.in_ok-all.ensures ∙ ap (map entry_of) (c.deref.ensures.value ∙ c.in_ok-held.ensures))) in
    subst HaveDifferentIds (sym all) c.requires.ids

pub returns : goal.returns
returns g c =
    let row_order = g.D.Dominance.order c.args.dominance.now in
    let over = entry_order row_order in
    let strict = entry_order_is_strict row_order (g.met.D.Dominance.laws c.args.dominance.now) in
    let all : c.deref-2.result.now ≡ map entry_of c.args.partial.now ++ c.args.entries.now =
    c.deref-2.ensures.value ∙ ((c.in_ok-extend_from_slice.ensures {u = tt}).items ∙ ap (λ l. l ++ c.args.entries.now) (c.in_ok-all.ensures ∙ ap (map entry_of) (c.deref.ensures.value ∙ c.in_ok-held.ensures))) in
    IfOk-weaker c.levels.result _ _ (λ ranked is before different held.
    is ∙ (ap (λ l. levels over l c.args.cut) (all ∙ ap (λ l. map entry_of l ++ c.args.entries.now) held)
    ∙ merge over strict c.args.cut before c.args.entries.now (subst (λ l. HaveDifferentIds (map entry_of l ++ c.args.entries.now)) held c.requires.ids))) c.levels.ensures
