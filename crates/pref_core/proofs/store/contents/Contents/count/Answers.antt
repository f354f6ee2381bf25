use Rattle.pref_core.proofs.Common.{◌≡◌, ◌-◌, ◌≤◌, length, map, sym, ap, ap₂, ◌∙◌, subst, arith, AllZip, with_items_is, uses_of, callers_after, refusal_at, MayBecome, use_of, Contents}
use Rattle.pref_core.proofs.UsesAfterQuery.{callers_long, uses_kept, uses_end}
use Rattle.pref_core.proofs.store.contents.Contents.count.Goals as goal

pub sweep-requires-clause-uses : goal.sweep-requires-clause-uses
sweep-requires-clause-uses c =
    let now = c.self.inside in
    let contents : Contents = record { slots = now.slots.slots; stamp = now.slots.stamp; next_id = now.next_id; callers = now.callers.items } in
    let accepted = ap (λ (s : Contents). refusal_at s c.args.client c.args.call.now) c.self.view_is ∙ c.requires in
    let long : length c.count.new.callers ≡ now.callers.len = omega arith in
    let counted = c.deref.ensures.value ∙ with_items_is now.callers c.count.new.callers long ∙ c.count.ensures ∙ ap₂ (λ n l. callers_after n l c.args.client c.args.call.now) c.stamp.ensures c.deref_mut.ensures.value in
    subst (λ uses. AllZip (MayBecome (c.args.client - 1)) uses (map (use_of c.deref.result.now) c.as_slice.result.now)) (sym c.self.invariant.listed)
    (subst (AllZip (MayBecome (c.args.client - 1)) (uses_of contents)) (sym (λ i. map (use_of (counted i)) (c.as_slice.ensures i)))
    (uses_end contents c.args.client c.args.call.now accepted (sym c.ends_query.ensures ∙ c.if-ends_query.true)))

pub invariant_of-self-else-ends_query : goal.invariant_of-self-else-ends_query
invariant_of-self-else-ends_query c =
    let now = c.self.inside in
    let contents : Contents = record { slots = now.slots.slots; stamp = now.slots.stamp; next_id = now.next_id; callers = now.callers.items } in
    let seats = c.self.invariant.seats in
    let long : length c.count.new.callers ≡ now.callers.len = omega arith in
    let counted = with_items_is now.callers c.count.new.callers long ∙ c.count.ensures ∙ ap₂ (λ n l. callers_after n l c.args.client c.args.call.now) c.stamp.ensures c.deref_mut.ensures.value in
    let accepted = ap (λ (s : Contents). refusal_at s c.args.client c.args.call.now) c.self.view_is ∙ c.requires in
    let kept = uses_kept contents c.args.client c.args.call.now accepted (sym c.ends_query.ensures ∙ c.if-ends_query.false) c.self.invariant.within in
    record {
      seats = subst (λ callers. length callers ≤ 8) (sym counted) (let same = callers_long now.slots.stamp now.callers.items c.args.client c.args.call.now in omega arith);
      within = c.self.invariant.within;
      listed = c.self.invariant.listed ∙ sym kept ∙ ap (λ callers. map (use_of callers) now.slots.slots) (sym counted);
      linked = c.self.invariant.linked;
      ids = c.self.invariant.ids;
    }
