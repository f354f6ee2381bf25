use Rattle.pref_share.proofs.Common.{◌≡◌, ◌++◌, ◌∷◌, [], ◌∙◌, ap, map, sym, append_assoc, map-append, All-push, Vec, into_iter_items, Act, Listed}
use Rattle.pref_share.proofs.run.listed_tasks.Goals as goal

pub loop-list-preserved : goal.loop-list-preserved
loop-list-preserved c =
    let before = c.loop-list.tasks.items in
    let yielded = c.loop-list.yielded in
    let list = c.in-Some.list in
    let task = c.in_ok-new.field-0 in
    let acts = λ (listed : Listed). into_iter_items listed.acts in
    let items = λ (list : Vec Act). list.items in
    let grown = c.in_ok-push.ensures.items in (
      ap (map acts) grown ∙ map-append acts before (task ∷ []) ∙ ap (λ l. l ++ acts task ∷ []) c.loop-list.invariant.0 ∙ ap (λ x. map items yielded ++ x ∷ []) c.in_ok-new.ensures.acts ∙ sym (map-append items yielded (list ∷ [])),
      rw grown (All-push (λ (listed : Listed). listed.replies.items ≡ []) before task c.loop-list.invariant.1 c.in_ok-new.ensures.replies),
      append_assoc yielded _ _ ∙ ap (λ rest. yielded ++ rest) (sym c.in-Some.ensures.steps.0) ∙ c.loop-list.invariant.2,
    )
