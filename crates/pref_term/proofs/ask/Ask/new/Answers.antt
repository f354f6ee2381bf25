use Rattle.pref_term.proofs.Common.{ℕ, ◌++◌, List, false, subst, preference_of, Question}
use Rattle.pref_term.specs.Extension.{IsShortened, all_keys, group_keys}
use Rattle.pref_term.proofs.LeadingLaws.{leading_lead}
use Rattle.pref_term.proofs.ask.Ask.new.Goals as goal

pub invariant_of-result : goal.invariant_of-result
invariant_of-result c =
    let p = preference_of c.args.term in
    let q : Question = record { preference = p; group = c.args.group.items; mode = c.args.mode; distinct = c.args.distinct } in
    let lead = c.in_ok-chains.field-0 in (
      c.requires,
      c.in_ok-keys.ensures {u = tt},
      c.is_product-flat.ensures,
      leading_lead q lead.chains.items lead.behind.items lead.is_whole c.requires (c.in_ok-chains.ensures {u = tt}),
      subst (λ (columns : List ℕ). IsShortened (group_keys columns ++ all_keys p false) c.in_ok-in_order.in_order.items) c.deref.ensures.value (c.in_ok-in_order.ensures {u = tt}),
    )
