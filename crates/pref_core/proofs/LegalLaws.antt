-- The test of an op at slots is legality in the state that they stand for.
use Rattle.pref_core.proofs.Common.{◌≡◌, ℕ, Bool, true, false, cond, List, length, Option, Some, None, Ok, Err, Result, is_some, sym, ◌∙◌, Version, Call, CoreFault, Op, State, after}
use Rattle.pref_core.proofs.Common.{Contents, StandsFor, IsNext, IsLegal, is_next, slots_after, stepped, applied, Plans, PlansIn, AppliesIn, arith, ◌&&◌, and_parts, false_from_ne_true}
use Rattle.pref_core.proofs.OutcomeLaws.{same_calls, same_refusal, same_outcome_at, IsAllowed-from, stepped_stands}
use Rattle.pref_core.proofs.StandsForLaws.{some_is}

pub is_next-from : (contents : Contents) (state : State) (op : Op) → StandsFor contents state → IsNext (length contents.slots) state op → is_next contents op ≡ true
is_next-from contents state op h next = grind (arith, same_refusal, same_calls, same_outcome_at)

pub IsNext-from : (contents : Contents) (state : State) (op : Op) → StandsFor contents state → is_next contents op ≡ true → IsNext (length contents.slots) state op
IsNext-from contents state op h next = grind (arith, IsAllowed-from, same_refusal, same_calls, same_outcome_at)

pub applied_stands : (contents : Contents) (state : State) (op : Op) → StandsFor contents state → IsLegal state contents op → StandsFor (applied contents op) (after (length contents.slots) state op.client op.call)
applied_stands contents state op h legal =
    let next : is_next contents op ≡ true = is_next-from contents state op h legal.next in
    let slots = some_is (slots_after contents op) legal.fits in
    rw (next, slots.1) (stepped_stands contents state op slots.0 h next slots.1)

-- an op whose test fails changes nothing
pub applied_nothing : (contents : Contents) (op : Op) → (is_next contents op && is_some (slots_after contents op)) ≡ false → applied contents op ≡ contents
applied_nothing contents op illegal = go (is_next contents op) (slots_after contents op) illegal
  where
    go : (next : Bool) (fits : Option (List (Option Version))) → (next && is_some fits) ≡ false
        → cond next (elim fits as (λ x. Contents) [ None ↦ contents | Some slots ↦ stepped contents op slots ]) contents ≡ contents
    go next fits e = grind (arith)

applied_not : (contents : Contents) (state : State) (op : Op) → StandsFor contents state → ¬ IsLegal state contents op → applied contents op ≡ contents
applied_not contents state op h illegal = applied_nothing contents op (false_from_ne_true _ (λ e.
    let parts = and_parts (is_next contents op) (is_some (slots_after contents op)) e in
    illegal (record { next = IsNext-from contents state op h parts.0; fits = parts.1 })))

pub applies_in : (contents : Contents) (state : State) (op : Op) → StandsFor contents state → AppliesIn state contents op (applied contents op)
applies_in contents state op h = (applied_stands contents state op h, applied_not contents state op h)

pub plans_in : (contents : Contents) (state : State) (client : ℕ) (call : Call) (result : Result Op CoreFault) → StandsFor contents state → Plans contents client call result → PlansIn state contents client call result
plans_in contents state client call (Ok op) h plan = (plan.by, plan.what, record { next = IsNext-from contents state op h plan.next; fits = plan.fits })
plans_in contents state client call (Err fault) h plan = sym (same_refusal contents state client call h) ∙ plan
