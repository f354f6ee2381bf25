-- No number of a store comes near its type's end.
use Rattle.pref_core.proofs.Common.{sum_by-set, slice_get_within, get_or_from_slice_get, ◌≡◌, ℕ, suc, ◌^◌, ◌<◌, ◌≤◌, Bool, true, List, [], ◌∷◌, length, Option, Some, None, is_some, slice_get}
use Rattle.pref_core.proofs.Common.{slice_set, refl, ap, arith, AllByRecursion, sum_by, length-map, length-set, All-from_recursion, sum_by-le, Entry, Version, Caller, Call, Op, seat, with_seat, begun}
use Rattle.pref_core.proofs.Common.{added, refusal_of, is_formed, Contents, filled, slots_after, begin_after, callers_after, is_next, stepped, IsBounded}
use Rattle.pref_core.proofs.OutcomeLaws.{IsAllowed, IsAllowed-from}
use Rattle.pref_core.proofs.ChangesLaws.{added_by-length}
pub use Rattle.pref_core.proofs.SlotKeys.{AllByRecursion-set}

total-small : (callers : List Caller) → length callers ≤ 8 → AllByRecursion (λ caller. caller.calls ≤ 2 ^ 56) callers → sum_by (λ caller. caller.calls) callers ≤ 2 ^ 59
total-small callers few small = grind (arith, sum_by-le (λ (caller : Caller). caller.calls) (2 ^ 56) callers, All-from_recursion)

pub stamp-small : (contents : Contents) → IsBounded contents → contents.stamp < 2 ^ 60
stamp-small contents h = let total = total-small contents.callers h.callers h.calls in let at = h.stamp in omega arith

pub next_id-small : (contents : Contents) → IsBounded contents → contents.next_id < 2 ^ 63
next_id-small contents h = let total = total-small contents.callers h.callers h.calls in let at = h.next_id in omega arith

pub sum_by-set_suc : {X : Type 0} (f : X → ℕ) (xs : List X) (k : ℕ) (x y : X) → slice_get xs k ≡ Some x → f y ≡ suc (f x) → sum_by f (slice_set xs k y) ≡ suc (sum_by f xs)
sum_by-set_suc f xs k x y at h = omega (arith, sum_by-set f xs k y x (slice_get_within xs k x at), ap f (get_or_from_slice_get xs k x x at), h)

-- the slots stay as many
pub length-filled : (ns : List ℕ) (made : ℕ) (places : List ℕ) (begun : List Entry) (slots after : List (Option Version)) → filled ns made places begun slots ≡ Some after → length after ≡ length slots
length-filled ns made [] begun slots after e = grind (arith)
length-filled ns made (place ∷ places) begun slots after e = grind (arith, length-filled ns made places, length-set)

pub length-slots_after : (contents : Contents) (op : Op) (slots : List (Option Version)) → slots_after contents op ≡ Some slots → length slots ≡ length contents.slots
length-slots_after contents op slots fits = grind (arith, length-filled, length-map)

-- what a call that is let in leaves of the callers
record CountsOne (before after : List Caller) : Type 0 where
  long : length after ≡ length before
  calls : AllByRecursion (λ caller. caller.calls ≤ 2 ^ 56) before → AllByRecursion (λ caller. caller.calls ≤ 2 ^ 56) after
  total : sum_by (λ caller. caller.calls) after ≡ suc (sum_by (λ caller. caller.calls) before)

callers_count : (callers : List Caller) (client : ℕ) (new found : Caller) → seat client callers ≡ Some found → found.calls < 2 ^ 56 → new.calls ≡ suc found.calls → CountsOne callers (with_seat client new callers)
callers_count callers client new found at few same = grind (arith, length-set, AllByRecursion-set, sum_by-set_suc)

-- a caller that is let in has made fewer calls than may be made
pub few_calls : (calls : ℕ) (b : Bool) (call : Call) → refusal_of (Some calls) b call ≡ None → calls < 2 ^ 56
few_calls calls b call h = grind (arith)

callers_after-counts : (contents : Contents) (op : Op) → IsAllowed contents op → CountsOne contents.callers (callers_after contents.stamp contents.callers op.client op.call)
callers_after-counts contents op allowed = go (seat op.client contents.callers) refl allowed.accepted
  where
    go : (o : Option Caller) → seat op.client contents.callers ≡ o
        → refusal_of (elim o as (λ x. Option ℕ) [ None ↦ None | Some caller ↦ Some caller.calls ]) (is_some (elim o as (λ x. Option ℕ) [ None ↦ None | Some caller ↦ caller.at_begin ])) op.call ≡ None
        → CountsOne contents.callers (elim o as (λ x. List Caller) [ None ↦ contents.callers | Some found ↦ with_seat op.client (record { calls = suc found.calls; at_begin = begin_after contents.stamp op.call found.at_begin }) contents.callers ])
    go None at r = absurd (cc)
    go (Some found) at r = callers_count contents.callers op.client _ found at (few_calls found.calls (is_some found.at_begin) op.call r) refl

-- a call adds no more rows than a commit may have changes
pub added-small : (call : Call) → is_formed call ≡ true → added call ≤ 8
added-small call f = grind (arith, added_by-length)

pub IsBounded-stepped : (contents : Contents) (op : Op) (slots : List (Option Version)) → IsBounded contents → is_next contents op ≡ true → slots_after contents op ≡ Some slots → IsBounded (stepped contents op slots)
IsBounded-stepped contents op slots h next fits = grind (arith, callers_after-counts contents op (IsAllowed-from contents op next), length-slots_after contents op slots fits, added-small)

-- Numbers of a store that are far from their type's end.
pub ruleset bounds = (stamp-small, next_id-small, added-small)
