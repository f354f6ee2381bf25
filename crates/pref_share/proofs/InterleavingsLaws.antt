-- A joint run is one run of the sequential table.
use Rattle.pref_share.proofs.Common.{◌≡◌, ℕ, zero, suc, ◌<◌, ◌≤◌, List, [], ◌∷◌, length, get_or, inl, inr, ap, refl, sym, ◌∙◌, subst, arith, All, slice_get_within, get_or_from_slice_get, newcomer, newcomers, Each, IsPart, Standing}
use Rattle.std.proofs.lemmas.Bool.{cases_lt}
use Rattle.std.proofs.lemmas.List.FromFn.{get_or-map-range_with_len, length-map-range_with_len}
use Rattle.pref_share.specs.Interleavings.{Answered, JointRunsAreSequential}
use Rattle.pref_share.proofs.LastCalls.{IsOneOf}
use Rattle.pref_share.proofs.ClientActs.{Part, nothing_done, IsPartAt}
use Rattle.pref_share.proofs.RunsReached.{Reached, acts_of-events, reached}

-- how long three lists are that are alike, and what stands at a place of them
pub each_lengths : {A B C : Type 0} (Holds : A → B → C → Type 0) (xs : List A) (ys : List B) (zs : List C) → Each Holds xs ys zs → (length ys ≡ length xs) × (length zs ≡ length xs)
each_lengths Holds [] [] [] each = (refl, refl)
each_lengths Holds (x ∷ xs) (y ∷ ys) (z ∷ zs) (here, each) = let sizes = each_lengths Holds xs ys zs each in (ap suc sizes.0, ap suc sizes.1)
each_lengths Holds xs ys zs each = absurd each

each_at : {A B C : Type 0} (Holds : A → B → C → Type 0) (xs : List A) (ys : List B) (zs : List C) → Each Holds xs ys zs → (i : ℕ) (a : A) (b : B) (c : C) → i < length xs → Holds (get_or xs i a) (get_or ys i b) (get_or zs i c)
each_at Holds [] [] [] each i a b c lt = absurd (omega arith)
each_at Holds (x ∷ xs) (y ∷ ys) (z ∷ zs) (here, each) zero a b c lt = here
each_at Holds (x ∷ xs) (y ∷ ys) (z ∷ zs) (here, each) (suc i) a b c lt = each_at Holds xs ys zs each i a b c (omega arith)
each_at Holds xs ys zs each i a b c lt = absurd each

pub joint_runs_are_sequential : JointRunsAreSequential
joint_runs_are_sequential o acts returned joint = record {
  run = r.run;
  interleaving = record {
    lists = omega (arith, sizes.0, sizes.1);
    acts_in_order = λ place list e. acts_of-events (suc place) r.run ∙ r.acts (suc place) (one_of place (slice_get_within acts place list e) sizes.0) ∙ get_or_from_slice_get acts place list [] e;
    replies_in_order = λ place list e. r.returned (suc place) (one_of place (slice_get_within returned place list e) sizes.1) ∙ get_or_from_slice_get returned place list [] e;
    nobody_else = subst (λ n. All (λ (x : Answered). (0 < x.event.client) × (x.event.client ≤ n)) r.run) (sym (sizes.0 ∙ many)) r.nobody_else;
  };
  answers = r.answers;
}
  where
    many : length (newcomers o.limits.clients) ≡ o.limits.clients
    many = length-map-range_with_len newcomer 1 o.limits.clients

    sizes : (length acts ≡ length (newcomers o.limits.clients)) × (length returned ≡ length (newcomers o.limits.clients))
    sizes = each_lengths (IsPart o joint.history) (newcomers o.limits.clients) acts returned joint.each

    one_of : (place : ℕ) {n : ℕ} → place < n → n ≡ length (newcomers o.limits.clients) → IsOneOf o (suc place)
    one_of place lt is = (omega arith, omega (arith, lt, is, many))

    -- the part of the client whose lists stand at this place
    at : (place : ℕ) → (last : Standing) × (IsOneOf o (suc place) → IsPartAt o joint.history (suc place) (record { acts = get_or acts place []; returned = get_or returned place []; last = last }))
    at place = elim (cases_lt place o.limits.clients) [
      | inl within ↦
          let here = each_at (IsPart o joint.history) (newcomers o.limits.clients) acts returned joint.each place (newcomer 0) [] [] (omega (arith, within, many)) in
          let own = subst (λ (s : Standing). IsPart o joint.history s (get_or acts place []) (get_or returned place [])) (get_or-map-range_with_len newcomer 1 o.limits.clients place (suc place) (newcomer 0) within (omega arith)) here in
          (own.last, λ one. record { runs = own.runs; is_in = own.within })
      | inr past ↦ (newcomer 0, λ one. absurd (omega (arith, one.1, past)))
    ]

    parts : ℕ → Part
    parts zero = nothing_done zero
    parts (suc place) = record { acts = get_or acts place []; returned = get_or returned place []; last = (at place).0 }

    each : (number : ℕ) → IsOneOf o number → IsPartAt o joint.history number (parts number)
    each zero one = absurd (omega (arith, one.0))
    each (suc place) one = (at place).1 one

    r : Reached o joint.history parts
    r = reached o joint.history joint.legal parts each
