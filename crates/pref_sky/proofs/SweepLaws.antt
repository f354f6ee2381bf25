-- One pass over entries in order: the class of the next entry, how many levels are above it, and what is known behind it.
use Rattle.pref_sky.proofs.Common.{◌≡◌, ℕ, suc, ◌<◌, ◌≤◌, ◌+◌, ◌-◌, Bool, true, false, not, inl, inr, List, [], ◌∷◌, ◌++◌, refl, sym, ◌∙◌, ap, subst, arith, length, get_or, set}
use Rattle.pref_sky.proofs.Common.{OwnOrder, own_order, and_from, cases_eq, cases_lt, false_from_ne_true, get_or-set_same, get_or-set_other, length-set, length_push}
use Rattle.pref_sky.proofs.Common.{get_or_push, get_or_append_left, comes_after, Entry, entry_at, IsChain, StandAlike, comes_first, in_turn}
use Rattle.pref_sky.proofs.ChainLaws.{chain_in_turn, level_above}
use Rattle.pref_sky.proofs.LeveledLaws.{only_level}
use Rattle.pref_sky.proofs.ListLaws.{among_place}
use Rattle.pref_sky.proofs.Merges.{comes_after_upto}
use Rattle.pref_sky.proofs.StepLaws.{alike_stays, member_over, new_class, same_level, stays}
use Rattle.pref_sky.specs.Sweep.{AreAbove, ArePlaces, AreSwept, HasSwept, IsClass, IsMember, IsSameLevel, StandsFor, are_level_in, is_at}
use Rattle.pref_sky.specs.Leads.{HasPassed, HasSweptBy, IsClassBy}
use Rattle.pref_sky.specs.declared.lead.Lead.{Lead}
use Rattle.pref_sky.specs.declared.level.Level.{Level}
use Rattle.pref_sky.specs.declared.sweep.Sweep.{Sweep}

-- ---- alike entries

-- they have the same above them
pub above_alike : {E : Type 0} (over : E → E → Bool) (cut : ℕ) (all : List E) (a b : E) (n : ℕ) → StandAlike over a b → AreAbove over cut all a n → AreAbove over cut all b n
above_alike over cut all a b n alike above = grind (arith, above.within, above.after, above.no_more)

-- ---- classes: entries that are level in three chains

module _ {over first second third : Entry → Entry → Bool} {all : List Entry} (swept : AreSwept over first second third all) where
  abbrev order : Entry → Entry → Bool
  order = comes_first first second third

  order_chain : IsChain order
  order_chain = let led = swept.led in chain_in_turn first (in_turn second third) led.first_is_chain (chain_in_turn second third led.second_is_chain led.third_is_chain)

  -- an entry that is level with the one before it is of its class
  pub class_goes_on : (class i : ℕ) → 0 < i → IsClass first second third all class (i - 1) → are_level_in first second third (entry_at all (i - 1)) (entry_at all i) ≡ true → IsClass first second third all class i
  class_goes_on class i some is same =
      grind (arith, is.begins, is.apart, level_above order order_chain (entry_at all (i - 1)) (entry_at all i))

  -- another begins a class: what does not come behind the one before it comes before it too
  pub class_begins : (i : ℕ) → i < length all → (0 < i → are_level_in first second third (entry_at all (i - 1)) (entry_at all i) ≡ false) → IsClass first second third all i i
  class_begins i inside apart =
      grind (arith, swept.in_lead, order_chain.between (entry_at all (i - 1)))

-- what stands for members is inside
pub are_places : {over second third : Entry → Entry → Bool} {rule : Entry → ℕ} {mark : ℕ → ℕ} {all : List Entry} {class i n : ℕ} {kept : Level} → i < length all → StandsFor over second third rule mark all class i n kept → ArePlaces all kept
are_places {kept = kept} inside stands =
    record {
      steps = λ k d there. omega (arith, inside, (stands.steps_within (get_or kept.steps.items k d) (among_place kept.steps.items k d there)).0);
      run = λ k d there. omega (arith, inside, (stands.kept_within (get_or kept.run.items k d) (inl (among_place kept.run.items k d there))).0.0);
      fresh = λ k d there. omega (arith, inside, (stands.kept_within (get_or kept.fresh.items k d) (inr (among_place kept.fresh.items k d there))).0.0);
    }

-- ---- what is known so far

module _ {over second third : Entry → Entry → Bool} {rule : Entry → ℕ} {mark : ℕ → ℕ} {cut : ℕ} {all : List Entry} {i class : ℕ} {levels : List Level} (so_far : HasSwept over second third rule mark cut all i class levels) where
  abbrev Stands : (j n : ℕ) → Level → Type 0
  Stands = StandsFor over second third rule mark all class

  -- no entry so far is of a class that begins here
  pub swept_anew : HasSwept over second third rule mark cut all i i levels
  swept_anew = record {
    within = so_far.within;
    stand = λ n kept there is. new_class over second third rule mark all class i n kept (so_far.stand n kept there is) i (omega arith);
    known = so_far.known;
  }

  -- nor of a level that is begun
  pub swept_longer : (empty : Level) → length levels < cut → (((j : ℕ) → IsMember over all i (length levels) j → ⊥) → Stands i (length levels) empty) → HasSwept over second third rule mark cut all i class (levels ++ empty ∷ [])
  swept_longer empty early is_empty =
      let long = length_push levels empty in
      record {
        within = omega (arith, long, early);
        stand = λ n kept there is. elim (cases_lt n (length levels)) [
          | inl old ↦ so_far.stand n kept old (is ∙ get_or_append_left levels (empty ∷ []) kept n old)
          | inr behind ↦
              let last : n ≡ length levels = omega (arith, behind, there, long) in
              let stands = is_empty (λ j member. absurd (omega (arith, so_far.known j (length levels) early member))) in
              subst (λ m. Stands i m kept) (sym last) (subst (Stands i (length levels)) (sym (is ∙ get_or_push levels empty kept n (sym last))) stands)
        ];
        known = λ j n early_n member. omega (arith, long, so_far.known j n early_n member);
      }

  -- a level that was asked has another order of its class at most
  pub swept_asked : (n : ℕ) (kept asked : Level) → n < length levels → kept ≡ get_or levels n kept → IsSameLevel kept asked → HasSwept over second third rule mark cut all i class (set levels n asked)
  swept_asked n kept asked there here same =
      let long = length-set levels n asked in
      record {
        within = omega (arith, so_far.within, long);
        stand = λ k new old is. elim (cases_eq k n) [
          | inl this ↦
              let stands = same_level over second third rule mark all class i n kept asked same (so_far.stand n kept there here) in
              subst (λ m. Stands i m new) (sym this) (subst (Stands i n) (sym (is ∙ ap (λ m. get_or (set levels n asked) m new) this ∙ get_or-set_same levels n asked new there)) stands)
          | inr other ↦ so_far.stand k new (omega (arith, old, long)) (is ∙ get_or-set_other levels n k asked new other)
        ];
        known = λ j k early member. omega (arith, so_far.known j k early member, long);
      }

  module _ {first : Entry → Entry → Bool} (swept : AreSwept over first second third all) (inside : i < length all) where
    abbrev e : Entry
    e = entry_at all i

    -- ---- the levels above the next entry

    -- where more were above it than are known, one would have an entry before it
    pub none_past : (n : ℕ) → n ≡ length levels → n < cut → comes_after over all (suc n) e ≡ false
    none_past n long early = false_from_ne_true _ (λ h. let w = member_over over first second third all swept i n inside h in absurd (omega (arith, long, so_far.known w.0 n early w.1)))

    pub all_known : (n : ℕ) → n ≤ cut → comes_after over all n e ≡ true → n ≤ length levels
    all_known n within chain = grind (arith, none_past (length levels) refl, comes_after_upto over all (suc (length levels)) n e)

    -- ---- what is known behind it

    module _ (n : ℕ) (above : AreAbove over cut all e n) where
      -- its level is known and what is kept of it stands for it too, or it is below the cut
      swept_next : (new : List Level) → length new ≡ length levels → (n < cut → n < length levels) → ((kept : Level) → n < length levels → kept ≡ get_or new n kept → Stands (i + 1) n kept)
          → ((k : ℕ) (kept : Level) → (k ≡ n → ⊥) → kept ≡ get_or new k kept → kept ≡ get_or levels k kept) → HasSwept over second third rule mark cut all (i + 1) class new
      swept_next new long known here others =
          let only : (k : ℕ) → k < cut → is_at over all k e ≡ true → k ≡ n = λ k early at. grind (arith, at, only_level over cut all e n k above early) in
          record {
            within = omega (arith, long, so_far.within);
            stand = λ k kept there is. elim (cases_eq k n) [
              | inl same ↦ subst (λ m. Stands (i + 1) m kept) (sym same) (here kept (omega (arith, there, long, same)) (is ∙ ap (λ m. get_or new m kept) same))
              | inr other ↦
                  let apart = false_from_ne_true (is_at over all k e) (λ at. other (only k (omega (arith, there, long, so_far.within)) at)) in
                  stays over second third rule mark all class i k kept (so_far.stand k kept (omega (arith, there, long)) (others k kept other is)) apart
            ];
            known = λ j k early member. elim (cases_eq j i) [
              | inl same ↦ omega (arith, long, known, only k early (subst (λ m. is_at over all k (entry_at all m) ≡ true) same member.1))
              | inr other ↦ omega (arith, long, so_far.known j k early (omega (arith, member.0, other), member.1))
            ];
          }

      -- it is alike to the one before it
      pub swept_alike : 0 < i → class ≤ i - 1 → AreAbove over cut all (entry_at all (i - 1)) n → StandAlike over (entry_at all (i - 1)) e → are_level_in first second third (entry_at all (i - 1)) e ≡ true
          → HasSwept over second third rule mark cut all (i + 1) class levels
      swept_alike some begins before alike level =
          let at : n < cut → is_at over all n (entry_at all (i - 1)) ≡ true = λ early. and_from _ _ before.after (ap not (before.no_more early)) in
          swept_next levels refl (λ early. so_far.known (i - 1) n early (omega (arith, some), at early))
          (λ kept there is. alike_stays over second third rule mark all class i n kept (so_far.stand n kept there is) first swept.led.second_is_chain swept.led.third_is_chain some begins (at (omega (arith, there, so_far.within))) alike level)
          (λ k kept _ is. is)

      -- it is below the cut
      pub swept_below : cut ≤ n → HasSwept over second third rule mark cut all (i + 1) class levels
      swept_below past = swept_next levels refl (λ early. absurd (omega (arith, past, early))) (λ kept there is. absurd (omega (arith, there, so_far.within, past))) (λ k kept _ is. is)

      -- it is kept in its level
      pub swept_put : (put : Level) → n < length levels → Stands (i + 1) n put → HasSwept over second third rule mark cut all (i + 1) class (set levels n put)
      swept_put put there stands =
          swept_next (set levels n put) (length-set levels n put) (λ _. there) (λ kept _ is. subst (Stands (i + 1) n) (sym (is ∙ get_or-set_same levels n put kept there)) stands)
          (λ k kept other is. is ∙ get_or-set_other levels n k put kept other)

-- ---- what is known behind it, of it and of those before

pub behind : {order : OwnOrder} {lead : Lead} {all : List Entry} {i : ℕ} {sweep : Sweep} → HasSweptBy order lead all (i + 1) sweep.class sweep.levels.items → IsClassBy order lead all sweep.class i
    → AreAbove (own_order order) order.cut all (entry_at all i) sweep.above → HasPassed order lead all (i + 1) sweep
behind {order = order} {lead = lead} {all = all} {i = i} {sweep = sweep} so_far class above =
    let last : i ≡ i + 1 - 1 = omega arith in grind (arith, last)
