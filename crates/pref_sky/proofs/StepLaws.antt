-- What is kept of a level in a sweep: its steps and its run tell whether an entry of the level dominates the next entry, and how they stand for one entry more.
use Rattle.pref_sky.proofs.Common.{◌≡◌, ℕ, suc, zero, ◌<◌, ◌≤◌, ◌+◌, ◌-◌, Bool, true, false, not, ◌&&◌, ◌||◌, ◌⊎◌, inl, inr, List, [], ◌∷◌, ◌++◌, refl, subst, sym, ◌∙◌, ap, arith, filter, length, get_or, take, drop}
use Rattle.pref_sky.proofs.Common.{Global, Vec, both_ways, cases_Bool, cases_eq, false_from_ne_true, Entry, entry_at, Item, Among, StandAlike, IsChain, IsInOrder}
use Rattle.pref_sky.proofs.ChainLaws.{level_above, level_below}
use Rattle.pref_sky.proofs.ListLaws.{among_place, any_from, from_filter, in_filter, in_order_at, in_order_joined, place_of, in_either, in_left, in_right}
use Rattle.pref_sky.proofs.Merges.{comes_after, unbeaten_over}
use Rattle.pref_sky.specs.Sweep.{AreSwept, IsAskedOf, IsClass, IsKept, IsMember, HasAlike, IsOneMore, IsSameLevel, StandsFor, are_level_in, is_ahead, is_at}
use Rattle.pref_sky.specs.Held.{AreHeld}
use Rattle.pref_sky.specs.Steps.{IsAsked, IsCovered, IsCut, IsStepPut, covers, is_counted, stands_before, step_at}
use Rattle.pref_sky.specs.declared.level.Counted.TheVariants.{NoWorse}
use Rattle.pref_sky.specs.declared.level.Level.{Level}
use Rattle.pref_term.specs.Signatures.{is_within}

-- in a chain, no worse and again no worse; in two chains
no_worse_then : {E : Type 0} (f : E → E → Bool) → IsChain f → (a b c : E) → f b a ≡ false → f c b ≡ false → f c a ≡ false
no_worse_then f chain a b c first then = grind (arith, chain.between c b a)

covers_then : (second third : Entry → Entry → Bool) → IsChain second → IsChain third → (a b c : Entry) → covers second third a b ≡ true → covers second third b c ≡ true → covers second third a c ≡ true
covers_then second third second_is_chain third_is_chain a b c first then = grind (arith, no_worse_then second second_is_chain a b c, no_worse_then third third_is_chain a b c)

-- a chain the other way round is one too
turned : {E : Type 0} (f : E → E → Bool) → IsChain f → IsChain (λ a b. f b a)
turned f chain = grind (arith, chain.strict, chain.between)

-- what is ahead of an entry that a third one is no worse than: that one is ahead as well, or is behind it
one_ahead : (f s t : Entry → Entry → Bool) → IsChain f → IsChain s → IsChain t → (m c e : Entry) → is_ahead f s t m e ≡ true
    → f e c ≡ false → covers s t c e ≡ true → (is_ahead f s t c e ≡ true) ⊎ (is_ahead f s t m c ≡ true)
one_ahead f s t first second third m c e ahead in_first covered =
    grind (arith, first.between m c e, first.between c e m, second.between m c e, second.between c e m, third.between m c e, third.between c e m)

-- what is no worse in the first chain and better in the two others is ahead
better_is_ahead : {E : Type 0} (f s t : E → E → Bool) → IsChain s → IsChain t → (c e : E) → f e c ≡ false → s c e ≡ true → t c e ≡ true → is_ahead f s t c e ≡ true
better_is_ahead f s t second third c e no_worse in_second in_third =
    grind (arith, second.strict.transitive e c e, second.strict.irreflexive e, third.strict.transitive e c e, third.strict.irreflexive e)

-- what is ahead of one is ahead of one that is level with it
ahead_of_level : {E : Type 0} (f s t : E → E → Bool) → IsChain f → IsChain s → IsChain t → (a b c : E) → are_level_in f s t a b ≡ true → is_ahead f s t c b ≡ true → is_ahead f s t c a ≡ true
ahead_of_level f s t first second third a b c level ahead =
    grind (arith, level_above f first a b c, level_below f first a b c, level_above s second a b c, level_below s second a b c, level_above t third a b c, level_below t third a b c)

-- one step is the last that is no worse in the second chain, or none is: so it is asked at once
pub one_asked : (over second : Entry → Entry → Bool) (all : List Entry) (steps : List ℕ) (e : Entry) (answer : Bool) → length steps ≡ 1 → answer ≡ over (entry_at all (get_or steps 0 0)) e
    → IsAsked over second all steps e answer
one_asked over second all steps e answer one is =
    record {
      found = λ h. (0, omega (arith, one), sym is ∙ h);
      none = λ h. elim (cases_Bool (second e (entry_at all (get_or steps 0 0)))) [
        | inl worse ↦ (0, record { within = omega arith; last = λ some. absurd (omega (arith, some)); next = λ more. ap not worse }, λ some. absurd (omega (arith, some)))
        | inr no_worse ↦ (1, record { within = omega (arith, one); last = λ some. ap not no_worse; next = λ more. absurd (omega (arith, more, one)) }, λ some. sym is ∙ h)
      ];
    }

-- ---- another level, and another class

-- the order of what is kept in the class is of no matter
pub same_level : (over second third : Entry → Entry → Bool) (rule : Entry → ℕ) (mark : ℕ → ℕ) (all : List Entry) (class i n : ℕ) (old new : Level) → IsSameLevel old new
    → StandsFor over second third rule mark all class i n old → StandsFor over second third rule mark all class i n new
same_level over second third rule mark all class i n old new same stands =
    record {
      steps_within = rw same.steps stands.steps_within;
      steps_cover = rw same.steps stands.steps_cover;
      in_order = rw same.steps stands.in_order;
      kept_within = λ x m. grind (arith, stands.kept_within x, same.run.back x, same.fresh.back x);
      run_held = λ x m. stands.run_held x (same.run.back x m);
      kept_cover = λ j behind member.
          let w = stands.kept_cover j behind member in
          let x = w.1.0 in
          (same.class ∙ w.0, (x, elim w.1.1 [ inl old ↦ inl (same.run.there x old) | inr came ↦ inr (same.fresh.there x came) ], w.1.2));
    }

module _ (over second third : Entry → Entry → Bool) (rule : Entry → ℕ) (mark : ℕ → ℕ) (all : List Entry) (class i n : ℕ) (kept : Level) (stands : StandsFor over second third rule mark all class i n kept) where
  -- no entry so far is of a class that begins behind them
  pub new_class : (later : ℕ) → i ≤ later → StandsFor over second third rule mark all later i n kept
  new_class later behind = grind (arith)

  -- where the next entry is covered too, nothing changes
  covered : (IsMember over all (i + 1) n i → IsCovered second third all kept.steps.items (entry_at all i)) → (class ≤ i → IsMember over all (i + 1) n i → (kept.class ≡ class) × HasAlike over all kept (entry_at all i))
      → StandsFor over second third rule mark all class (i + 1) n kept
  covered step alike =
      record {
        steps_within = λ p m. grind (arith, stands.steps_within p m);
        steps_cover = λ j member. elim (cases_eq j i) [ inl same ↦ rw same (step (rw same at member)) | inr before ↦ stands.steps_cover j (omega (arith, member.0, before), member.1) ];
        in_order = stands.in_order;
        kept_within = λ x m. grind (arith, stands.kept_within x m);
        run_held = stands.run_held;
        kept_cover = λ j behind member. elim (cases_eq j i) [
          | inl same ↦ rw same (alike (omega (arith, behind, same)) (rw same at member))
          | inr before ↦ stands.kept_cover j behind (omega (arith, member.0, before), member.1)
        ];
      }

  -- as that of another level
  pub stays : is_at over all n (entry_at all i) ≡ false → StandsFor over second third rule mark all class (i + 1) n kept
  stays other = covered (λ member. absurd (both_ways (is_at over all n (entry_at all i)) other member.1)) (λ behind member. absurd (both_ways (is_at over all n (entry_at all i)) other member.1))

  -- and one that is alike to a member before it, and level with it in all chains
  pub alike_stays : (first : Entry → Entry → Bool) → IsChain second → IsChain third → 0 < i → class ≤ i - 1 → is_at over all n (entry_at all (i - 1)) ≡ true
      → StandAlike over (entry_at all (i - 1)) (entry_at all i) → are_level_in first second third (entry_at all (i - 1)) (entry_at all i) ≡ true → StandsFor over second third rule mark all class (i + 1) n kept
  alike_stays first second_is_chain third_is_chain some from at alike level =
      let m = entry_at all (i - 1) in
      let e = entry_at all i in
      let last : IsMember over all i n (i - 1) = (omega (arith, some), at) in
      let w = stands.steps_cover (i - 1) last in
      let x = stands.kept_cover (i - 1) from last in
      covered (λ _. (w.0, w.1, covers_then second third second_is_chain third_is_chain (entry_at all w.0) m e w.2 (grind (arith, level))))
      (λ _ _. (x.0, (x.1.0, x.1.1, record { above = λ c. x.1.2.above c ∙ alike.above c; below = λ c. x.1.2.below c ∙ alike.below c })))

-- what is among a list with one more behind it
pub pushed : {E : Type 0} (xs ys : List E) (x : E) → ys ≡ xs ++ x ∷ [] → Among x ys × ((y : E) → Among y ys → Among y xs ⊎ (y ≡ x)) × ((y : E) → Among y xs → Among y ys)
pushed xs ys x is = rw is (in_right xs (x ∷ []) x (inl refl), (λ y m. grind (arith, in_either xs (x ∷ []) y m)), (λ y m. in_left xs (x ∷ []) y m))

-- ---- steps in order

-- where the first n pass and no other: what a filter keeps, and what it leaves
cut_by : (p : ℕ → Bool) (xs : List ℕ) (n : ℕ) → ((k : ℕ) → k < n → k < length xs → p (get_or xs k 0) ≡ true) → ((k : ℕ) → n ≤ k → k < length xs → p (get_or xs k 0) ≡ false)
    → (filter p xs ≡ take n xs) × (filter (λ x. not (p x)) xs ≡ drop n xs)
cut_by p [] zero pass fail = (refl, refl)
cut_by p [] (suc n) pass fail = (refl, refl)
cut_by p (x ∷ xs) zero pass fail = grind (arith, fail 0, cut_by p xs zero (λ k near _. absurd (omega (arith, near))) (λ k _ there. fail (suc k) (omega arith) (omega (arith, there))))
cut_by p (x ∷ xs) (suc n) pass fail =
    grind (arith, pass 0, cut_by p xs n (λ k near there. pass (suc k) (omega (arith, near)) (omega (arith, there))) (λ k past there. fail (suc k) (omega (arith, past)) (omega (arith, there))))

in_order_filtered : {E : Type 0} (le : E → E → Bool) (p : E → Bool) (xs : List E) → IsInOrder le xs → IsInOrder le (filter p xs)
in_order_filtered le p [] ordered = ordered
in_order_filtered le p (x ∷ xs) ordered = grind (arith, from_filter p xs, in_order_filtered le p xs ordered.1)

module _ (second third : Entry → Entry → Bool) (second_is_chain : IsChain second) (third_is_chain : IsChain third) (all : List Entry) (steps : List ℕ) (ordered : IsInOrder (stands_before second third all) steps) (e : Entry) where
  abbrev step : ℕ → Entry
  step k = step_at all steps k

  -- later ones are no better in the second chain, and earlier ones no better in the third
  in_order_upto : (k l : ℕ) → k ≤ l → l < length steps → stands_before second third all (get_or steps k 0) (get_or steps l 0) ≡ true
  in_order_upto k l le there = grind (arith, in_order_at (stands_before second third all) steps k l 0 ordered, second_is_chain.strict.irreflexive (step l), third_is_chain.strict.irreflexive (step l))

  -- the last one that is no worse in the second chain stands for all that are so in both
  last_covers : (count : ℕ) → IsCut (is_counted second all e NoWorse) steps count → IsCovered second third all steps e → (0 < count) × (covers second third (step (count - 1)) e ≡ true)
  last_covers count cut covered =
      let w = place_of steps covered.0 0 covered.1 in
      let at : covers second third (step w.0) e ≡ true = rw w.2 covered.2 in
      let near : w.0 < count = grind (arith, at, w.1, cut.next, in_order_upto count w.0, no_worse_then second second_is_chain (step count) (step w.0) e) in
      (omega (arith, near), grind (arith, at, near, cut.last, cut.within, in_order_upto w.0 (count - 1), no_worse_then third third_is_chain (step (count - 1)) (step w.0) e))

  -- those that are better in the second chain, and those of the others that are better in the third
  abbrev is_better : ℕ → Bool
  is_better p = second (entry_at all p) e

  abbrev is_behind : ℕ → Bool
  is_behind p = not (second (entry_at all p) e || not (third (entry_at all p) e))

  -- between these a new one is put
  put_is : (place : ℕ) (new : List ℕ) → e ≡ entry_at all place → IsStepPut second third all steps place new → new ≡ filter is_better steps ++ place ∷ filter is_behind steps
  put_is place new is put =
      let better : (k : ℕ) → k < put.from → k < length steps → is_better (get_or steps k 0) ≡ true =
      λ k near there. grind (arith, is, near, put.better.last, put.better.within, in_order_upto k (put.from - 1), second_is_chain.between (step (put.from - 1)) (step k) e) in
      let no_better : (k : ℕ) → put.from ≤ k → k < length steps → is_better (get_or steps k 0) ≡ false =
      λ k past there. grind (arith, is, past, there, put.better.next, in_order_upto put.from k, second_is_chain.between (step k) (step put.from) e) in
      let front = (cut_by is_better steps put.from better no_better).0 in
      let rest : filter is_behind steps ≡ drop put.to steps =
      (cut_by (λ p. is_better p || not (third (entry_at all p) e)) steps put.to (λ k near there. grind (arith, is, near, there, better k, put.taken_out.skipped k))
      (λ k past there. grind (arith, is, past, there, put.taken_out.from_to, no_better k, put.taken_out.next, in_order_upto put.to k, third_is_chain.between (step put.to) (step k) e))).1 in
      grind (arith, put.is, front, rest)

  -- and they are in order again where none is better in both chains
  in_order_put : (place : ℕ) → e ≡ entry_at all place → ((p : ℕ) → Among p steps → is_better p ≡ true → third (entry_at all p) e ≡ false)
      → IsInOrder (stands_before second third all) (filter is_better steps ++ place ∷ filter is_behind steps)
  in_order_put place is apart =
      let le = stands_before second third all in
      let before : (a : ℕ) → Among a (filter is_better steps) → le a place ≡ true =
      λ a m. grind (arith, is, from_filter is_better steps a m, apart a, second_is_chain.strict.transitive e (entry_at all a) e, second_is_chain.strict.irreflexive e) in
      let behind : (b : ℕ) → Among b (filter is_behind steps) → le place b ≡ true =
      λ b m. grind (arith, is, from_filter is_behind steps b m, third_is_chain.strict.transitive e (entry_at all b) e, third_is_chain.strict.irreflexive e) in
      in_order_joined le (filter is_better steps) (place ∷ filter is_behind steps) (in_order_filtered le is_better steps ordered) (behind, in_order_filtered le is_behind steps ordered)
      (λ a b m n. elim n [
        | inl same ↦ rw same (before a m)
        | inr rest ↦ covers_then second (λ x y. third y x) second_is_chain (turned third third_is_chain) (entry_at all a) (entry_at all place) (entry_at all b) (before a m) (behind b rest)
      ])

-- ---- does an entry of the level dominate the next one?

module _ (over first second third : Entry → Entry → Bool) (all : List Entry) (swept : AreSwept over first second third all) where
  among : (j : ℕ) → j < length all → Among (entry_at all j) all
  among j inside = among_place all j (record { id = 0; row = [] }) inside

  ahead_is_over : (j p : ℕ) → j < length all → p < length all → is_ahead first second third (entry_at all j) (entry_at all p) ≡ true → over (entry_at all j) (entry_at all p) ≡ true
  ahead_is_over j p j_inside p_inside ahead = swept.led.ahead (entry_at all j) (entry_at all p) (among j j_inside) (among p p_inside) ahead

  module _ (i n : ℕ) where
    -- what a member is over has one level more above it
    pub over_by_member : (j p : ℕ) → IsMember over all i n j → i ≤ length all → over (entry_at all j) (entry_at all p) ≡ true → comes_after over all (suc n) (entry_at all p) ≡ true
    over_by_member j p member inside above = grind (arith, any_from, among j)

    -- so no entry of the level is over another
    pub members_are_apart : (j p : ℕ) → IsMember over all i n j → i ≤ length all → is_at over all n (entry_at all p) ≡ true → over (entry_at all j) (entry_at all p) ≡ false
    members_are_apart j p member inside at = grind (arith, over_by_member j p)

    -- and where a chain of n + 1 stands over the next entry, a member is over it
    pub member_over : i < length all → comes_after over all (suc n) (entry_at all i) ≡ true → (j : ℕ) × IsMember over all i n j × (over (entry_at all j) (entry_at all i) ≡ true)
    member_over inside late =
        let top = unbeaten_over over swept.strict (comes_after over all n) all (entry_at all i) late in
        let w = place_of all top.0 (record { id = 0; row = [] }) top.1 in
        grind (arith, swept.in_order i w.0)

  module _ (rule : Entry → ℕ) (mark : ℕ → ℕ) (class i n : ℕ) (kept : Level) (stands : StandsFor over second third rule mark all class i n kept) (inside : i < length all) where
    abbrev next_one : Entry
    next_one = entry_at all i

    abbrev steps : List ℕ
    steps = kept.steps.items

    -- a step is no worse than the next entry in the first chain
    in_first : (p : ℕ) → Among p steps → first next_one (entry_at all p) ≡ false
    in_first p m = grind (arith, swept.in_lead p i (omega (arith, (stands.steps_within p m).0)) inside)

    step_inside : (p : ℕ) → Among p steps → p < length all
    step_inside p m = omega (arith, (stands.steps_within p m).0, inside)

    -- where a member is ahead of the next entry, the last step that is no worse in the second chain is over it
    step_over : (j count : ℕ) → IsCut (is_counted second all next_one NoWorse) steps count → IsMember over all i n j → is_ahead first second third (entry_at all j) next_one ≡ true
        → (0 < count) × (over (step_at all steps (count - 1)) next_one ≡ true)
    step_over j count cut member ahead =
        let m = entry_at all j in
        let led = swept.led in
        let w = stands.steps_cover j member in
        let covered : IsCovered second third all steps next_one = (w.0, w.1, covers_then second third led.second_is_chain led.third_is_chain (entry_at all w.0) m next_one w.2 (grind (arith, ahead))) in
        let last = last_covers second third led.second_is_chain led.third_is_chain all steps stands.in_order next_one count cut covered in
        let place = get_or steps (count - 1) 0 in
        let there = among_place steps (count - 1) 0 (omega (arith, cut.within, last.0)) in
        let found = one_ahead first second third led.first_is_chain led.second_is_chain led.third_is_chain m (entry_at all place) next_one ahead (in_first place there) last.1 in
        (last.0, grind (arith, found, ahead_is_over place i (step_inside place there) inside, members_are_apart i n j place member (omega (arith, inside)) (stands.steps_within place there).1, ahead_is_over j place (omega (arith, member.0, inside)) (step_inside place there)))

    -- what is found is over the next entry
    pub found_step : (e : Entry) (answer : Bool) → e ≡ next_one → IsAsked over second all steps e answer → answer ≡ true → comes_after over all (suc n) next_one ≡ true
    found_step e answer here asked found = let w = asked.found found in over_by_member i n (get_or steps w.0 0) i (stands.steps_within (get_or steps w.0 0) (among_place steps w.0 0 w.1)) (omega (arith, inside)) (ap (over (step_at all steps w.0)) (sym here) ∙ w.2)

    -- and something is found where a member is over it
    module _ (signed : (a b : Entry) → Among a all → Among b all → are_level_in first second third a b ≡ true → over a b ≡ true → is_within (rule a) (rule b) ≡ true)
        (of_class : IsClass first second third all class i) where
      abbrev pub is_over : Item → Bool
      is_over x = is_within x.signature (rule next_one) && over (entry_at all x.place) next_one

      -- what is alike to one that is level with it, and is over it, is level with it too: else it were over the other
      level_too : (x j : ℕ) → x < length all → j < length all → StandAlike over (entry_at all x) (entry_at all j) → are_level_in first second third (entry_at all j) next_one ≡ true
          → over (entry_at all x) next_one ≡ true → are_level_in first second third (entry_at all x) next_one ≡ true
      level_too x j x_inside j_inside alike level above =
          let m = entry_at all j in
          let led = swept.led in
          let over_m = ahead_of_level first second third led.first_is_chain led.second_is_chain led.third_is_chain m next_one (entry_at all x) level in
          grind (arith, led.decided (entry_at all x) next_one (among x x_inside) (among i inside) above, over_m, alike.below m, swept.strict.irreflexive m, ahead_is_over x j x_inside j_inside)

      -- one that is level with it in all chains is alike to one that is kept in the class
      one_over : (j : ℕ) → IsMember over all i n j → over (entry_at all j) next_one ≡ true → are_level_in first second third (entry_at all j) next_one ≡ true
          → (kept.class ≡ class) × ((x : Item) × IsKept x kept × (is_over x ≡ true))
      one_over j member above level =
          let w = stands.kept_cover j (grind (arith, of_class.apart j, level)) member in
          let x = w.1.0 in
          let over_it : over (entry_at all x.place) next_one ≡ true = w.1.2.below next_one ∙ above in
          let of_all = stands.kept_within x w.1.1 in
          let x_inside : x.place < length all = omega (arith, of_all.0.0, inside) in
          let level_x = level_too x.place j x_inside (omega (arith, member.0, inside)) w.1.2 level over_it in
          (w.0, (x, w.1.1, grind (arith, over_it, of_all.1, signed (entry_at all x.place) next_one (among x.place x_inside) (among i inside) level_x over_it)))

      -- those that it is not compared with are not over it: of those that were of this level none is over one that was held too, of this level or of one above
      pub none_kept : {cut : ℕ} → AreHeld over cut mark all → mark i ≤ suc n → ((x : Item) → IsAskedOf (mark i) x kept → is_over x ≡ false) → (x : Item) → IsKept x kept → is_over x ≡ false
      none_kept held near none x m = grind (arith, none x, stands.kept_within x m, stands.run_held x, held.apart i x.place)

      -- where neither the last step that is no worse nor one that is kept in the class is over it, none is
      pub none_over : (e : Entry) (answer : Bool) → e ≡ next_one → IsAsked over second all steps e answer → answer ≡ false
          → (kept.class ≡ class → (x : Item) → IsKept x kept → is_over x ≡ false) → comes_after over all (suc n) next_one ≡ false
      none_over e answer here asked no_step no_one =
          false_from_ne_true (comes_after over all (suc n) next_one) (λ late.
          let w = member_over i n inside late in
          let decided = swept.led.decided (entry_at all w.0) next_one (among w.0 (omega (arith, w.1.0, inside))) (among i inside) w.2 in
          let last = (subst (λ a. IsAsked over second all steps a answer) here asked).none no_step in
          grind (arith, decided, step_over w.0 last.0 last.1 w.1, last.2, one_over w.0 w.1 w.2, no_one))

    -- ---- how they stand once it is put there

    module _ (at : is_at over all n next_one ≡ true) where
      -- one that is better in the second chain is no better in the third: it would dominate an entry of its level
      apart : (p : ℕ) → Among p steps → second (entry_at all p) next_one ≡ true → third (entry_at all p) next_one ≡ false
      apart p m in_second =
          let ahead = better_is_ahead first second third swept.led.second_is_chain swept.led.third_is_chain (entry_at all p) next_one (in_first p m) in_second in
          grind (arith, ahead, members_are_apart i n p i (stands.steps_within p m) (omega (arith, inside)) at, ahead_is_over p i (step_inside p m) inside)

      abbrev front : List ℕ
      front = filter (λ p. second (entry_at all p) next_one) steps

      abbrev rest : List ℕ
      rest = filter (λ p. not (second (entry_at all p) next_one || not (third (entry_at all p) next_one))) steps

      within_more : (p : ℕ) → Among p (front ++ i ∷ rest) → IsMember over all (i + 1) n p
      within_more p m = grind (arith, at, in_either front (i ∷ rest) p m, from_filter, stands.steps_within p)

      -- the new step stands for those that are taken out
      covers_more : (j : ℕ) → IsMember over all (i + 1) n j → IsCovered second third all (front ++ i ∷ rest) (entry_at all j)
      covers_more j member =
          let led = swept.led in
          let here : Among i (front ++ i ∷ rest) = in_right front (i ∷ rest) i (inl refl) in
          elim (cases_eq j i) [
            | inl same ↦ (i, here, grind (arith, led.second_is_chain.strict.irreflexive next_one, led.third_is_chain.strict.irreflexive next_one))
            | inr other ↦
                let w = stands.steps_cover j (omega (arith, member.0, other), member.1) in
                grind (arith, here, w.1, w.2, in_left front (i ∷ rest) w.0, in_right front (i ∷ rest) w.0, in_filter, covers_then second third led.second_is_chain led.third_is_chain next_one (entry_at all w.0) (entry_at all j))
          ]

      -- what is kept then: the class goes on or begins anew, with one more
      pub put_stands : (put_steps : Vec ℕ Global) (x : Item) (new : Level) → IsStepPut second third all steps i put_steps.items → x.place ≡ i → x.signature ≡ rule next_one
          → IsOneMore mark n (record { steps = put_steps; run = kept.run; fresh = kept.fresh; class = kept.class }) class x new → StandsFor over second third rule mark all class (i + 1) n new
      put_stands put_steps x new put place_is signed more =
          let led = swept.led in
          let is : new.steps.items ≡ front ++ i ∷ rest = more.steps ∙ put_is second third led.second_is_chain led.third_is_chain all steps stands.in_order next_one i put_steps.items refl put in
          record {
            steps_within = rw is within_more;
            steps_cover = rw is covers_more;
            in_order = rw is (in_order_put second third led.second_is_chain led.third_is_chain all steps stands.in_order next_one i refl apart);
            kept_within = λ y m. elim (more.within y m) [ inl old ↦ grind (arith, stands.kept_within y old) | inr last ↦ grind (arith) ];
            run_held = λ y m. elim (more.run y m) [ inl old ↦ stands.run_held y old | inr last ↦ last ];
            kept_cover = λ j behind member. (
              more.class_is,
              elim (cases_eq j i) [
                | inl same ↦ (x, more.there, grind (arith))
                | inr other ↦ let w = stands.kept_cover j behind (omega (arith, member.0, other), member.1) in (w.1.0, more.stays w.0 w.1.0 w.1.1, w.1.2)
              ],
            );
          }
