-- The steps of passes, and what they keep true: no entry is lost that none dominates, and what is early at the end of a pass is best.
use Rattle.pref_sky.proofs.Common.{◌≡◌, ℕ, ◌<◌, ◌+◌, Bool, true, false, not, cond, subst, sym, inl, inr, refl, List, [], ◌∷◌, ◌++◌, length, filter, arith, ◌⊎◌, length-append, nat_tests}
use Rattle.pref_sky.proofs.Common.{nil_from_length, Among, Entry, IsClear, IsStrictOrder, IsThere, Passing, best, is_beaten}
use Rattle.pref_sky.specs.Windows.{WindowState, joined, not_below, window_at_begin, window_entries, Offers}
use Rattle.pref_sky.specs.declared.window.Offer.{Offer}
use Rattle.pref_sky.specs.declared.window.Offer.TheVariants.{Dropped, Joined, Overflow}
use Rattle.pref_sky.proofs.ListLaws.{SameMembers, any_from, any_gives, count_append, count_cons, count_filter, filter_shorter, from_filter, in_either, in_filter, in_left, in_right}
use Rattle.pref_sky.proofs.Merges.{unbeaten_over}

-- none of a list that does not beat an entry dominates it
unbeaten_by : {E : Type 0} (over : E → E → Bool) (xs : List E) (e x : E) → is_beaten over xs e ≡ false → Among x xs → over x e ≡ false
unbeaten_by over xs e x none m = grind (arith, any_from (λ y. over y e) xs x m)

module _ {over : Entry → Entry → Bool} {all best : List Entry} {begun : ℕ} {window : WindowState} {overflow left : List Entry} {e : Entry} (p : Passing over all best begun window overflow (e ∷ left)) (strict : IsStrictOrder over) where
  -- one of the window dominates the next entry
  pass_dropped : is_beaten over (window_entries window) e ≡ true → Passing over all best begun window overflow left
  pass_dropped beaten =
      let by = any_gives (λ x. over x e) (window_entries window) beaten in
      let is : is_beaten over all e ≡ true = any_from (λ x. over x e) all by.0 (p.within by.0 (elim (in_either window.early window.late by.0 by.1) [ inl early ↦ inr (inl early) | inr late ↦ inr (inr (inl late)) ])) by.2 in
      grind (arith, count_cons)

  -- it overflows: the window is full
  pass_overflows : is_beaten over (window_entries window) e ≡ false → not_below over e (window_entries window) ≡ window_entries window → length (window_entries window) ≡ window.size
      → Passing over all best begun (record window { overflowed = true }) (overflow ++ e ∷ []) left
  pass_overflows unbeaten none_below full =
      let above : IsClear over window.early e = λ x m.
      grind (arith, in_left window.early window.late x m, unbeaten_by over (window_entries window) e x unbeaten, from_filter (λ w. not (over e w)) (window_entries window) x) in
      grind (arith, count_cons, count_append, length-append, in_either overflow (e ∷ []), in_right overflow (e ∷ []) e, in_left overflow (e ∷ []))

  -- nothing held dominates it: it takes the place of what it dominates
  pass_joined : is_beaten over (window_entries window) e ≡ false → Passing over all best begun (joined over window e) overflow left
  pass_joined unbeaten =
      let test : Entry → Bool = λ x. not (over e x) in
      let early : List Entry = filter test window.early in
      let late : List Entry = filter test window.late in
      let first : List Entry = cond window.overflowed [] (e ∷ []) in
      let last : List Entry = cond window.overflowed (e ∷ []) [] in
      let was : (x : Entry) → Among x best ⊎ (Among x (early ++ first) ⊎ Among x (late ++ last)) → (Among x best ⊎ (Among x early ⊎ Among x late)) ⊎ (x ≡ e) = λ x m.
      grind (arith, in_either early first x, in_either late last x) in
      let clear : (x : Entry) → Among x best ⊎ (Among x early ⊎ Among x late) → (over x e ≡ false) × (over e x ≡ false) × (Among x best ⊎ (Among x window.early ⊎ Among x window.late)) = λ x m.
      grind (arith, p.met x, from_filter test window.early x, from_filter test window.late x, in_left window.early window.late x, in_right window.early window.late x, unbeaten_by over (window_entries window) e x unbeaten) in
      let none : (x : Entry) → length overflow ≡ 0 → IsClear over overflow x = λ x empty. subst (λ l. IsClear over l x) (sym (nil_from_length overflow empty)) (λ y m. absurd m) in
      record {
        counts = λ q. grind (arith, p.counts q, count_append q early first, count_append q late last, count_filter q test window.early, count_filter q test window.late, count_cons q e left, count_cons q e []);
        within = λ x there. grind (arith, was x, clear x);
        kept = λ x m unbeat. grind (arith, in_left early first x, in_left late last x, in_right early first e, in_right late last e, p.kept x m unbeat, unbeaten_by over all x e unbeat, in_filter test window.early x, in_filter test window.late x);
        apart = λ x y mx my. grind (arith, was x mx, was y my, clear x, clear y, p.apart x y, strict.irreflexive e);
        settled = λ x m. grind (arith, nat_tests, p.overflowed, none x, in_either early first x, from_filter test window.early x, p.settled x);
        met = λ x m. grind (arith, p.met x m);
        overflowed = p.overflowed;
        fresh = grind (arith, nat_tests, length-append, p.overflowed, p.fresh, filter_shorter test window.late);
        room = p.room;
        fits = grind (arith, length-append, filter_shorter test window.early, filter_shorter test window.late);
        falls = grind (arith, nat_tests, length-append, filter_shorter test window.late, p.overflowed, p.falls);
      }

  -- the window drops the next entry, or takes it in
  pub pass_stays : {new : WindowState} (offer : Offer) → (offer ≡ Joined) ⊎ (offer ≡ Dropped) → Offers over window e offer new → Passing over all best begun new overflow left
  pass_stays offer is offered = grind (arith, pass_joined, pass_dropped)

  -- or it overflows
  pub pass_more : {new : WindowState} (offer : Offer) → offer ≡ Overflow → Offers over window e offer new → Passing over all best begun new (overflow ++ e ∷ []) left
  pass_more offer is offered = grind (arith, pass_overflows)

-- what is there at the end of a pass
moves_on : (top early late overflow : List Entry) (x : Entry) → IsThere top early late overflow [] x → IsThere (top ++ early) late [] [] overflow x
moves_on top early late overflow x there = grind (arith, in_left top early x, in_right top early x)

-- a pass ends: what is early is best, and what overflowed comes next
pub pass_ends : {over : Entry → Entry → Bool} {all top : List Entry} {begun : ℕ} {window : WindowState} {overflow : List Entry} → Passing over all top begun window overflow []
    → Passing over all (top ++ window.early) (length window.late + length overflow) (window_at_begin window.size window.late) [] overflow
pass_ends {top = top} {window = window} {overflow = overflow} p = grind (arith, moves_on top window.early window.late overflow, count_append, in_either top window.early)

-- there is less to do then
pub pass_falls : {over : Entry → Entry → Bool} {all top : List Entry} {begun : ℕ} {window : WindowState} {overflow : List Entry} → Passing over all top begun window overflow [] → 0 < begun → length window.late + length overflow < begun
pass_falls p some = grind (arith)

-- all passes end: the best are found
pub passes_end : {over : Entry → Entry → Bool} {all top : List Entry} {begun : ℕ} {window : WindowState} → IsStrictOrder over → length window.early ≡ 0 → Passing over all top begun window [] [] → SameMembers top (best over all)
passes_end {over = over} {all = all} {top = top} {window = window} strict early_none p =
    let found : (x : Entry) → Among x all → is_beaten over all x ≡ false → Among x top = λ x m none. grind (arith, p.kept x m none, nil_from_length window.early early_none, nil_from_length window.late (p.fresh refl)) in
    let unbeaten : (x : Entry) → Among x top → is_beaten over all x ≡ false = λ x m. grind (arith, unbeaten_over over strict (λ _. true) all x, found, p.apart) in
    grind (arith, in_filter, from_filter)
