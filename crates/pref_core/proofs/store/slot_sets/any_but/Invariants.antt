use Rattle.pref_core.proofs.Common.{◌≡◌, ℕ, ◌⊎◌, drop, true, among}
use Rattle.pref_core.proofs.store.slot_sets.any_but.Given as goal

abbrev pub invariant-loop-place : goal.invariant-loop-place
invariant-loop-place l = (p : ℕ) → among l.places p ≡ true → (among (drop l.place-index l.places) p ≡ true) ⊎ (among l.chosen p ≡ true)
