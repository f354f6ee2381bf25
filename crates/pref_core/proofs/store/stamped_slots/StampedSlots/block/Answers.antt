use Rattle.pref_core.proofs.Common.{◌≡◌, ◌+◌, ◌-◌, ◌*◌, ◌≤◌, List, None, Option, Some, [], ◌∷◌, ap, arith, cases_lt, drop, inl, inr, is_some, refl, suc, take, zero, ◌∙◌, ℕ, visible, Version, block_of, StampedSlots}
use Rattle.std.proofs.Common.{get_or-drop, min}
use Rattle.pref_core.specs.StampedSlots.{AreUnused}
use Rattle.pref_core.proofs.store.stamped_slots.StampedSlots.block.Goals as goal

-- slots without versions show nothing
same_shown : (stamp few many : ℕ) (slots : List (Option Version)) → few ≤ many → AreUnused few slots → visible stamp (take few slots) ≡ visible stamp (take many slots)
same_shown stamp zero zero slots le unused = refl
same_shown stamp zero (suc many) [] le unused = refl
same_shown stamp zero (suc many) (None ∷ slots) le unused = same_shown stamp zero many slots (omega arith) (λ place from. unused (suc place) (omega arith))
same_shown stamp zero (suc many) (Some version ∷ slots) le unused = let here = unused 0 (omega arith) in cc
same_shown stamp (suc few) zero slots le unused = absurd (omega (arith, le))
same_shown stamp (suc few) (suc many) [] le unused = refl
same_shown stamp (suc few) (suc many) (slot ∷ slots) le unused =
    let later = same_shown stamp few many slots (omega (arith, le)) (λ place from. unused (suc place) (omega (arith, from))) in
    grind (arith, later)

unused_behind : (start used few : ℕ) (slots : List (Option Version)) → AreUnused used slots → used ≤ start + few → AreUnused few (drop start slots)
unused_behind start used few slots unused le place from = ap is_some (get_or-drop start slots place None) ∙ unused (start + place) (omega (arith, le, from))

-- those slots of a block that were used show what it shows
block_shown : (stamp start size used low high : ℕ) (slots : List (Option Version)) → AreUnused used slots → low ≡ min start used → high ≡ min (low + size) used → visible stamp (take (high - low) (drop low slots)) ≡ visible stamp (take size (drop start slots))
block_shown stamp start size used low high slots unused is_low is_high =
    elim (cases_lt start used) [
      | inl within ↦
          let begins : low ≡ start = omega (arith, is_low, within) in
          ap (λ n. visible stamp (take (high - low) (drop n slots))) begins
          ∙ elim (cases_lt used (start + size)) [
            | inl cut ↦ same_shown stamp (high - low) size (drop start slots) (omega (arith, is_high, begins)) (unused_behind start used (high - low) slots unused (omega (arith, is_high, begins, within, cut)))
            | inr whole ↦ let all : high - low ≡ size = omega (arith, is_high, begins, whole) in ap (λ n. visible stamp (take n (drop start slots))) all
          ]
      | inr behind ↦
          let none : high - low ≡ 0 = omega (arith, is_low, is_high, behind) in
          ap (λ n. visible stamp (take n (drop low slots))) none ∙ same_shown stamp 0 size (drop start slots) (omega arith) (unused_behind start used 0 slots unused (omega (arith, behind)))
    ]

pub returns : goal.returns
returns c stamp =
    let slots = c.self.inside.slots.items in
    ap (λ l. visible stamp (take (c.min-end.result - c.min-start.result) (drop c.min-start.result l))) c.deref.ensures.value
    ∙ (block_shown stamp (c.args.block * c.args.size) c.args.size c.self.inside.used c.min-start.result c.min-end.result slots c.self.invariant.3 c.min-start.ensures c.min-end.ensures
    ∙ ap (λ (s : StampedSlots). visible stamp (block_of c.args.block c.args.size s.slots)) c.self.view_is)
