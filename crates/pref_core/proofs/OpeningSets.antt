-- The order of places as a store is opened.
use Rattle.pref_core.proofs.Common.{◌≡◌, ℕ, ◌+◌, ◌-◌, ◌<◌, ◌≤◌, List, ◌∷◌, ◌++◌, map, length, get_or, replicate, refl, sym, ap, ap₂, ◌∙◌, arith, range_with_len, length-map, length-append}
use Rattle.pref_core.proofs.Common.{length-replicate, same_lists, get_or-map, get_or-map-range_with_len, length-map-range_with_len, sum_by-append, lt-ltb, le-ltb, SlotUse, Free, Live, use_at}
use Rattle.pref_core.proofs.Common.{IsInverse, IsArranged, rotated, sum_by-replicate, get_or-append_right, get_or-replicate}
use Rattle.std.proofs.Math.ListN.{get_or-append}

abbrev all : ℕ → ℕ → List ℕ
all capacity first = map (rotated capacity first) (range_with_len 0 capacity)

at : (capacity first i : ℕ) → i < capacity → get_or (all capacity first) i 0 ≡ rotated capacity first i
at capacity first i l = get_or-map-range_with_len (rotated capacity first) 0 capacity i i 0 l (omega arith)

pub low : (capacity first i : ℕ) → i < capacity - first → rotated capacity first i ≡ first + i
low capacity first i l = rw (lt-ltb i (capacity - first) l) refl

pub high : (capacity first i : ℕ) → capacity - first ≤ i → rotated capacity first i ≡ i - (capacity - first)
high capacity first i l = rw (le-ltb i (capacity - first) l) refl

long : (capacity first : ℕ) → length (all capacity first) ≡ capacity
long capacity first = length-map-range_with_len (rotated capacity first) 0 capacity

inverse : (capacity rows : ℕ) → rows ≤ capacity → IsInverse (all capacity rows) (all capacity (capacity - rows))
inverse capacity rows r = grind (arith, long, at)

-- the bounds: no version has ended
abbrev pub opened : ℕ → ℕ → List ℕ
opened capacity free = free ∷ replicate 9 capacity

-- the uses, pointwise and as a list
slot_use : (capacity rows p : ℕ) → rows ≤ capacity → p < capacity → (d : SlotUse)
    → use_at (opened capacity (capacity - rows)) (rotated capacity (capacity - rows) p) ≡ get_or (replicate rows Live ++ replicate (capacity - rows) Free) p d
slot_use capacity rows p r l d = grind (arith, length-replicate, low, get_or-append, get_or-replicate, high, get_or-append_right)

pub turned_uses : (capacity rows : ℕ) → rows ≤ capacity → map (use_at (opened capacity (capacity - rows))) (map (rotated capacity (capacity - rows)) (range_with_len 0 capacity)) ≡ replicate rows Live ++ replicate (capacity - rows) Free
turned_uses capacity rows r = same_lists _ _
    (length-map (all capacity (capacity - rows)) (use_at (opened capacity (capacity - rows))) ∙ long capacity (capacity - rows) ∙ sym (length-append (replicate rows Live) (replicate (capacity - rows) Free) ∙ ap₂ ◌+◌ (length-replicate rows Live) (length-replicate (capacity - rows) Free) ∙ (let all_of : rows + (capacity - rows) ≡ capacity = omega arith in all_of)))
    (λ p d l.
    let m : p < capacity = let e = length-map (all capacity (capacity - rows)) (use_at (opened capacity (capacity - rows))) in let f = long capacity (capacity - rows) in omega arith in
    let n : p < length (all capacity (capacity - rows)) = let f = long capacity (capacity - rows) in omega arith in
    get_or-map (use_at (opened capacity (capacity - rows))) (all capacity (capacity - rows)) p 0 d n
    ∙ ap (use_at (opened capacity (capacity - rows))) (at capacity (capacity - rows) p m)
    ∙ slot_use capacity rows p r m d)

pub turned_arranged : (capacity rows : ℕ) → capacity ≤ 65536 → rows ≤ capacity → IsArranged (map (rotated capacity rows) (range_with_len 0 capacity)) (map (rotated capacity (capacity - rows)) (range_with_len 0 capacity)) (opened capacity (capacity - rows))
turned_arranged capacity rows few r =
    let size = long capacity rows in
    record {
      inverse = inverse capacity rows r;
      few = omega arith;
      bounded = refl;
      ascending = λ i j le l. grind (arith);
      inside = λ i l. grind (arith);
      counted = grind (arith, turned_uses, sum_by-append, sum_by-replicate);
    }
