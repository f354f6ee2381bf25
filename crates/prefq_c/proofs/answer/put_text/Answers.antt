use Rattle.std.proofs.Common.{arith, ◌≡◌, ◌∙◌, ◌<◌, ◌+◌, ◌-◌, ◌∷◌, ◌++◌, ℕ, List, add-one, ap, drop, drop-cons, length, length-take, set, sym, take}
use Rattle.std.proofs.Math.Seq.{set-append_seam}
use Rattle.std.proofs.lemmas.List.{take_min}
use Rattle.prefq_c.proofs.answer.put_text.Goals as goal

-- a zero is put behind what fits
zero_behind : (fits array : List ℕ) → length fits < length array → set (fits ++ drop (length fits) array) (length fits) 0 ≡ fits ++ 0 ∷ drop (length fits + 1) array
zero_behind fits array some = rw (add-one, drop-cons array (length fits) 0 some) (set-append_seam fits _ _ 0)

-- for an edit that must fail: an answer fails at once, a search twice at its limits
pub returns : goal.returns
returns c =
    let fits : take (length c.args.array.now - 1) c.args.text.now ≡ c.copy_from_slice.new.self = sym (take_min _ _) ∙ ap (λ k. take k c.args.text.now) (omega arith) ∙ sym c.copy_from_slice.ensures.after in
    let count : c.min-count.result ≡ length c.copy_from_slice.new.self = omega (arith, c.copy_from_slice.ensures.len, length-take {A = ℕ}) in
    rw (fits, count) (zero_behind _ c.args.array.now (omega arith))
