use Rattle.pref_core.proofs.Common.{◌≡◌, ◌++◌, [], ◌∷◌, ap₂, ◌∙◌, sym, arith, rules, map-range_with_len_more, rotated}
use Rattle.pref_core.proofs.OpeningSets.{low, high}
use Rattle.pref_core.proofs.store.slot_sets.rotated.Goals.{then-at-back, else-at-back}
use Rattle.pref_core.proofs.store.slot_sets.rotated.Goals as goal

pub loop-at-preserved : goal.loop-at-preserved
loop-at-preserved c =
    let number : c.if-at-back.number ≡ rotated c.args.capacity c.args.first c.loop-at.at
    = elim c.if-at-back.branch [
      | then-at-back w ↦ w.number-is ∙ sym (low c.args.capacity c.args.first c.loop-at.at w.if-at-back.true)
      | else-at-back w ↦ w.number-is ∙ sym (high c.args.capacity c.args.first c.loop-at.at w.if-at-back.false)
    ] in
    let pushed : c.push.new.self.items ≡ c.loop-at.numbers.items ++ c.if-at-back.number ∷ [] = search rules in
    pushed ∙ ap₂ (λ l n. l ++ n ∷ []) c.loop-at.invariant number ∙ sym (map-range_with_len_more (rotated c.args.capacity c.args.first) 0 c.loop-at.at c.loop-at.at (omega arith))
