use Rattle.pref_table.proofs.Common.{List, ℕ, Bor, ◌∷◌, [], ◌++◌, map, arith, sym, ap, ◌∙◌, Vec, Global, map-append, take_more, get_or-map, length-map}
use Rattle.pref_table.proofs.schema.copy_names.Goals as goal

pub loop-name-preserved : goal.loop-name-preserved
loop-name-preserved c =
    let now = λ (name : Bor (List ℕ)). name.now in
    let texts = map now c.args.names.now in
    let i = c.loop-name.name-index in
    let kept = map (λ (name : Vec ℕ Global). name.items) c.loop-name.owned.items in
    let name = c.in_ok-from_slice.ensures.items ∙ sym (get_or-map now c.args.names.now i _ [] c.loop-name-test.true) in
    rw (take_more texts i [] (omega (arith, length-map c.args.names.now now)), ← c.loop-name.invariant, c.in_ok-push.ensures.items)
    (map-append (λ (name : Vec ℕ Global). name.items) c.loop-name.owned.items (c.in_ok-from_slice.field-0 ∷ []) ∙ ap (λ (t : List ℕ). kept ++ t ∷ []) name)
