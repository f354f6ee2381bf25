use Rattle.pref_table.proofs.Common.{◌≡◌, ◌<◌, ◌≤◌, ℕ, Option, Some, None, arith, List, [], ◌∷◌, map, length, Bool, refl, ap, ◌∙◌, position, prefix_len, not, IfSome, bytes_eq, length-map}
use Rattle.pref_table.proofs.NamesFacts.{schema-size}
use Rattle.pref_table.specs.Columns.{column_of}
use Rattle.pref_table.proofs.schema.Schema.index_of.Goals as goal

-- how far a test fails along a list of images
prefix-map : {A B : Type 0} (f : A → B) (p : B → Bool) (xs : List A) → prefix_len p (map f xs) ≡ prefix_len (λ x. p (f x)) xs
prefix-map f p [] = refl
prefix-map f p (x ∷ xs) = rw (prefix-map f p xs)

position-map : {A B : Type 0} (f : A → B) (p : B → Bool) (xs : List A) → position (λ x. p (f x)) xs ≡ position p (map f xs)
position-map f p xs = rw (prefix-map f (λ y. not (p y)) xs, length-map xs f)

pub returns-clause-place : goal.returns-clause-place
returns-clause-place c =
    c.place_of.ensures.place
    ∙ (ap (position (λ known. bytes_eq known.items c.args.name.now)) c.deref.ensures.value
    ∙ (position-map (λ known. known.items) (λ known. bytes_eq known c.args.name.now) c.self.inside.names.items
    ∙ ap (λ names. column_of names c.args.name.now) c.self.view_is))

within : (place : Option ℕ) (size most : ℕ) → size ≤ most → IfSome place (λ col. col < size) → IfSome place (λ col. col < most)
within None size most few h = tt
within (Some col) size most few h = omega arith

pub returns-clause-below : goal.returns-clause-below
returns-clause-below c =
    let size = schema-size _ _ c.self.invariant in
    let few : length c.deref.result.now ≤ 16 =
    omega (arith, size.1, ap length c.deref.ensures.value, length-map c.self.inside.names.items (λ name. name.items)) in
    within c.place_of.result (length c.deref.result.now) 16 few c.place_of.ensures.known
