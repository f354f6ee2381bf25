-- Results of numbered things: the values of all of them, or the first error. (this project)
use Rattle.std.specs.Prelude.{ℕ, ◌+◌, List, [], ◌∷◌, Result, Ok, Err}

infixl 10 ◌>>=◌
abbrev pub ◌>>=◌ : {A B E : Type 0} → Result A E → (A → Result B E) → Result B E
(Ok x) >>= f = f x
(Err e) >>= f = Err e

-- the value that f gives each element, numbered from n on, or the first error from the left
unfoldable pub all_from : {A B E : Type 0} → (ℕ → A → Result B E) → ℕ → List A → Result (List B) E
all_from f n [] = Ok []
all_from f n (x ∷ xs) = do
  y ← f n x
  ys ← all_from f (n + 1) xs
  Ok (y ∷ ys)
