-- The place of a name among the names of a schema. (this project)
use Rattle.std.specs.Prelude.{ℕ, List, Option, position}
use Rattle.std.specs.Str.{bytes_eq}

-- the column of this name, which counts from 0
abbrev pub column_of : List (List ℕ) → List ℕ → Option ℕ
column_of names name = position (λ known. bytes_eq known name) names
