-- The numbers of an answer. (this project)
use Rattle.std.specs.Prelude.{ℕ, ℤ, pos, List, [], ◌∷◌, ◌++◌, take}
use Rattle.std.specs.Int.{w64, cast_signed}
use Rattle.pref_sky.specs.declared.entry.Ranked.{Ranked}

-- a row's level, its id and its values
abbrev pub row_numbers : ℕ → Ranked → List ℤ
row_numbers width ranked = pos ranked.level ∷ cast_signed w64 ranked.id ∷ take width ranked.row

-- those of rows, one row after the other
unfoldable pub rows_numbers : ℕ → List Ranked → List ℤ
rows_numbers width [] = []
rows_numbers width (ranked ∷ rows) = row_numbers width ranked ++ rows_numbers width rows
