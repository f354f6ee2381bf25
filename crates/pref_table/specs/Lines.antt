-- No public contract cites this.
-- Lines of a table text that the crate csv reads as they are cut at their commas. (this project; records are those of the crate csv)
use Rattle.std.specs.Prelude.{◌≡◌, ◌≢◌, ◌⊎◌, ◌+◌, ◌<◌, ℕ, ℤ, List, [], ◌∷◌, ◌++◌, length, map, slice_index, EachIndex, Result, Ok, Err}
use Rattle.csv.specs.Reading.{default_config, records}
use Rattle.pref_table.specs.Number.{without_blanks}
use Rattle.pref_table.specs.Numbered.{◌>>=◌, all_from}
use Rattle.pref_table.specs.Names.{schema_of}
use Rattle.pref_table.specs.Plain.{ArePlain}
use Rattle.pref_table.specs.Rows.{row_of}
use Rattle.pref_table.specs.Tables.{numbered_row}
use Rattle.pref_table.specs.declared.fault.TableFault.{TableFault}
use Rattle.pref_table.specs.declared.fault.TableFault.TheVariants as fault

-- a line of plain bytes that is not empty
pub record IsPlainLine (line : List ℕ) : Type 0 where
  pub some : 0 < length line
  pub plain : ArePlain line

-- where a line ends: at the end of the text, or before a line feed
abbrev pub IsLineEnd : List ℕ → Type 0
IsLineEnd after = (after ≡ []) ⊎ ((more : List ℕ) × (after ≡ 10 ∷ more))

-- a line, and what follows it from where it ends, perhaps behind a carriage return
abbrev pub IsLineBefore : List ℕ → List ℕ → List ℕ → Type 0
IsLineBefore text line after = (text ≡ line ++ after) ⊎ (text ≡ line ++ 13 ∷ after)

-- the first line of a text, and what follows it from its line feed on
pub record IsCutAtLine (text line after : List ℕ) : Type 0 where
  pub parts : IsLineBefore text line after
  pub inside : EachIndex line (λ k. slice_index line k ≢ 10)
  pub ends : IsLineEnd after

-- the first record of a text is this row, whatever its number, and the others are those of what is left
pub record ReadsRow (width : ℕ) (text : List ℕ) (row : List ℤ) (left : List ℕ) : Type 0 where
  pub fields : List (List ℕ)
  pub first : records default_config text ≡ fields ∷ records default_config left
  pub reads : (number : ℕ) → row_of width number fields ≡ Ok row
  pub ends : IsLineEnd left

-- the rows of a table of which these rows are read and these records are left
abbrev pub rows_with : ℕ → List (List ℤ) → List (List (List ℕ)) → Result (List (List ℤ)) TableFault
rows_with width rows left = do
  more ← all_from (numbered_row width) (1 + length rows) left
  Ok (rows ++ more)

-- the names of the header, which is the first record
abbrev pub header_names : List (List (List ℕ)) → Result (List (List ℕ)) TableFault
header_names [] = Err fault.NoColumns
header_names (header ∷ rows) = schema_of (map without_blanks header)
