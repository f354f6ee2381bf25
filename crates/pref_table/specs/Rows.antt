-- A row of numbers, from numbers, from fields and from a line of text. (this project)
use Rattle.std.specs.Prelude.{ℕ, ℤ, pos, Bool, ◌==◌, ◌-◌, List, ◌++◌, length, Result, Ok, Err, if◌then◌else◌, replicate}
use Rattle.std.specs.List.{slice_split}
use Rattle.pref_table.specs.Number.{number_of}
use Rattle.pref_table.specs.Numbered.{◌>>=◌, all_from}
use Rattle.pref_table.specs.declared.fault.TableFault.{TableFault}
use Rattle.pref_table.specs.declared.fault.TableFault.TheVariants as fault
use Rattle.pref_table.specs.declared.number.NumberFault.{NumberFault}
use Rattle.pref_table.specs.declared.number.NumberFault.TheVariants as number

-- the 16 cells of a row: zero past the schema's width
abbrev pub padded : List ℤ → List ℤ
padded cells = cells ++ replicate (16 - length cells) (pos 0)

-- a number of a row and a column, or the fault there
abbrev pub cell_of : ℕ → ℕ → Result ℤ NumberFault → Result ℤ TableFault
cell_of row col (Ok number) = Ok number
cell_of row col (Err number.NotWhole) = Err (fault.NotWhole row col)
cell_of row col (Err number.OutOfRange) = Err (fault.OutOfRange row col)

abbrev pub cell_in : ℕ → ℕ → List ℕ → Result ℤ TableFault
cell_in row col field = cell_of row col (number_of field)

-- the row of these fields, of a schema's width
unfoldable pub row_of : ℕ → ℕ → List (List ℕ) → Result (List ℤ) TableFault
row_of width row fields =
    if length fields == width
    then (do
      cells ← all_from (cell_in row) 1 fields
      Ok (padded cells))
    else Err (fault.Width row)

abbrev pub is_comma : ℕ → Bool
is_comma byte = byte == 44

-- the row of a line: its fields are cut at each comma
abbrev pub line_row : ℕ → List ℕ → Result (List ℤ) TableFault
line_row width line = row_of width 0 (slice_split is_comma line)

-- the row of these numbers
abbrev pub numbers_row : ℕ → List ℤ → Result (List ℤ) TableFault
numbers_row width numbers = if length numbers == width then Ok (padded numbers) else Err (fault.Width 0)
