-- What a table text says. (this project; records and fields are those of the crate csv)
use Rattle.std.specs.Prelude.{ℕ, ℤ, List, [], ◌∷◌, length, map, ◌≡◌, Result, Ok, Err, nat_lt, if◌then◌else◌}
use Rattle.csv.specs.Reading.{default_config, records, is_bom}
use Rattle.pref_table.specs.Number.{without_blanks}
use Rattle.pref_table.specs.Numbered.{◌>>=◌, all_from}
use Rattle.pref_table.specs.Names.{schema_of}
use Rattle.pref_table.specs.Rows.{row_of}
use Rattle.pref_table.specs.declared.fault.TableFault.{TableFault}
use Rattle.pref_table.specs.declared.fault.TableFault.TheVariants as fault

-- a schema's names and the cells of each row
abbrev pub Table : Type 0
Table = List (List ℕ) × List (List ℤ)

-- a text without the byte order marks at its start
unfoldable pub without_marks : List ℕ → List ℕ
without_marks [] = []
without_marks (a ∷ []) = a ∷ []
without_marks (a ∷ b ∷ []) = a ∷ b ∷ []
without_marks (a ∷ b ∷ c ∷ rest) = if is_bom a b c then without_marks rest else a ∷ b ∷ c ∷ rest

-- a row of a table, which has at most 65,536
abbrev pub numbered_row : ℕ → ℕ → List (List ℕ) → Result (List ℤ) TableFault
numbered_row width row fields = if nat_lt 65536 row then Err fault.TooManyRows else row_of width row fields

-- the header's names and each further record's row, or the first fault
unfoldable pub table_of_records : List (List (List ℕ)) → Result Table TableFault
table_of_records [] = Err fault.NoColumns
table_of_records (header ∷ rows) = do
  names ← schema_of (map without_blanks header)
  rows ← all_from (numbered_row (length names)) 1 rows
  Ok (names, rows)

-- the table of a text, by the records that the crate csv reads in it
unfoldable pub table_of : List ℕ → Result Table TableFault
table_of bytes = table_of_records (records default_config (without_marks bytes))

-- what was returned, seen by view, is what the text says, unless memory ran out
abbrev pub Fails : {Y : Type 0} → TableFault → Result Y TableFault → Type 0
Fails fault.OutOfMemory said = Unit {0}
Fails fault said = said ≡ Err fault

abbrev pub Gives : {X Y : Type 0} → (X → Y) → Result X TableFault → Result Y TableFault → Type 0
Gives view (Ok x) said = said ≡ Ok (view x)
Gives view (Err fault) said = Fails fault said
