-- How a table is opened behind a handle. (this project)
use Rattle.std.specs.Prelude.{ℕ, zero, suc, ℤ, ◌≡◌, ◌≤◌, ◌<◌, ◌⊎◌, ◌==◌, ◌&&◌, ◌||◌, ◌+◌, ◌*◌, not, nat_lt, if◌then◌else◌, List, [], ◌∷◌, length, take, drop, Option, Some, None, Result, Ok, Err, MatchResult}
use Rattle.pref_table.specs.Numbered.{◌>>=◌}
use Rattle.pref_table.specs.Rows.{padded}
use Rattle.pref_table.specs.Tables.{Table as TableIs, table_of}
use Rattle.pref_table.specs.declared.fault.TableFault.{TableFault}
use Rattle.pref_table.specs.declared.fault.TableFault.TheVariants as table
use Rattle.pref_core.specs.declared.fault.CoreFault.TheVariants.{Full}
use Rattle.pref_core.specs.Step.{opened}
use Rattle.pref_core.specs.Systems.{StandsForSystem}
use Rattle.pref_core.specs.Limits.{Limits, AreAllowed}
use Rattle.pref_script.specs.LiveTable.{names_of, next_number, running_of}
use Rattle.prefq_c.specs.Ended.{done}
use Rattle.prefq_c.specs.Ends.{Refused}
use Rattle.prefq_c.specs.declared.ended.Ended.{Ended}
use Rattle.prefq_c.specs.declared.ended.Refusal.{Refusal}
use Rattle.prefq_c.specs.declared.fault.Fault.{Fault}
use Rattle.prefq_c.specs.declared.fault.Fault.TheVariants.{Values, Opening, Outside, Memory}
use Rattle.prefq_c.specs.declared.sizes.Sizes.{Sizes}
use Rattle.prefq_c.specs.declared.table.Table.{Table}

-- how many line feeds a text has
abbrev pub feeds : List ℕ → ℕ
feeds [] = 0
feeds (byte ∷ bytes) = if byte == 10 then feeds bytes + 1 else feeds bytes

-- a size that is given, or else the usual one
abbrev pub or_else : ℕ → ℕ → ℕ
or_else size usual = if size == 0 then usual else size

-- the usual capacity of a table that opens with so many rows: 1,024, or twice the rows where that is more, and no more than any table has
abbrev pub usual_capacity : ℕ → ℕ
usual_capacity rows = if nat_lt 32768 rows then 65536 else (if nat_lt 512 rows then 2 * rows else 1024)

-- the limits of these sizes for a table that opens with so many rows
abbrev pub limits_of : Sizes → ℕ → Limits
limits_of sizes rows = record {
  clients = or_else sizes.clients 8;
  capacity = or_else sizes.capacity (usual_capacity rows);
  block = or_else sizes.block 1024;
  window = or_else sizes.window 64;
}

-- what an opening answers: the handle has the table, and the result is its number of columns; or it has what it had, and there is no memory, or a refusal
abbrev pub Gives : Result Table Fault → Option Table → Option Table → Refusal → Refusal → Ended → Type 0
Gives (Ok opening) before after old new ended = ((ended ≡ done (length (names_of opening.live))) × (new ≡ old) × (after ≡ Some opening)) ⊎ (Refused Memory old new ended × (after ≡ before))
Gives (Err why) before after old new ended = Refused why old new ended × (after ≡ before)

-- numbers have so many rows of this width
abbrev pub HaveRows : ℕ → ℕ → List ℤ → Type 0
HaveRows width zero numbers = Unit {0}
HaveRows width (suc count) numbers = (width ≤ length numbers) × HaveRows width count (drop width numbers)

-- these rows
abbrev pub rows_in : ℕ → ℕ → List ℤ → List (List ℤ)
rows_in width zero numbers = []
rows_in width (suc count) numbers = padded (take width numbers) ∷ rows_in width count (drop width numbers)

-- the rows of a table with so many columns: they have to be as wide, and at most 65,536
abbrev pub rows_of : ℕ → ℕ → ℕ → List ℤ → Result (List (List ℤ)) TableFault
rows_of columns count width numbers = if nat_lt 0 count && not (width == columns)
    then Err (table.Width 1)
    else (if nat_lt 65536 count then Err table.TooManyRows else Ok (rows_in columns count numbers))

-- the table of a header, with these rows for its own
abbrev pub with_rows : ℕ → ℕ → List ℤ → TableIs → Result TableIs TableFault
with_rows count width numbers (names, none) = do
  rows ← rows_of (length names) count width numbers
  Ok (names, rows)

-- the column, counted from this one on, in whose name a header has a line end
abbrev pub line_end_from : ℕ → List ℕ → Option ℕ
line_end_from col [] = None
line_end_from col (byte ∷ bytes) = if byte == 10 || byte == 13 then Some col else line_end_from (if byte == 44 then col + 1 else col) bytes

-- the table of a header, which is one line, with these rows
abbrev pub numbers_table : List ℕ → ℕ → ℕ → List ℤ → Result TableIs TableFault
numbers_table header count width numbers = elim (line_end_from 1 header) [
  | Some col ↦ Err (table.BadName col)
  | None ↦ table_of header >>= with_rows count width numbers
]

-- what a table of names and rows stands for as it is opened
abbrev pub Stands : Limits → TableIs → Table → Type 0
Stands limits (names, rows) opening = (names_of opening.live ≡ names) × (next_number opening.live ≡ 1) × ((running_of opening.live).limits ≡ limits) × StandsForSystem (running_of opening.live) (opened limits rows) × (opening.capacity ≡ limits.capacity)

-- why there is none: more rows than there is room for
abbrev pub IsTooFull : Limits → TableIs → Fault → Type 0
IsTooFull limits (names, rows) why = (limits.capacity < length rows) × (why ≡ Opening (Full (length rows)))

-- a table is opened, or refused for what is wrong with it, unless there is no memory
abbrev pub OpensTable : Limits → Result TableIs TableFault → Result Table Fault → Type 0
OpensTable limits (Ok table) result = MatchResult result (λ opening. Stands limits table opening) (λ why. (why ≡ Memory) ⊎ IsTooFull limits table why)
OpensTable limits (Err why) result = (result ≡ Err Memory) ⊎ (result ≡ Err (Values why))

-- the same under limits that are allowed; others are refused
abbrev pub Opens : Limits → Result TableIs TableFault → Result Table Fault → Type 0
Opens limits table result = (AreAllowed limits → OpensTable limits table result) × ((AreAllowed limits → ⊥) → result ≡ Err Outside)

-- a table is opened in a handle, and that is answered
abbrev pub OpensIn : Limits → Result TableIs TableFault → Option Table → Option Table → Refusal → Refusal → Ended → Type 0
OpensIn limits table before after old new ended = (returned : Result Table Fault) × Opens limits table returned × Gives returned before after old new ended
