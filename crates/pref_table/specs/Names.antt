-- The names of a schema's columns. (this project)
use Rattle.std.specs.Prelude.{ℕ, Bool, ◌==◌, ◌||◌, ◌&&◌, ◌-◌, List, length, take, Result, Ok, Err, nat_lt, nat_le, slice_index, if◌then◌else◌}
use Rattle.std.specs.Char.{is_ascii_alphabetic, is_ascii_digit}
use Rattle.std.specs.List.{list_all, list_any}
use Rattle.std.specs.Str.{bytes_eq}
use Rattle.pref_table.specs.Numbered.{all_from}
use Rattle.pref_table.specs.declared.fault.TableFault.{TableFault}
use Rattle.pref_table.specs.declared.fault.TableFault.TheVariants.{NoColumns, TooManyColumns, BadName, SameName}

-- a letter, a digit, `_` or `.`
abbrev pub is_name_byte : ℕ → Bool
is_name_byte byte = is_ascii_alphabetic byte || is_ascii_digit byte || (byte == 95) || (byte == 46)

-- 1 to 32 letters, digits, `_` or `.`, of which the first is a letter
abbrev pub is_name : List ℕ → Bool
is_name name = nat_lt 0 (length name) && nat_le (length name) 32 && is_ascii_alphabetic (slice_index name 0) && list_all is_name_byte name

-- the name of a column, which counts from 1, where it is a name and no earlier column has it
abbrev pub name_after : List (List ℕ) → ℕ → List ℕ → Result (List ℕ) TableFault
name_after earlier col name =
    if is_name name
    then (if list_any (λ other. bytes_eq other name) earlier then Err (SameName col) else Ok name)
    else Err (BadName col)

abbrev pub name_in : List (List ℕ) → ℕ → List ℕ → Result (List ℕ) TableFault
name_in names col name = name_after (take (col - 1) names) col name

-- the names of a schema: 1 to 16 different names
unfoldable pub schema_of : List (List ℕ) → Result (List (List ℕ)) TableFault
schema_of names =
    if length names == 0 then Err NoColumns
    else if nat_lt 16 (length names) then Err TooManyColumns
    else all_from (name_in names) 1 names
