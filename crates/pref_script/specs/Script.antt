-- The lines of a script, and its sections.
use Rattle.std.specs.Prelude.{ℕ, Bool, ◌==◌, ◌&&◌, ◌+◌, ◌-◌, List, [], ◌∷◌, ◌++◌, length, take, slice_index, Result, Ok, Err, if◌then◌else◌, nat_lt, codes}
use Rattle.std.specs.List.{after_first, before_first, concat, position_or_len, slice_split}
use Rattle.std.specs.Str.{bytes_eq}
use Rattle.pref_script.specs.declared.fault.RunFault.{RunFault}
use Rattle.pref_script.specs.declared.fault.RunFault.TheVariants.{NoTable, NoEnd}

abbrev pub is_line_feed : ℕ → Bool
is_line_feed byte = byte == 10

-- texts with line feeds between them, each with its line feed; an empty last text is no line
abbrev pub with_line_feeds : List (List ℕ) → List (List ℕ)
with_line_feeds [] = []
with_line_feeds (part ∷ []) = if length part == 0 then [] else part ∷ []
with_line_feeds (part ∷ next ∷ more) = (part ++ 10 ∷ []) ∷ with_line_feeds (next ∷ more)

-- the lines of a text, each with its end
unfoldable pub raw_lines : List ℕ → List (List ℕ)
raw_lines bytes = with_line_feeds (slice_split is_line_feed bytes)

-- a text without this byte at its end
abbrev pub without_last : ℕ → List ℕ → List ℕ
without_last byte text = if nat_lt 0 (length text) && (slice_index text (length text - 1) == byte) then take (length text - 1) text else text

-- what a line says: it ends by a line feed, and a carriage return before that isn't part of it
abbrev pub without_line_end : List ℕ → List ℕ
without_line_end raw = without_last 13 (without_last 10 raw)

abbrev pub is_table_line : List ℕ → Bool
is_table_line raw = bytes_eq (without_line_end raw) (codes "table")

abbrev pub is_end_line : List ℕ → Bool
is_end_line raw = bytes_eq (without_line_end raw) (codes "end")

-- the table text of a script, the command lines after it, and the number of the first of those
pub record Sections : Type 0 where
  pub table : List ℕ
  pub commands : List (List ℕ)
  pub first : ℕ

-- after the line `table` comes the table text, up to the first line `end`
abbrev pub sections_of : List (List ℕ) → Result Sections RunFault
sections_of [] = Err NoTable
sections_of (first ∷ rest) =
    if is_table_line first
    then (if nat_lt (position_or_len is_end_line rest) (length rest)
    then Ok (record { table = concat (before_first is_end_line rest); commands = after_first is_end_line rest; first = position_or_len is_end_line rest + 3 })
    else Err NoEnd)
    else Err NoTable

-- the lines of the table block: from the line `table` up to the first line `end`
abbrev pub block_lines : List (List ℕ) → List (List ℕ)
block_lines [] = []
block_lines (first ∷ rest) = if is_table_line first then first ∷ take (position_or_len is_end_line rest + 1) rest else []
