-- The changes of a commit, by its pieces. (this project)
use Rattle.std.specs.Prelude.{ℕ, Bool, ◌==◌, ◌+◌, ◌-◌, ◌&&◌, ◌||◌, not, nat_lt, List, [], ◌∷◌, length, map, take, Option, Some, None, Result, Ok, Err, if◌then◌else◌}
use Rattle.pref_table.specs.Rows.{padded}
use Rattle.pref_table.specs.declared.fault.TableFault.TheVariants.{Width}
use Rattle.pref_core.specs.Changes.{commit_of}
use Rattle.pref_core.specs.declared.changes.Change.{Change}
use Rattle.pref_core.specs.declared.changes.Change.TheVariants.{Add, Set, Remove}
use Rattle.pref_core.specs.declared.fault.CoreFault.{CoreFault}
use Rattle.pref_core.specs.declared.fault.CoreFault.TheVariants.{Twice}
use Rattle.prefq_c.specs.declared.changes.Piece.{Piece}
use Rattle.prefq_c.specs.declared.fault.Fault.{Fault}
use Rattle.prefq_c.specs.declared.fault.Fault.TheVariants.{Values, Changes, NoChange, NoValues}

-- whether a piece is a change: its verb is 1 for an insert, 2 for an update, which need values, or 3 for a delete
abbrev pub is_change : Piece → Bool
is_change piece = (piece.verb == 3) || (nat_lt 0 piece.verb && nat_lt piece.verb 3 && nat_lt 0 piece.address)

-- that change
abbrev pub change_of : ℕ → Piece → Change
change_of width piece = let row = padded (take width piece.values) in if piece.verb == 1 then Add row else (if piece.verb == 2 then Set piece.id row else Remove piece.id)

-- the place, counted from this one on, of the first piece that is no change
abbrev pub no_change_from : ℕ → List Piece → Option ℕ
no_change_from place [] = None
no_change_from place (piece ∷ pieces) = if is_change piece then no_change_from (place + 1) pieces else Some place

-- the changes of a commit, or why they are none
abbrev pub as_changes : Result (List Change) CoreFault → Result (List Change) Fault
as_changes (Ok changes) = Ok changes
as_changes (Err why) = Err (Changes why)

-- the changes of these pieces, whose values have this width: that of the table, where there are pieces; each is a change, and together they are a commit
abbrev pub changes_of : ℕ → ℕ → List Piece → Result (List Change) Fault
changes_of columns width pieces = if nat_lt 0 (length pieces) && not (width == columns)
    then Err (Values (Width 0))
    else (elim (no_change_from 1 pieces) [ Some place ↦ Err (NoChange place) | None ↦ as_changes (commit_of (map (change_of columns) pieces)) ])

-- the pieces before the first one that names an id again
abbrev pub before_twice : List Piece → Result (List Change) CoreFault → List Piece
before_twice pieces (Err (Twice place)) = take (place - 1) pieces
before_twice pieces made = pieces

-- the first pieces that can be made at one moment
abbrev pub first_moment : ℕ → List Piece → List Piece
first_moment columns pieces = before_twice pieces (commit_of (map (change_of columns) pieces))

-- a piece of updates that is no change has no values
abbrev pub as_updates : Result (List Change) Fault → Result (List Change) Fault
as_updates (Err (NoChange place)) = Err NoValues
as_updates made = made

-- the first updates that can be made at one moment
abbrev pub updates_of : ℕ → ℕ → List Piece → Result (List Change) Fault
updates_of columns width pieces = as_updates (changes_of columns width (first_moment columns pieces))
