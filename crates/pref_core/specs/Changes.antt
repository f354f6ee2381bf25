-- Changes of rows, and commits of one to eight of them. (this project)
use Rattle.std.specs.Prelude.{ℕ, suc, List, [], ◌∷◌, ◌++◌, length, Bool, true, false, not, ◌&&◌, nat_lt, nat_le, if◌then◌else◌, Option, Some, None, is_some, Result, Ok, Err}
use Rattle.pref_core.specs.declared.changes.Change.{Change}
use Rattle.pref_core.specs.declared.changes.Change.TheVariants.{Add, Set, Remove}
use Rattle.pref_core.specs.declared.fault.CoreFault.{CoreFault}
use Rattle.pref_core.specs.declared.fault.CoreFault.TheVariants.{Twice, ChangeCount}
use Rattle.pref_core.specs.Table.{among}
use Rattle.pref_sky.specs.declared.entry.Entry.{Entry}

-- the ids whose rows these changes end, in their order: those that they name
abbrev pub ended_by : List Change → List ℕ
ended_by [] = []
ended_by (Add row ∷ rest) = ended_by rest
ended_by (Set id row ∷ rest) = id ∷ ended_by rest
ended_by (Remove id ∷ rest) = id ∷ ended_by rest

-- the rows that they begin, in their order: added ones get the next ids
abbrev pub begun_by : ℕ → List Change → List Entry
begun_by next_id [] = []
begun_by next_id (Add row ∷ rest) = record { id = next_id; row = row } ∷ begun_by (suc next_id) rest
begun_by next_id (Set id row ∷ rest) = record { id = id; row = row } ∷ begun_by next_id rest
begun_by next_id (Remove id ∷ rest) = begun_by next_id rest

-- how many rows they add
abbrev pub added_by : List Change → ℕ
added_by [] = 0
added_by (Add row ∷ rest) = suc (added_by rest)
added_by (Set id row ∷ rest) = added_by rest
added_by (Remove id ∷ rest) = added_by rest

-- whether they begin a row
abbrev pub begins_any : List Change → Bool
begins_any [] = false
begins_any (Add row ∷ rest) = true
begins_any (Set id row ∷ rest) = true
begins_any (Remove id ∷ rest) = begins_any rest

-- whether a change names an id that one of these changes names
abbrev pub names_again : List Change → Change → Bool
names_again earlier (Add row) = false
names_again earlier (Set id row) = among (ended_by earlier) id
names_again earlier (Remove id) = among (ended_by earlier) id

-- the place, from 1 on, of the first change that names an id which an earlier one names; these changes come before
abbrev pub twice_from : List Change → List Change → Option ℕ
twice_from earlier [] = None
twice_from earlier (change ∷ rest) = if names_again earlier change then Some (suc (length earlier)) else twice_from (earlier ++ change ∷ []) rest

abbrev pub twice : List Change → Option ℕ
twice changes = twice_from [] changes

-- one to eight changes
abbrev pub is_change_count : List Change → Bool
is_change_count changes = nat_lt 0 (length changes) && nat_le (length changes) 8

-- whether the changes are a commit: one to eight, of which no two name one id
abbrev pub is_commit : List Change → Bool
is_commit changes = is_change_count changes && not (is_some (twice changes))

-- the commit of these changes, or why there is none
abbrev pub commit_of : List Change → Result (List Change) CoreFault
commit_of changes = if is_change_count changes then (elim (twice changes) [ None ↦ Ok changes | Some place ↦ Err (Twice place) ]) else Err ChangeCount
