-- What the calls on rows and queries do to a table. (this project)
use Rattle.std.specs.Prelude.{ℕ, ℤ, pos, negsuc, ◌≡◌, ◌⊎◌, ◌==◌, ◌||◌, ◌+◌, ◌-◌, ◌^◌, min, nat_lt, false, List, [], length, take, Result, Ok, Err, IfOk, MatchResult, if◌then◌else◌}
use Rattle.pref_table.specs.Rows.{numbers_row}
use Rattle.pref_table.specs.declared.fault.TableFault.TheVariants.{Width}
use Rattle.pref_term.specs.Asked.{asked}
use Rattle.pref_term.specs.Preference.{scored, between}
use Rattle.pref_term.specs.Question.{Question}
use Rattle.pref_term.specs.declared.ask.Mode.TheVariants.{Best}
use Rattle.pref_sky.specs.declared.entry.Ranked.{Ranked}
use Rattle.pref_core.specs.Systems.{Does, as_reply}
use Rattle.pref_core.specs.declared.event.Act.{Act as ActIs}
use Rattle.pref_core.specs.declared.event.Act.TheVariants.{Insert, Update, Delete, Commit, Begin, Scan, Finish, Abandon, Get, Room}
use Rattle.pref_core.specs.declared.event.Reply.{Reply}
use Rattle.pref_core.specs.declared.event.Reply.TheVariants.{Inserted, Updated, Deleted, Committed, Begun, Left, Answer, Abandoned, Found, Room as RoomIs}
use Rattle.pref_core.specs.declared.fault.CoreFault.{CoreFault}
use Rattle.pref_core.specs.declared.fault.CoreFault.TheVariants.{Full}
use Rattle.pref_table.specs.Numbered.{◌>>=◌}
use Rattle.pref_script.specs.LiveTable.{names_of, running_of}
use Rattle.prefq_c.specs.Commits.{changes_of, updates_of}
use Rattle.prefq_c.specs.Each.{DoesEach}
use Rattle.prefq_c.specs.Openings.{rows_in}
use Rattle.prefq_c.specs.Faults.{act_fault, question_fault, values_fault}
use Rattle.prefq_c.specs.Numbers.{rows_numbers}
use Rattle.prefq_c.specs.declared.changes.Piece.{Piece}
use Rattle.prefq_c.specs.declared.fault.Fault.{Fault}
use Rattle.prefq_c.specs.declared.fault.Fault.TheVariants.{Act, Values, Memory}
use Rattle.prefq_c.specs.declared.table.Table.{Table}

abbrev pub width_of : Table → ℕ
width_of table = length (names_of table.live)

-- the table with what runs in another one, and nothing else of that
abbrev pub running_as : Table → Table → Table
running_as before after = record before { live = record before.live { machine = running_of after.live } }

-- a client's act is done on what runs: this is returned for it, a refusal too, and nothing else has changed
abbrev pub Acts : ℕ → ActIs → (ℕ → Reply) → Table → Result ℕ Fault → Table → Type 0
Acts client act kind before result after = (after ≡ running_as before after) × MatchResult result
    (λ number. Does (running_of before.live) client act (Ok (kind number)) (running_of after.live))
    (λ fault. (why : CoreFault) × (fault ≡ act_fault why) × Does (running_of before.live) client act (Err why) (running_of after.live))

-- a call is refused before anything is done
abbrev pub Refuses : Fault → Table → Result ℕ Fault → Table → Type 0
Refuses why before result after = (result ≡ Err why) × (after ≡ before)

-- a row is inserted, by client 1, as all that changes rows
abbrev pub InsertsRow : List ℤ → Table → Result ℕ Fault → Table → Type 0
InsertsRow row before result after = Acts 1 (Insert row) Inserted before result after

-- a row of these numbers is inserted, or put in place of the one of this id
abbrev pub Inserts : List ℤ → Table → Result ℕ Fault → Table → Type 0
Inserts numbers before result after = MatchResult (numbers_row (width_of before) numbers)
    (λ row. InsertsRow row before result after)
    (λ why. Refuses (values_fault why) before result after)

abbrev pub Updates : ℕ → List ℤ → Table → Result ℕ Fault → Table → Type 0
Updates id numbers before result after = MatchResult (numbers_row (width_of before) numbers)
    (λ row. Acts 1 (Update id row) Updated before result after)
    (λ why. Refuses (values_fault why) before result after)

abbrev pub Deletes : ℕ → Table → Result ℕ Fault → Table → Type 0
Deletes id before result after = Acts 1 (Delete id) Deleted before result after

abbrev pub TellsRoom : Table → Result ℕ Fault → Table → Type 0
TellsRoom before result after = Acts 1 Room RoomIs before result after

-- what was found is copied: the values of the row of this id, and of no other
abbrev pub CopiesRow : ℕ → Result (List ℤ) CoreFault → List ℤ → List ℤ → Result ℕ Fault → Type 0
CopiesRow id (Ok row) old new result = (result ≡ Ok id) × (new ≡ take (length old) row)
CopiesRow id (Err why) old new result = (result ≡ Err (act_fault why)) × (new ≡ old)

-- a row is looked up, for an array that has as many places as the table has columns
abbrev pub Gets : ℕ → List ℤ → List ℤ → Table → Result ℕ Fault → Table → Type 0
Gets id old new before result after = (after ≡ before)
    × (length old ≡ width_of before → (found : Result (List ℤ) CoreFault) × Does (running_of before.live) 1 (Get id) (as_reply (Found id) found) (running_of before.live) × CopiesRow id found old new result)
    × ((length old ≡ width_of before → ⊥) → (result ≡ Err (Values (Width 0))) × (new ≡ old))

-- the changes of these pieces are made in one commit, and the id of the first row that they add is the result
abbrev pub Commits : ℕ → List Piece → Table → Result ℕ Fault → Table → Type 0
Commits width pieces before result after = MatchResult (changes_of (width_of before) width pieces)
    (λ changes. Acts 1 (Commit changes) (λ first. Committed (record { changes = length changes; first = first })) before result after)
    (λ why. Refuses why before result after)

-- the first updates that can be made at one moment are made in one commit, and how many they are is the result
abbrev pub UpdatesFirst : ℕ → List Piece → Table → Result ℕ Fault → Table → Type 0
UpdatesFirst width pieces before result after = MatchResult (updates_of (width_of before) width pieces)
    (λ changes. (first : ℕ) × Acts 1 (Commit changes) (λ made. Committed (record { changes = made; first = first })) before result after)
    (λ why. Refuses why before result after)

-- the rows of these numbers, or why they are refused: they have to be as wide as the table, and there has to be room for all of them
abbrev pub insertable : Table → Result ℕ Fault → ℕ → ℕ → List ℤ → Result (List (List ℤ)) Fault
insertable table room count width numbers = if count == 0
    then Ok []
    else (if width == width_of table
    then (do
      left ← room
      if nat_lt left count || nat_lt 65536 count then Err (Act (Full (table.capacity - left + min count (2 ^ 63)))) else Ok (rows_in width count numbers))
    else Err (Values (Width 0)))

-- the id of the first of some rows, by that of the first one before, 0 where there was none, and of the next one
abbrev pub first_id : ℕ → ℕ → ℕ
first_id first id = if first == 0 then id else first

-- rows are inserted one after the other, up to one that is refused; the result is the id of the first one
abbrev pub InsertsEach : List (List ℤ) → Table → Result ℕ Fault → Table → Type 0
InsertsEach rows before result after = DoesEach InsertsRow first_id 0 rows before result after

-- so many rows of these numbers are inserted, where there is room for all of them, and the id of the first one is the result, 0 where there is none
abbrev pub InsertsWithin : Result ℕ Fault → ℕ → ℕ → List ℤ → Table → Result ℕ Fault → Table → Type 0
InsertsWithin room count width numbers before result after = MatchResult (insertable before room count width numbers)
    (λ rows. InsertsEach rows before result after)
    (λ why. Refuses why before result after)

-- the same by the room that the table tells
abbrev pub InsertsMany : ℕ → ℕ → List ℤ → Table → Result ℕ Fault → Table → Type 0
InsertsMany count width numbers before result after = (room : Result ℕ Fault) × TellsRoom before room before × InsertsWithin room count width numbers before result after

-- without memory for a question nothing has changed
abbrev pub UnlessMemory : Table → Result ℕ Fault → Table → Type 0 → Type 0
UnlessMemory before result after Done = Refuses Memory before result after ⊎ Done

-- a query of what the text asks begins
abbrev pub Begins : ℕ → List ℕ → Table → Result ℕ Fault → Table → Type 0
Begins client text before result after = UnlessMemory before result after (MatchResult (asked (names_of before.live) text)
    (λ ask. Acts client (Begin ask) Begun before result after)
    (λ why. Refuses (question_fault why) before result after))

-- the question under which all rows are the same: which values of the first column lie between the least and the greatest number
abbrev pub all_rows : Question
all_rows = record { preference = scored (between 0 (negsuc 9223372036854775807) (pos 9223372036854775807)); group = []; mode = Best; distinct = false }

abbrev pub BeginsAll : ℕ → Table → Result ℕ Fault → Table → Type 0
BeginsAll client before result after = UnlessMemory before result after (Acts client (Begin all_rows) Begun before result after)

abbrev pub Scans : ℕ → Table → Result ℕ Fault → Table → Type 0
Scans client before result after = Acts client Scan Left before result after

-- a query ends without an answer, and the result is 0
abbrev pub Abandons : ℕ → Table → Result ℕ Fault → Table → Type 0
Abandons client before result after = Acts client Abandon (λ _. Abandoned) before result after × IfOk result (λ number. number ≡ 0)

-- the rows of an answer are kept, and how many they are is the result
abbrev pub KeepsAnswer : Result (List Ranked) CoreFault → Table → Result ℕ Fault → Table → Type 0
KeepsAnswer (Ok rows) before result after = (result ≡ Ok (length rows)) × (after ≡ record (running_as before after) { answer = rows })
KeepsAnswer (Err why) before result after = (result ≡ Err (act_fault why)) × (after ≡ running_as before after)

-- a query ends with its answer
abbrev pub Finishes : ℕ → Table → Result ℕ Fault → Table → Type 0
Finishes client before result after = (found : Result (List Ranked) CoreFault)
    × Does (running_of before.live) client Finish (as_reply Answer found) (running_of after.live) × KeepsAnswer found before result after

-- the numbers of the answer that a table keeps
abbrev pub answer_numbers : Table → List ℤ
answer_numbers table = rows_numbers (width_of table) table.answer
