-- Worked runs, computed from the definitions.
use Rattle.pref_core.proofs.Common.{false, ◌≡◌, ℕ, pos, List, [], ◌∷◌, map, refl, Err, Question, Ranked, Event, Act, Get, Inserted, Updated, Deleted, Committed, Begun, Left, Answer, Abandoned, Found}
use Rattle.pref_core.proofs.Common.{RoomIs, Refused, NoSuchClient, QueryOpen, NoQuery, AllScanned, NotDone, Twice, ChangeCount, Add, Set, Remove, commit_of, Row, Limits, replies}
use Rattle.pref_table.specs.Rows.{padded}
use Rattle.pref_term.specs.Preference.{scored, low}
use Rattle.pref_term.specs.declared.ask.Mode.TheVariants.{Best, TopLevel}
use Rattle.pref_core.specs.declared.event.Act.TheVariants.{Insert, Update, Delete, Commit, Begin, Scan, Finish, Abandon, Room}
use Rattle.pref_core.specs.declared.fault.CoreFault.TheVariants.{NoSuchRow, Full}

abbrev row : ℕ → Row
row n = padded (pos n ∷ [])

abbrev smallest : Question
smallest = record { preference = scored (low 0); group = []; mode = Best; distinct = false }

abbrev by : ℕ → Act → Event
by client act = record { client = client; act = act }

abbrev setup : ℕ → ℕ → Limits
setup capacity block = record { clients = 4; capacity = capacity; block = block; window = 64 }

abbrev best : ℕ → ℕ → List Ranked
best id n = record { level = 1; id = id; row = row n } ∷ []

pub a_query_sees_its_begin : replies (setup 1024 1024) []
    (by 1 (Insert (row 30)) ∷ by 1 (Insert (row 10)) ∷ by 2 (Insert (row 20)) ∷ by 1 (Begin smallest) ∷ by 2 (Insert (row 5)) ∷ by 1 Scan ∷ by 1 Finish ∷ [])
    ≡ Inserted 1 ∷ Inserted 2 ∷ Inserted 3 ∷ Begun 1 ∷ Inserted 4 ∷ Left 0 ∷ Answer (best 2 10) ∷ []
a_query_sees_its_begin = refl

pub an_empty_table_has_all_its_blocks : replies (setup 4 2) [] (by 1 (Begin smallest) ∷ by 1 Scan ∷ by 1 Scan ∷ by 1 Finish ∷ []) ≡ Begun 2 ∷ Left 1 ∷ Left 0 ∷ Answer [] ∷ []
an_empty_table_has_all_its_blocks = refl

pub a_deleted_row_is_still_answered : replies (setup 4 2) (map row (5 ∷ 7 ∷ 9 ∷ []))
    (by 1 (Begin smallest) ∷ by 1 Scan ∷ by 2 (Delete 1) ∷ by 2 (Insert (row 1)) ∷ by 2 Room ∷ by 1 Scan ∷ by 1 Finish ∷ by 2 (Begin smallest) ∷ by 2 Scan ∷ by 2 Scan ∷ by 2 Finish ∷ [])
    ≡ Begun 2 ∷ Left 1 ∷ Deleted 1 ∷ Inserted 4 ∷ RoomIs 0 ∷ Left 0 ∷ Answer (best 1 5) ∷ Begun 2 ∷ Left 1 ∷ Left 0 ∷ Answer (best 4 1) ∷ []
a_deleted_row_is_still_answered = refl

pub room_is_exact : replies (setup 2 2) (map row (1 ∷ 2 ∷ []))
    (by 1 (Begin smallest) ∷ by 2 (Update 1 (row 9)) ∷ by 1 Abandon ∷ by 2 (Update 1 (row 9)) ∷ by 2 (Get 1) ∷ by 2 Room ∷ [])
    ≡ Begun 1 ∷ Refused (Full 3) ∷ Abandoned ∷ Updated 1 ∷ Found 1 (row 9) ∷ RoomIs 0 ∷ []
room_is_exact = refl

pub a_full_table_takes_an_update : replies (setup 2 2) (map row (1 ∷ 2 ∷ []))
    (by 1 (Update 2 (row 6)) ∷ by 1 Room ∷ by 1 (Insert (row 8)) ∷ by 1 (Delete 2) ∷ by 1 Room ∷ by 1 (Insert (row 8)) ∷ [])
    ≡ Updated 2 ∷ RoomIs 0 ∷ Refused (Full 3) ∷ Deleted 2 ∷ RoomIs 1 ∷ Inserted 3 ∷ []
a_full_table_takes_an_update = refl

pub refusals_come_in_their_order : replies (setup 2 1) (map row (4 ∷ []))
    (by 1 Finish ∷ by 1 (Begin smallest) ∷ by 1 (Begin smallest) ∷ by 1 Finish ∷ by 1 Scan ∷ by 1 Scan ∷ by 1 Scan ∷ by 1 Finish ∷ by 1 Abandon ∷ by 9 Room ∷ by 1 (Get 7) ∷ [])
    ≡ Refused NoQuery ∷ Begun 2 ∷ Refused QueryOpen ∷ Refused (NotDone 2) ∷ Left 1 ∷ Left 0 ∷ Refused AllScanned ∷ Answer (best 1 4) ∷ Refused NoQuery ∷ Refused NoSuchClient ∷ Refused (NoSuchRow 7) ∷ []
refusals_come_in_their_order = refl

pub a_refused_insert_uses_no_id : replies (setup 2 1) []
    (by 1 (Insert (row 4)) ∷ by 1 Finish ∷ by 1 (Begin smallest) ∷ by 1 (Begin smallest) ∷ by 1 Finish ∷ by 2 (Insert (row 3)) ∷ by 2 (Insert (row 9)) ∷ by 1 Scan ∷ by 1 Scan ∷ by 1 Scan ∷ by 1 Finish ∷ by 9 Scan ∷ by 1 Room ∷ by 1 (Delete 1) ∷ by 1 (Insert (row 6)) ∷ [])
    ≡ Inserted 1 ∷ Refused NoQuery ∷ Begun 2 ∷ Refused QueryOpen ∷ Refused (NotDone 2) ∷ Inserted 2 ∷ Refused (Full 3) ∷ Left 1 ∷ Left 0 ∷ Refused AllScanned ∷ Answer (best 1 4) ∷ Refused NoSuchClient ∷ RoomIs 0 ∷ Deleted 1 ∷ Inserted 3 ∷ []
a_refused_insert_uses_no_id = refl

pub two_updates_under_a_query : replies (setup 3 3) (map row (5 ∷ []))
    (by 1 (Begin smallest) ∷ by 2 (Update 1 (row 1)) ∷ by 2 (Update 1 (row 2)) ∷ by 2 Room ∷ by 1 Scan ∷ by 1 Finish ∷ by 2 Room ∷ by 2 (Get 1) ∷ [])
    ≡ Begun 1 ∷ Updated 1 ∷ Updated 1 ∷ RoomIs 1 ∷ Left 0 ∷ Answer (best 1 5) ∷ RoomIs 2 ∷ Found 1 (row 2) ∷ []
two_updates_under_a_query = refl

abbrev two_levels : Question
two_levels = record { preference = scored (low 0); group = []; mode = TopLevel 2; distinct = false }

abbrev levels_of : ℕ → ℕ → ℕ → ℕ → List Ranked
levels_of id n other m = record { level = 1; id = id; row = row n } ∷ record { level = 2; id = other; row = row m } ∷ []

pub a_commit_is_seen_wholly_or_not_at_all : replies (setup 4 4) (map row (5 ∷ 7 ∷ []))
    (by 1 (Begin smallest) ∷ by 2 (Commit (Remove 1 ∷ Add (row 3) ∷ Set 2 (row 1) ∷ [])) ∷ by 1 Scan ∷ by 1 Finish ∷ by 2 (Begin two_levels) ∷ by 2 Scan ∷ by 2 Finish ∷ by 2 Room ∷ [])
    ≡ Begun 1 ∷ Committed (record { changes = 3; first = 3 }) ∷ Left 0 ∷ Answer (best 1 5) ∷ Begun 1 ∷ Left 0 ∷ Answer (levels_of 2 1 3 3) ∷ RoomIs 2 ∷ []
a_commit_is_seen_wholly_or_not_at_all = refl

pub a_full_table_takes_a_commit : replies (setup 2 2) (map row (1 ∷ 2 ∷ []))
    (by 1 (Commit (Add (row 9) ∷ Remove 2 ∷ [])) ∷ by 1 (Commit (Set 1 (row 4) ∷ Set 2 (row 5) ∷ [])) ∷ by 1 (Commit (Add (row 6) ∷ Add (row 7) ∷ [])) ∷ by 1 (Get 1) ∷ by 1 Room ∷ [])
    ≡ Committed (record { changes = 2; first = 3 }) ∷ Refused (NoSuchRow 2) ∷ Refused (Full 4) ∷ Found 1 (row 1) ∷ RoomIs 0 ∷ []
a_full_table_takes_a_commit = refl

pub an_id_that_a_commit_adds_is_not_there_yet : replies (setup 4 4) (map row (1 ∷ [])) (by 1 (Commit (Add (row 5) ∷ Set 2 (row 6) ∷ [])) ∷ by 1 (Insert (row 9)) ∷ []) ≡ Refused (NoSuchRow 2) ∷ Inserted 2 ∷ []
an_id_that_a_commit_adds_is_not_there_yet = refl

pub a_missing_row_is_named_before_a_full_table : replies (setup 2 2) (map row (1 ∷ 2 ∷ [])) (by 1 (Commit (Add (row 5) ∷ Remove 9 ∷ Remove 8 ∷ [])) ∷ []) ≡ Refused (NoSuchRow 9) ∷ []
a_missing_row_is_named_before_a_full_table = refl

pub the_second_naming_is_refused : commit_of (Remove 1 ∷ Remove 1 ∷ []) ≡ Err (Twice 2)
the_second_naming_is_refused = refl

pub adds_name_no_id : commit_of (Add (row 1) ∷ Set 5 (row 2) ∷ Add (row 1) ∷ Remove 5 ∷ Remove 5 ∷ []) ≡ Err (Twice 4)
adds_name_no_id = refl

pub no_change_is_no_commit : commit_of [] ≡ Err ChangeCount
no_change_is_no_commit = refl

pub the_count_is_refused_before_a_second_naming : commit_of (Remove 1 ∷ Remove 1 ∷ Remove 2 ∷ Remove 3 ∷ Remove 4 ∷ Remove 5 ∷ Remove 6 ∷ Remove 7 ∷ Remove 8 ∷ []) ≡ Err ChangeCount
the_count_is_refused_before_a_second_naming = refl
