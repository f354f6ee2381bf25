-- Whole runs, worked out by computation: a script's bytes, and the bytes that it prints.
use Rattle.pref_script.proofs.Common.{◌≡◌, ℕ, List, [], ◌∷◌, refl, codes, digits, number_of, all_from, table_of, table_of_records, without_marks, accepted_events, act_of, change_of, commands_of, commit_said}
use Rattle.pref_script.proofs.Common.{command_lines, output, script_of, raw_lines, texts, said_by, said_in, verb_of, change_said_by, change_verb_of, piece_said, after_word, word_number, word_of}
use Rattle.csv.specs.Machine.{next_record}
use Rattle.csv.specs.Reading.{records_from}
use Rattle.pref_table.specs.Names.{schema_of}
use Rattle.pref_table.specs.Rows.{row_of}
use Rattle.pref_term.specs.Asked.{asked}

-- what a script of four clients prints, over a table with so many slots in blocks of this size
prints : ℕ → ℕ → List ℕ → List ℕ
unfolding digits next_record records_from schema_of number_of all_from row_of table_of table_of_records without_marks script_of raw_lines act_of change_of commit_said commands_of
    accepted_events command_lines after_word change_said_by change_verb_of piece_said said_by said_in verb_of word_number word_of texts asked
prints capacity block script = output (record { clients = 4; capacity = capacity; block = block; window = 64 }) script

-- lines end by a line feed, one carriage return before it is no part of a line, and the last line may lack its end
lines_of_a_text : raw_lines (codes "a\r\n\nb") ≡ codes "a\r\n" ∷ codes "\n" ∷ codes "b" ∷ []
unfolding raw_lines
lines_of_a_text = refl

no_table : prints 1024 1024 (codes "Table\nx\nend\n") ≡ codes "script refused: no table\n"
unfolding prints
no_table = refl

no_end : prints 1024 1024 (codes "table\nx\n1\n") ≡ codes "script refused: no end\n"
unfolding prints
no_end = refl

a_field_that_is_no_number : prints 1024 1024 (codes "table\nx,y\n1,2\n3,1.5\nend\n") ≡ codes "table refused 6: not whole row 2 col 2\n"
unfolding prints
a_field_that_is_no_number = refl

a_field_out_of_range : prints 1024 1024 (codes "table\nx\n9223372036854775808\nend\n") ≡ codes "table refused 7: out of range row 1 col 1\n"
unfolding prints
a_field_out_of_range = refl

rows_without_room : prints 2 1024 (codes "table\nx\n1\n2\n3\nend\nas 1 room\n") ≡ codes "opening refused 8: full needed 3\n"
unfolding prints
rows_without_room = refl

changes_of_a_full_table : prints 2 2 (codes "table\nx\n1\n2\nend\nas 1 update 2 6\nas 1 room\nas 1 insert 8\nas 1 delete 2\nas 1 room\nas 1 insert 8\n")
    ≡ codes "1 updated 2\n1 room 0\n1 refused 8: full needed 3\n1 deleted 2\n1 room 1\n1 inserted 3\n"
unfolding prints
changes_of_a_full_table = refl

commits_of_a_full_table : prints 2 2 (codes "table\nx\n1\n2\nend\nas 1 commit insert 9; delete 2\nas 1 commit update 1 4; update 2 5\nas 1 commit insert 6; insert 7\nas 1 commit delete 1; delete 1\nas 1 get 1\nas 1 room\n")
    ≡ codes "1 committed 2 first 3\n1 refused 7: no such row 2\n1 refused 8: full needed 4\nline 9 refused commit 12: twice place 2\n1 row 1: 1\n1 room 0\n"
unfolding prints
commits_of_a_full_table = refl

refused_lines_between_replies : prints 1024 1024 (codes "table\r\nx,y\r\n\"5\",-7\r\nend\r\n\t as 007\troom \r\n \t\r\nas 1 get 1\r\nas 1 jump\r\nas 1 insert 1.5,2\r\nas 256 room\r\nas 1 get 2")
    ≡ codes "7 refused 1: no such client\n1 row 1: 5,-7\nline 8 refused: command\nline 9 refused table 6: not whole row 0 col 1\nline 10 refused: command\n1 refused 7: no such row 2\n"
unfolding prints
refused_lines_between_replies = refl

-- ---- questions

-- the run that the program is stored with
stored_run : prints 1024 1024 (codes "table\nprice\nend\nas 1 insert 30\nas 1 insert 10\nas 2 insert 20\nas 1 begin best low(price)\nas 2 insert 5\nas 1 scan\nas 1 finish\n")
    ≡ codes "1 inserted 1\n1 inserted 2\n2 inserted 3\n1 begun 1\n2 inserted 4\n1 left 0\n1 answer 1\nlevel 1 id 2: 10\n"
unfolding prints
stored_run = refl

-- an answer is of the table as it stood at the begin, whatever is deleted and inserted between the scans
answer_of_the_begin : prints 4 2 (codes "table\nx\n5\n7\n9\nend\nas 1 begin best low(x)\nas 1 scan\nas 2 delete 1\nas 2 insert 1\nas 2 room\nas 1 scan\nas 1 finish\nas 2 begin best low(x)\nas 2 scan\nas 2 scan\nas 2 finish\n")
    ≡ codes "1 begun 2\n1 left 1\n2 deleted 1\n2 inserted 4\n2 room 0\n1 left 0\n1 answer 1\nlevel 1 id 1: 5\n2 begun 2\n2 left 1\n2 left 0\n2 answer 1\nlevel 1 id 4: 1\n"
unfolding prints
answer_of_the_begin = refl

-- a skyline clause, whose DIFF column groups the rows
skyline_clause : prints 1024 1024 (codes "table\nprice,city\n10,1\n20,1\n30,2\n30,2\nend\nas 1 begin skyline of price MIN, city diff\nas 1 scan\nas 1 finish\n")
    ≡ codes "1 begun 1\n1 left 0\n1 answer 3\nlevel 1 id 1: 10,1\nlevel 1 id 3: 30,2\nlevel 1 id 4: 30,2\n"
unfolding prints
skyline_clause = refl

-- as many levels as hold five rows
at_least_five : prints 12 6 (codes "table\nx,y\n20,1\n4,16\n5,15\n6,14\n7,13\n21,2\n1,10\n2,11\n3,12\nend\nas 1 begin at_least 5 low(x) * low(y)\nas 1 scan\nas 1 scan\nas 1 finish\n")
    ≡ codes "1 begun 2\n1 left 1\n1 left 0\n1 answer 5\nlevel 1 id 1: 20,1\nlevel 1 id 7: 1,10\nlevel 2 id 6: 21,2\nlevel 2 id 8: 2,11\nlevel 3 id 9: 3,12\n"
unfolding prints
at_least_five = refl

-- values within a range are alike, and of the others the nearer ones are better
nearest_to_a_range : prints 1024 1024 (codes "table\nx\n1\n4\n6\n9\n12\nend\nas 1 begin top_level 2 between(x, 5, 9)\nas 1 scan\nas 1 finish\nas 1 begin best between(x, 5, 4)\n")
    ≡ codes "1 begun 1\n1 left 0\n1 answer 3\nlevel 1 id 3: 6\nlevel 1 id 4: 9\nlevel 2 id 2: 4\nline 12 refused term 9: empty range at 19\n"
unfolding prints
nearest_to_a_range = refl

-- questions that are refused, each with its number, its text and its place
refused_questions : prints 1024 1024 (codes "table\nx\nend\nas 1 begin best low(z)\nas 1 begin best low(x\nas 1 begin at_least 0 low(x)\nas 1 begin skyline of x diff\nas 1 insert 1,2\nas 1 jump\nas 1 begin best low(x) +\n")
    ≡ codes "line 4 refused term 2: unknown column at 9\nline 5 refused term 1: unexpected at 10\nline 6 refused term 6: bad count at 9\nline 7 refused term 7: no min or max\nline 8 refused table 5: width row 0\nline 9 refused: command\nline 10 refused term 1: unexpected at 12\n"
unfolding prints
refused_questions = refl
