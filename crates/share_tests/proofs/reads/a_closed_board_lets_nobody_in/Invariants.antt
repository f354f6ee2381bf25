use Rattle.share_tests.proofs.reads.a_closed_board_lets_nobody_in.Given as goal

-- the board that is opened
abbrev pub ghosts-read_of_a_closed_board : goal.ghosts-read_of_a_closed_board
ghosts-read_of_a_closed_board g a = record { book = a.name.seen.book; opening = record { limits = a.setup; rows = a.rows.now } }
