use Rattle.share_tests.proofs.words.word_crosses.Given as goal

-- the board that is opened
abbrev pub ghosts-got_on_a_new_board : goal.ghosts-got_on_a_new_board
ghosts-got_on_a_new_board g a = record { book = a.name.seen.book; opening = record { limits = a.setup; rows = a.rows.now } }
