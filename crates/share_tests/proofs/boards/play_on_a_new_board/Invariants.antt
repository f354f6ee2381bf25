use Rattle.share_tests.proofs.boards.play_on_a_new_board.Given as goal

-- the board that is opened
abbrev pub ghosts-play_and_close : goal.ghosts-play_and_close
ghosts-play_and_close g a = record { book = a.name.seen.book; opening = record { limits = a.setup; rows = a.rows.now } }
