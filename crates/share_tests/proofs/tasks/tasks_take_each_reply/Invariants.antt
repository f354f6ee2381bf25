use Rattle.share_tests.proofs.tasks.tasks_take_each_reply.Given as goal

-- the board that is opened
abbrev pub ghosts-done_on_a_new_board : goal.ghosts-done_on_a_new_board
ghosts-done_on_a_new_board g a = record { book = a.name.seen.book; opening = record { limits = a.setup; rows = a.rows.now } }
