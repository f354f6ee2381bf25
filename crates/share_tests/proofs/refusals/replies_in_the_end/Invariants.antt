use Rattle.share_tests.proofs.refusals.replies_in_the_end.Given as goal

-- the board that is opened
abbrev pub ghosts-replies_of_a_run : goal.ghosts-replies_of_a_run
ghosts-replies_of_a_run g a = record { book = a.name.seen.book; opening = record { limits = a.setup; rows = a.rows.now } }
