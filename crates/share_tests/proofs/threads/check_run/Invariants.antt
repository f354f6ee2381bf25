use Rattle.share_tests.proofs.threads.check_run.Given as goal

-- the board that is opened
abbrev pub ghosts-run : goal.ghosts-run
ghosts-run g a = record { book = a.name.seen.book; opening = record { limits = a.setup; rows = a.rows.now } }
