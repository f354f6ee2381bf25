use Rattle.share_tests.proofs.reports.check_two_runs.Given as goal

-- the board that is opened
abbrev pub ghosts-two_runs : goal.ghosts-two_runs
ghosts-two_runs g a = record { book = a.name.seen.book; opening = record { limits = a.setup; rows = a.rows.now } }
