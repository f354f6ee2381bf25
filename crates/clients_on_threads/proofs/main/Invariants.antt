use Rattle.clients_on_threads.proofs.main.Given as goal

-- the board that is opened
abbrev pub ghosts-run_board : goal.ghosts-run_board
ghosts-run_board g a = record { book = a.name.seen.book; opening = record { limits = a.setup; rows = a.hotels.now } }
