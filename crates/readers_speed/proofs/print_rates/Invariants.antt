use Rattle.readers_speed.proofs.print_rates.Given as goal

-- the board of the clients on threads
abbrev pub ghosts-measure : goal.ghosts-measure
ghosts-measure g a = record { book = a.name.seen.book; opening = record { limits = a.plan.setup; rows = a.rows.now } }
