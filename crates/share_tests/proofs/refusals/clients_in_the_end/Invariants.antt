use Rattle.share_tests.proofs.refusals.clients_in_the_end.Given as goal

-- the board that is opened
abbrev pub ghosts-clients_of_an_opening : goal.ghosts-clients_of_an_opening
ghosts-clients_of_an_opening g a = record { book = a.name.seen.book; opening = record { limits = a.setup; rows = a.rows.now } }
