use Rattle.pref_script.proofs.threads.run_threads.Given as goal

-- the board that is opened
abbrev pub ghosts-joint_parts : goal.ghosts-joint_parts
ghosts-joint_parts g a = record { book = a.name.seen.book; opening = record { limits = a.setup; rows = a.rows.now } }
