-- What a clause sees of a watched reader or writer. (this project)
use Rattle.std.specs.Prelude.{Bool}
use Rattle.pref_script.specs.declared.watched.Watched.{Watched}

-- the reader or the writer inside
abbrev pub inside : {T : Type 0} → Watched T → T
inside w = w.inner

-- whether it has failed so far
abbrev pub has_failed : {T : Type 0} → Watched T → Bool
has_failed w = w.failed
