-- What the tasks of the tests keep of a reply.
use Rattle.std.specs.Prelude.{ℕ}
use Rattle.pref_core.specs.declared.event.Reply.{Reply}
use Rattle.pref_core.specs.declared.event.Reply.TheVariants.{Inserted}

-- the id of the row that was inserted, 0 where none was
abbrev pub id_of : Reply → ℕ
id_of (Inserted id) = id
id_of reply = 0
