-- A call or a change whose rows are lent, as what it is. (this project)
use Rattle.pref_core.specs.declared.call.Call.{Call}
use Rattle.pref_core.specs.declared.call.Call.TheVariants.{Insert as CallInsert, Update as CallUpdate, Delete as CallDelete, Commit as CallCommit, Begin as CallBegin, Finish as CallFinish, Abandon as CallAbandon}
use Rattle.pref_core.specs.declared.call.lent.Lent.{Lent}
use Rattle.pref_core.specs.declared.call.lent.Lent.TheVariants.{Insert, Update, Delete, Commit, Begin, Finish, Abandon}
use Rattle.pref_core.specs.declared.changes.Change.{Change}
use Rattle.pref_core.specs.declared.changes.Change.TheVariants.{Add as ChangeAdd, Set as ChangeSet, Remove as ChangeRemove}
use Rattle.pref_core.specs.declared.changes.LentChange.{LentChange}
use Rattle.pref_core.specs.declared.changes.LentChange.TheVariants.{Add, Set, Remove}

abbrev pub call_of : Lent → Call
call_of (Insert row) = CallInsert row.now
call_of (Update id row) = CallUpdate id row.now
call_of (Delete id) = CallDelete id
call_of (Commit commit) = CallCommit commit.now
call_of Begin = CallBegin
call_of Finish = CallFinish
call_of Abandon = CallAbandon

abbrev pub change_of : LentChange → Change
change_of (Add row) = ChangeAdd row.now
change_of (Set id row) = ChangeSet id row.now
change_of (Remove id) = ChangeRemove id
