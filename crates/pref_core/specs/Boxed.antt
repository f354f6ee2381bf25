-- A call whose commit is in a box, as what it is. (this project)
use Rattle.pref_core.specs.declared.call.Call.{Call}
use Rattle.pref_core.specs.declared.call.Call.TheVariants.{Insert as CallInsert, Update as CallUpdate, Delete as CallDelete, Commit as CallCommit, Begin as CallBegin, Finish as CallFinish, Abandon as CallAbandon}
use Rattle.pref_core.specs.declared.call.boxed.Boxed.{Boxed}
use Rattle.pref_core.specs.declared.call.boxed.Boxed.TheVariants.{Insert, Update, Delete, Commit, Begin, Finish, Abandon}

abbrev pub call_of : Boxed → Call
call_of (Insert row) = CallInsert row
call_of (Update id row) = CallUpdate id row
call_of (Delete id) = CallDelete id
call_of (Commit commit) = CallCommit commit
call_of Begin = CallBegin
call_of Finish = CallFinish
call_of Abandon = CallAbandon
