-- The exit status of a run. (this project)
use Rattle.std.specs.Prelude.{ℕ}
use Rattle.pref_script.specs.declared.fault.RunFault.{RunFault}
use Rattle.pref_script.specs.declared.fault.RunFault.TheVariants as fault

-- 1 where the run itself failed, and 2 where its input is at fault
abbrev pub status_of : RunFault → ℕ
status_of fault.Read = 1
status_of fault.Write = 1
status_of fault.TooLarge = 1
status_of fault.Memory = 1
status_of (fault.Threads why) = 1
status_of fault.NoTable = 2
status_of fault.NoEnd = 2
status_of (fault.Table why) = 2
status_of (fault.Opening why) = 2
