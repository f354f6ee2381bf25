use Rattle.pref_table.proofs.Common.{◌<◌, state_at}
use Rattle.pref_table.proofs.NextFacts.{Stands}
use Rattle.pref_table.proofs.records.next_in.Given as goal

abbrev pub invariant-loop-at : goal.invariant-loop-at
invariant-loop-at l = Stands l.text l.at (state_at l.place) l.fields × (l.fields < 16)
