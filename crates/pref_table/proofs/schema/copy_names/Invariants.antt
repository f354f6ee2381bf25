use Rattle.pref_table.proofs.Common.{◌≡◌, map, take}
use Rattle.pref_table.proofs.schema.copy_names.Given as goal

abbrev pub invariant-loop-name : goal.invariant-loop-name
invariant-loop-name l = map (λ name. name.items) l.owned.items ≡ take l.name-index (map (λ name. name.now) l.names)
