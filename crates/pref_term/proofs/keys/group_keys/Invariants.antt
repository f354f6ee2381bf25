use Rattle.pref_term.proofs.Common.{◌≡◌, take}
use Rattle.pref_term.specs.Extension.{group_keys}
use Rattle.pref_term.proofs.keys.group_keys.Given as goal

-- the columns so far have their keys
abbrev pub invariant-loop-col : goal.invariant-loop-col
invariant-loop-col l = l.keys.items ≡ group_keys (take l.col-index l.columns)
