use Rattle.pref_script.proofs.Common.{◌≡◌, ℕ, List, length, ArePartsUpTo}
use Rattle.pref_script.proofs.parts.empty_parts.Given as goal

abbrev pub invariant-loop-client : goal.invariant-loop-client
invariant-loop-client l = (length l.parts.items ≡ l.client) × ((raws : List (List ℕ)) → ArePartsUpTo l.schema raws raws l.parts.items)
