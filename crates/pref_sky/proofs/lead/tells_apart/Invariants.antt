use Rattle.pref_sky.proofs.Common.{◌≡◌, by_chain, entry_at, false, is_same, list_any, not, take}
use Rattle.pref_sky.proofs.lead.tells_apart.Given as goal

-- none so far differs
abbrev pub invariant-loop-entry : goal.invariant-loop-entry
invariant-loop-entry l = list_any (λ e. not (is_same (by_chain l.chain (entry_at l.entries 0).row e.row))) (take l.entry-index l.entries) ≡ false
