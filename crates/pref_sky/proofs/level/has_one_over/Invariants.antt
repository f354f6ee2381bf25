use Rattle.pref_sky.proofs.Common.{◌&&◌, ◌≡◌, ◌<◌, ℕ, false, get_or, Item, entry_at, own_order}
use Rattle.pref_term.specs.Signatures.{is_within}
use Rattle.pref_sky.proofs.level.has_one_over.Given as goal

abbrev pub invariant-loop-at : goal.invariant-loop-at
invariant-loop-at l = (k : ℕ) (d : Item) → k < l.at → (is_within (get_or l.item-items k d).signature l.signature && own_order l.order (entry_at l.entries (get_or l.item-items k d).place) (entry_at l.entries l.place)) ≡ false
