use Rattle.pref_share.proofs.Common.{◌≡◌, ℕ, ◌<◌, get_or, StandsWithin}
use Rattle.pref_share.proofs.run.check_each.Given as goal

abbrev pub invariant-loop-worked : goal.invariant-loop-worked
invariant-loop-worked g l = (l.publisher ≡ l.fn.publisher) × (l.all ≡ l.fn.all) × ((i : ℕ) (d : _) → i < l.worked-index → StandsWithin g.J.BoardBrand.opening l.fn.publisher (get_or l.fn.all i d).client)
