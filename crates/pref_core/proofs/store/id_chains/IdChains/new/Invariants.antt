use Rattle.pref_core.proofs.Common.{◌≡◌, ◌+◌, ◌<◌, ℕ, length, get_or}
use Rattle.pref_core.proofs.store.id_chains.IdChains.new.Given as goal

abbrev pub invariant-loop-home : goal.invariant-loop-home
invariant-loop-home l = record {
  long : length l.next.items ≡ l.capacity + l.home;
  ends : (n : ℕ) → n < l.capacity → get_or l.next.items n 0 ≡ l.capacity;
  firsts : (home : ℕ) → home < l.home → get_or l.next.items (l.capacity + home) 0 ≡ home;
}
