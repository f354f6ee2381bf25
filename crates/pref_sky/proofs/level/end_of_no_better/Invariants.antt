use Rattle.pref_sky.proofs.Common.{◌+◌, ◌≡◌, ◌<◌, ◌≤◌, ℕ, false, get_or, entry_at}
use Rattle.pref_sky.specs.Leads.{third_of}
use Rattle.pref_sky.proofs.level.end_of_no_better.Given as goal

abbrev pub invariant-loop-skipped : goal.invariant-loop-skipped
invariant-loop-skipped l = (k : ℕ) → l.from ≤ k → k < l.from + l.skipped → third_of l.order l.lead (entry_at l.entries (get_or l.steps k 0)) l.entry ≡ false
