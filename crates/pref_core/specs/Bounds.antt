-- No public contract cites this.
-- No number of a store or of a query comes near its type's end.
use Rattle.std.specs.Prelude.{ℕ, ◌+◌, ◌*◌, ◌^◌, ◌≤◌, length}
use Rattle.std.specs.List.{AllByRecursion, sum_by}
use Rattle.pref_core.specs.Slots.{Contents}

-- no number of a store comes near its type's end: each commit beyond the opening rows is a call's, and each call uses up at most eight ids
pub record IsBounded (contents : Contents) : Type 0 where
  pub slots : length contents.slots ≤ 65536
  pub callers : length contents.callers ≤ 8
  pub calls : AllByRecursion (λ caller. caller.calls ≤ 2 ^ 56) contents.callers
  pub stamp : contents.stamp ≤ 65536 + sum_by (λ caller. caller.calls) contents.callers
  pub next_id : contents.next_id ≤ 65537 + 8 * sum_by (λ caller. caller.calls) contents.callers

-- A query reads at most as many blocks as there are slots, of at least one slot each, and keeps at least one entry at a time.
pub record IsUnderWay (size done left window : ℕ) : Type 0 where
  pub some : 1 ≤ size
  pub few : size ≤ 65536
  pub blocks : done + left ≤ 65536
  pub keeps : 1 ≤ window
