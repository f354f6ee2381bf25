-- What a client's scans and reads do. (this project)
use Rattle.std.specs.Prelude.{◌≡◌, ℕ, ◌-◌, List, length, Option, Some, None}
use Rattle.std.specs.Option.{option_map}
use Rattle.pref_core.specs.Rows.{Row}
use Rattle.pref_core.specs.declared.call.Op.{Op}
use Rattle.pref_core.specs.declared.fault.CoreFault.TheVariants.{NoQuery, AllScanned, NoSuchRow, OutOfMemory}
use Rattle.pref_core.specs.Table.{line_of}
use Rattle.pref_core.specs.State.{needed}
use Rattle.pref_core.specs.Scans.{Scan, IsScanned}
use Rattle.pref_share.specs.declared.fault.ShareFault.{ShareFault}
use Rattle.pref_share.specs.declared.fault.ShareFault.TheVariants.{Core, ClientInUse, Held, Closed}
use Rattle.pref_share.specs.Openings.{Opening, IsLegalFrom, contents_at, state_at, calls_at}
use Rattle.pref_share.specs.Standing.{Asking, Standing}
use Rattle.pref_share.specs.Clients.{Sees, HasLeft, HasNoneLeft}
use mathlib.Core.List.{IsPrefix}

-- A block was scanned, of the slots that the history leaves which was seen then.
pub record Scanned (o : Opening) (old : Standing) (left : ℕ) (new : Standing) : Type 0 where
  pub asking : Asking
  pub is_open : old.query ≡ Some asking
  pub after : Scan
  pub query : new.query ≡ Some (record { scan = after; at_begin = asking.at_begin })
  pub left_is : left ≡ after.left
  pub scans : IsScanned asking.scan (contents_at o new.seen).slots after
  pub further : IsPrefix old.seen new.seen
  pub legal : IsLegalFrom o new.seen
  pub alone : calls_at o new.seen old.number ≡ Some old.counter
  pub counted : new.counter ≡ old.counter
  pub same : new.number ≡ old.number

-- a query is open, and has a block left
abbrev pub HasMore : Standing → Type 0
HasMore s = (left : ℕ) × HasLeft s left

-- what a refusal of a scan says: nothing but the client's own query is met where there is no block to scan
abbrev pub RefusesScan : Opening → Standing → ShareFault → Standing → Type 0
RefusesScan o old (Core NoQuery) new = (old.query ≡ None) × (new ≡ old)
RefusesScan o old (Core AllScanned) new = HasNoneLeft old × (new ≡ old)
RefusesScan o old (Core OutOfMemory) new = HasMore old × Sees o old new
RefusesScan o old (Core fault) new = ⊥
RefusesScan o old (ClientInUse number) new = ⊥
RefusesScan o old (Held client) new = ⊥
RefusesScan o old Closed new = HasMore old × (new ≡ old)

-- the row of this id in the table that a history leaves
abbrev pub row_after : Opening → List Op → ℕ → Option Row
row_after o ops id = option_map (λ line. line.row) (line_of (state_at o ops).table id)

-- how many more versions there is room for there
abbrev pub room_at : Opening → List Op → ℕ
room_at o ops = o.limits.capacity - length (needed (state_at o ops))

-- what a refusal of a read says
abbrev pub RefusesGet : Opening → Standing → ℕ → ShareFault → Standing → Type 0
RefusesGet o old id (Core fault) new = (fault ≡ NoSuchRow id) × Sees o old new × (row_after o new.seen id ≡ None)
RefusesGet o old id (ClientInUse number) new = ⊥
RefusesGet o old id (Held client) new = ⊥
RefusesGet o old id Closed new = new ≡ old
