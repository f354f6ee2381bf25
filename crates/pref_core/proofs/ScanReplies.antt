-- What a machine returns at each act is the system's reply: scans.
use Rattle.pref_core.proofs.Common.{◌≡◌, ℕ, ◌<◌, true, false, nat_lt, List, Option, Some, Result, refl, arith, lt-ltb, le-ltb, CoreFault, ActScan, Left, seat, Open, Member, System, step, Scan}
use Rattle.pref_core.proofs.Common.{Running, Follows, StandsForSystem, Returns, as_reply, NextIsNewAt, ScansOne, ScansAt}
use Rattle.pref_core.proofs.SeatLaws.{with_seat_self}
use Rattle.pref_core.proofs.QueryLaws.{next_is_new, follows_scanned}
use Rattle.pref_core.proofs.SystemsLaws.{scanned_stands, query_shows}
use Rattle.pref_core.proofs.ChangeReplies.{running_of, nobody_steps}

-- what an open query's place and the client's query are
pub record IsAsking (running : Running) (system : System) (client : ℕ) (held : Scan) : Type 0 where
  pub who : Member
  pub at : seat client system.members ≡ Some who
  pub query : Open
  pub is : who.query ≡ Some query
  pub follows : Follows running.contents.slots held query

pub IsAsking-from : (running : Running) (system : System) (client : ℕ) (held : Scan) → StandsForSystem running system → seat client running.scans ≡ Some (Some held) → IsAsking running system client held
IsAsking-from running system client held h at = grind (arith)

-- The next block of a query shows nothing that it holds.
pub next_is_new_at : (running : Running) (system : System) (client : ℕ) → StandsForSystem running system → NextIsNewAt (seat client running.scans) running.contents.slots
next_is_new_at running system client h = go (seat client running.scans) refl
  where
    go : (o : Option (Option Scan)) → seat client running.scans ≡ o → NextIsNewAt o running.contents.slots
    go (Some (Some held)) at =
        let asks = IsAsking-from running system client held h at in
        next_is_new running.contents.slots held asks.query (query_shows running system client asks.who asks.query h asks.at asks.is) asks.follows
    go o at = grind (arith)

pub some_left : (n : ℕ) → 0 < n → nat_lt 0 n ≡ true
some_left n h = lt-ltb 0 n h

pub no_left : (n : ℕ) → n ≡ 0 → nat_lt 0 n ≡ false
no_left n h = le-ltb 0 n (omega arith)

-- A query scans.
scan_one : (running : Running) (system : System) (client : ℕ) (held : Scan) (result : Result ℕ CoreFault) (scans : List (Option Scan)) → StandsForSystem running system → seat client running.scans ≡ Some (Some held)
    → ScansOne held running.contents.slots client running.scans result scans
    → Returns running (step running.limits system (record { client = client; act = ActScan })) ActScan (as_reply Left result) (running_of running.contents running.limits scans)
scan_one running system client held result scans h at says = grind (arith, some_left, running_of, query_shows, follows_scanned, scanned_stands, with_seat_self)

pub scan_returns : (running : Running) (system : System) (client : ℕ) (result : Result ℕ CoreFault) (scans : List (Option Scan)) → StandsForSystem running system
    → ScansAt (seat client running.scans) running.contents.slots client running.scans result scans
    → Returns running (step running.limits system (record { client = client; act = ActScan })) ActScan (as_reply Left result) (running_of running.contents running.limits scans)
scan_returns running system client result scans h = grind (arith, running_of, nobody_steps, scan_one, h.members client)
