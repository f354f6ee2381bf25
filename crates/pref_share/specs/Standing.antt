-- What contracts see of a client. (this project)
use Rattle.std.specs.Prelude.{ℕ, List, [], map, Option, None}
use Rattle.std.specs.List.{range_with_len}
use Rattle.pref_core.specs.declared.call.Op.{Op}
use Rattle.pref_core.specs.Scans.{Scan}

-- an open query, and the history that ends with its begin
pub record Asking : Type 0 where
  pub scan : Scan
  pub at_begin : List Op

-- its number, how many numbered calls it has made, the history that it has seen, and its open query
pub record Standing : Type 0 where
  pub number : ℕ
  pub counter : ℕ
  pub seen : List Op
  pub query : Option Asking

-- a client that has made no call and seen nothing
abbrev pub newcomer : ℕ → Standing
newcomer number = record { number = number; counter = 0; seen = []; query = None }

-- the clients of a new board, in order of number
abbrev pub newcomers : ℕ → List Standing
newcomers clients = map newcomer (range_with_len 1 clients)
