-- No public contract cites this.
-- A magnitude that is read in one pass, exact where a cell can hold it. (this project)
use Rattle.std.specs.Prelude.{◌≡◌, ◌^◌, ◌<◌, ◌≤◌, ℕ}

-- the value itself up to 2^63, and past it some value past it
pub record IsCapped (magnitude value : ℕ) : Type 0 where
  pub same : magnitude ≤ 2 ^ 63 → magnitude ≡ value
  pub more : 2 ^ 63 < magnitude → 2 ^ 63 < value
