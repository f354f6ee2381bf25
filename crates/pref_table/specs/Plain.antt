-- No public contract cites this.
-- Bytes that are no quote and no line end. (this project)
use Rattle.std.specs.Prelude.{◌≢◌, ℕ, List, slice_index, EachIndex}

abbrev pub IsPlain : ℕ → Type 0
IsPlain byte = (byte ≢ 34) × (byte ≢ 13) × (byte ≢ 10)

abbrev pub ArePlain : List ℕ → Type 0
ArePlain text = EachIndex text (λ k. IsPlain (slice_index text k))
