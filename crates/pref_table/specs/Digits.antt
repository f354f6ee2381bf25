-- No public contract cites this.
-- Eight bytes and eight digits as numbers. (this project)
use Rattle.std.specs.Prelude.{◌+◌, ◌-◌, ◌*◌, ◌^◌, ℕ, nat_lt, if◌then◌else◌}

-- the number that eight bytes make, of which the first is the least
abbrev pub eight_bytes : (ℕ → ℕ) → ℕ
eight_bytes byte =
    byte 0 + 2 ^ 8 * byte 1 + 2 ^ 16 * byte 2 + 2 ^ 24 * byte 3 + 2 ^ 32 * byte 4 + 2 ^ 40 * byte 5 + 2 ^ 48 * byte 6 + 2 ^ 56 * byte 7

-- the number that eight digits write
abbrev pub eight_digits : (ℕ → ℕ) → ℕ
eight_digits digit =
    10 ^ 7 * digit 0 + 10 ^ 6 * digit 1 + 10 ^ 5 * digit 2 + 10 ^ 4 * digit 3 + 10 ^ 3 * digit 4 + 10 ^ 2 * digit 5 + 10 * digit 6 + digit 7

-- of the digits that some bytes begin with, behind so many zeros that they are eight: the one at a place
abbrev pub digit_at : (ℕ → ℕ) → (count : ℕ) → ℕ → ℕ
digit_at byte count k = if nat_lt (k + count) 8 then 0 else byte (k + count - 8) - 48
