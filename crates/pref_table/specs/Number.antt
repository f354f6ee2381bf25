-- What a number field reads as. (this project)
use Rattle.std.specs.Prelude.{ℕ, ℤ, pos, negsuc, neg_ℤ, Bool, ◌==◌, ◌||◌, ◌&&◌, ◌-◌, ◌^◌, List, length, take, drop, Result, Ok, Err, nat_lt, if◌then◌else◌}
use Rattle.std.specs.Str.{all_ascii_digits}
use Rattle.std.specs.List.{prefix_len, suffix_len}
use Rattle.std.specs.Str.Parse.{without_leading_sign, signed_digits_value}
use Rattle.pref_table.specs.declared.number.NumberFault.{NumberFault}
use Rattle.pref_table.specs.declared.number.NumberFault.TheVariants.{NotWhole, OutOfRange}

-- a space or a tab
abbrev pub is_blank : ℕ → Bool
is_blank byte = (byte == 32) || (byte == 9)

abbrev pub after_blanks : List ℕ → List ℕ
after_blanks text = drop (prefix_len is_blank text) text

abbrev pub before_blanks : List ℕ → List ℕ
before_blanks text = take (length text - suffix_len is_blank text) text

-- a text without the spaces and tabs at its ends
abbrev pub without_blanks : List ℕ → List ℕ
without_blanks text = before_blanks (after_blanks text)

-- one decimal digit or more, and nothing else
abbrev pub is_numeral : List ℕ → Bool
is_numeral text = nat_lt 0 (length text) && all_ascii_digits text

-- the number with this sign and magnitude
abbrev pub signed_by : Bool → ℕ → ℤ
signed_by negative magnitude = if negative then neg_ℤ (pos magnitude) else pos magnitude

-- a number from -2^63 to 2^63 - 1; negsuc n is -(n + 1)
abbrev pub fits_cell : ℤ → Bool
fits_cell (pos n) = nat_lt n (2 ^ 63)
fits_cell (negsuc n) = nat_lt n (2 ^ 63)

-- the number of a field: an optional sign and digits, with spaces and tabs round them
unfoldable pub number_of : List ℕ → Result ℤ NumberFault
number_of field =
    let text = without_blanks field in
    if is_numeral (without_leading_sign text)
    then (if fits_cell (signed_digits_value 10 text) then Ok (signed_digits_value 10 text) else Err OutOfRange)
    else Err NotWhole
