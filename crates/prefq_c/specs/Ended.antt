-- How a call ended, in numbers. (this project)
use Rattle.std.specs.Prelude.{ℕ, pos, negsuc}
use Rattle.prefq_c.specs.declared.ended.Ended.{Ended}
use Rattle.prefq_c.specs.declared.ended.Why.{Why}

-- a call that was done, with this result
abbrev pub done : ℕ → Ended
done amount = record { outcome = pos 0; amount = amount }

-- one that was refused, and one without memory
abbrev pub refused : Ended
refused = record { outcome = negsuc 0; amount = 0 }

abbrev pub out_of_memory : Ended
out_of_memory = record { outcome = negsuc 1; amount = 0 }

-- a place or a row that a refusal has not
abbrev pub nowhere : ℕ
nowhere = 18446744073709551615

-- a refusal of this kind and number, which names nothing
abbrev pub numbered : ℕ → ℕ → Why
numbered kind number = record { kind = kind; number = number; place = nowhere; row = nowhere; amount = 0 }
