-- What a call behind a handle answers. (this project)
use Rattle.std.specs.Prelude.{ℕ, ◌≡◌, ◌⊎◌, ◌∷◌, ◌++◌, ◌+◌, ◌-◌, List, [], take, drop, length, Option, None, Some, Result, Ok, Err}
use Rattle.prefq_c.specs.Ended.{done, out_of_memory, refused}
use Rattle.prefq_c.specs.Faults.{refusal_numbers, words}
use Rattle.prefq_c.specs.declared.ended.Ended.{Ended}
use Rattle.prefq_c.specs.declared.ended.Refusal.{Refusal}
use Rattle.prefq_c.specs.declared.fault.Fault.{Fault}
use Rattle.prefq_c.specs.declared.fault.Fault.TheVariants.{Memory}
use Rattle.prefq_c.specs.declared.table.Table.{Table}

-- a text was put at the head of an array with a zero behind it, as far as both fit; what is behind them stays
abbrev pub Put : List ℕ → List ℕ → List ℕ → Type 0
Put text old new = let fits = take (length old - 1) text in new ≡ fits ++ 0 ∷ drop (length fits + 1) old

-- how a refused call ends: without memory there is no table any more
abbrev pub refused_by : Fault → Ended
refused_by Memory = out_of_memory
refused_by why = refused

-- a call is refused for this, with its numbers and its words; without these where there was no memory for them
abbrev pub Refused : Fault → Refusal → Refusal → Ended → Type 0
Refused why old new ended = (ended ≡ refused_by why) × (new.why ≡ refusal_numbers why) × (Put (words why) old.text new.text ⊎ Put [] old.text new.text)

-- what is answered of what was returned
abbrev pub Answered : Result ℕ Fault → Refusal → Refusal → Ended → Type 0
Answered (Ok amount) old new ended = (ended ≡ done amount) × (new ≡ old)
Answered (Err why) old new ended = Refused why old new ended

-- and the handle has the table, unless there was no memory
pub record Returns (returned : Result ℕ Fault) (table : Table) (left : Option Table) (old new : Refusal) (ended : Ended) : Type 0 where
  pub answered : Answered returned old new ended
  pub over : ended.outcome ≡ out_of_memory.outcome → left ≡ None
  pub goes_on : (ended.outcome ≡ out_of_memory.outcome → ⊥) → left ≡ Some table

-- a call that does this returned something, and that is answered
abbrev pub Ends : (Result ℕ Fault → Table → Type 0) → Option Table → Refusal → Refusal → Ended → Type 0
Ends Did left old new ended = (returned : Result ℕ Fault) × (after : Table) × Did returned after × Returns returned after left old new ended
