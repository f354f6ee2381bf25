-- What a call behind a handle did, and what it answered.
use Rattle.std.proofs.Common.{◌≡◌, Option, Some, IfSome, ℕ, Result, subst, sym}
use Rattle.prefq_c.specs.Ends.{Ends, Returns}
use Rattle.prefq_c.specs.declared.ended.Ended.{Ended}
use Rattle.prefq_c.specs.declared.ended.Refusal.{Refusal}
use Rattle.prefq_c.specs.declared.fault.Fault.{Fault}
use Rattle.prefq_c.specs.declared.table.Table.{Table}

-- of what a handle had
pub ends : (Did : Table → Result ℕ Fault → Table → Type 0) (held left : Option Table) (before after : Table) (returned : Result ℕ Fault) (old new : Refusal) (ended : Ended)
    → held ≡ Some before → Did before returned after → Returns returned after left old new ended → IfSome held (λ table. Ends (Did table) left old new ended)
ends Did held left before after returned old new ended is did answers = subst (λ some. IfSome some (λ table. Ends (Did table) left old new ended)) (sym is) (returned, after, did, answers)
