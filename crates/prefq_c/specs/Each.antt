-- Things that are done to a table one after the other. (this project)
use Rattle.std.specs.Prelude.{ℕ, ◌≡◌, List, [], ◌∷◌, Result, Ok, Err, MatchResult}
use Rattle.prefq_c.specs.declared.fault.Fault.{Fault}
use Rattle.prefq_c.specs.declared.table.Table.{Table}

-- each of them is done, up to one that is refused; the result is what is made, one by one, of this number and of the numbers that were returned for them
abbrev pub DoesEach : {A : Type 0} → (A → Table → Result ℕ Fault → Table → Type 0) → (ℕ → ℕ → ℕ) → ℕ → List A → Table → Result ℕ Fault → Table → Type 0
DoesEach Does next number [] before result after = (result ≡ Ok number) × (after ≡ before)
DoesEach Does next number (one ∷ more) before result after = (mid : Table) × (returned : Result ℕ Fault) × Does one before returned mid × MatchResult returned
    (λ its. DoesEach Does next (next number its) more mid result after)
    (λ why. (result ≡ Err why) × (after ≡ mid))
