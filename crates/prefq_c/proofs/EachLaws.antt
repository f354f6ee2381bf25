-- Things that are done to a table one after the other.
use Rattle.std.proofs.Common.{◌≡◌, ℕ, List, [], ◌∷◌, Result, Ok, Err, subst, sym, refl}
use Rattle.prefq_c.specs.Each.{DoesEach}
use Rattle.prefq_c.specs.declared.fault.Fault.{Fault}
use Rattle.prefq_c.specs.declared.table.Table.{Table}

-- whatever comes of those that are left comes of all of them
pub record GoesOn {A : Type 0} (Does : A → Table → Result ℕ Fault → Table → Type 0) (next : ℕ → ℕ → ℕ) (first : ℕ) (all : List A) (begun : Table) (number : ℕ) (left : List A) (now : Table) : Type 0 where
  pub whole : (result : Result ℕ Fault) (after : Table) → DoesEach Does next number left now result after → DoesEach Does next first all begun result after

-- none is done yet
pub none_yet : {A : Type 0} (Does : A → Table → Result ℕ Fault → Table → Type 0) (next : ℕ → ℕ → ℕ) (first : ℕ) (all : List A) (begun : Table) → GoesOn Does next first all begun first all begun
none_yet Does next first all begun = record { whole = λ result after done. done }

-- one more is done
pub one_more : {A : Type 0} (Does : A → Table → Result ℕ Fault → Table → Type 0) (next : ℕ → ℕ → ℕ) (first : ℕ) (all : List A) (begun : Table) (number its : ℕ) (one : A) (left more : List A) (now mid : Table)
    → GoesOn Does next first all begun number left now → left ≡ one ∷ more → Does one now (Ok its) mid → GoesOn Does next first all begun (next number its) more mid
one_more Does next first all begun number its one left more now mid before is does =
    record { whole = λ result after done. before.whole result after (subst (λ rest. DoesEach Does next number rest now result after) (sym is) (mid, Ok its, does, done)) }

-- or it is refused
pub one_refused : {A : Type 0} (Does : A → Table → Result ℕ Fault → Table → Type 0) (next : ℕ → ℕ → ℕ) (first : ℕ) (all : List A) (begun : Table) (number : ℕ) (why : Fault) (one : A) (left more : List A) (now mid : Table)
    → GoesOn Does next first all begun number left now → left ≡ one ∷ more → Does one now (Err why) mid → DoesEach Does next first all begun (Err why) mid
one_refused Does next first all begun number why one left more now mid before is does =
    before.whole (Err why) mid (subst (λ rest. DoesEach Does next number rest now (Err why) mid) (sym is) (mid, Err why, does, (refl, refl)))

-- or all are done
pub all_done : {A : Type 0} (Does : A → Table → Result ℕ Fault → Table → Type 0) (next : ℕ → ℕ → ℕ) (first : ℕ) (all : List A) (begun : Table) (number : ℕ) (left : List A) (now : Table)
    → GoesOn Does next first all begun number left now → left ≡ [] → DoesEach Does next first all begun (Ok number) now
all_done Does next first all begun number left now before is = before.whole (Ok number) now (subst (λ rest. DoesEach Does next number rest now (Ok number) now) (sym is) (refl, refl))
