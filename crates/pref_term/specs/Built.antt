-- Why parts make no question. (this project; the limits are those of the question texts)
use Rattle.std.specs.Prelude.{◌≡◌, ◌⊎◌, ℕ, ℤ, List, [], ◌∷◌, Bool, true, false, not, int_lt, nat_le, Option, Some, None}
use Rattle.std.specs.Option.{option_or}
use Rattle.pref_term.specs.Preference.{Base, one_of, Preference, scored, pareto, prior, reverse, between, layered}
use Rattle.pref_term.specs.Columns.{column}
use Rattle.pref_term.specs.Question.{Question, IsAsk, IsSkyline, cut_of, is_count}
use Rattle.pref_term.specs.declared.ask.Mode.{Mode}
use Rattle.pref_term.specs.declared.fault.AskFault.{AskFault}
use Rattle.pref_term.specs.declared.fault.AskFault.TheVariants.{ColumnRange, EmptyRange, EmptySet, NoSets, BadCount, NotSkyline, OutOfMemory}

-- this fault, where this is so
abbrev pub fault_if : Bool → AskFault → Option AskFault
fault_if false f = None
fault_if true f = Some f

-- the first fault of the elements of a list
abbrev pub first_among : {X : Type 0} → (X → Option AskFault) → List X → Option AskFault
first_among fault [] = None
first_among fault (x ∷ xs) = option_or (fault x) (first_among fault xs)

-- the fault of a column
abbrev pub column_fault : ℕ → Option AskFault
column_fault col = fault_if (nat_le 16 col) (ColumnRange col)

-- the fault of a set of numbers of this column
abbrev pub set_fault : ℕ → List ℤ → Option AskFault
set_fault col [] = Some (EmptySet col)
set_fault col (number ∷ numbers) = None

-- the fault of layers of this column
abbrev pub layers_fault : ℕ → List (List ℤ) → Option AskFault
layers_fault col [] = Some (NoSets col)
layers_fault col (set ∷ sets) = first_among (set_fault col) (set ∷ sets)

-- the fault of a base term beside its column
abbrev pub score_fault : Base → Option AskFault
score_fault (between col left right) = fault_if (int_lt right left) (EmptyRange col)
score_fault (one_of col set) = set_fault col set
score_fault (layered col sets) = layers_fault col sets
score_fault _ = None

-- the first fault of a preference, from left to right
abbrev pub term_fault : Preference → Option AskFault
term_fault (scored b) = option_or (column_fault (column b)) (score_fault b)
term_fault (pareto p q) = option_or (term_fault p) (term_fault q)
term_fault (prior p q) = option_or (term_fault p) (term_fault q)
term_fault (reverse p) = term_fault p

-- the fault of how many are wanted
abbrev pub count_fault : ℕ → Option AskFault
count_fault count = fault_if (not (is_count count)) (BadCount count)

-- the first fault of parts: of the preference, else of the group, else of how many are wanted
abbrev pub first_fault : Preference → List ℕ → Mode → Option AskFault
first_fault p group mode = option_or (term_fault p) (option_or (first_among column_fault group) (count_fault (cut_of mode)))

-- refused for the first fault; where there is none, since no skyline clause means the term, else since memory ran out
abbrev pub IsRefusedFor : Question → Option AskFault → AskFault → Type 0
IsRefusedFor q (Some first) fault = fault ≡ first
IsRefusedFor q None fault = ((fault ≡ NotSkyline) × (q.distinct ≡ true) × (IsSkyline q → ⊥)) ⊎ ((fault ≡ OutOfMemory) × IsAsk q)

-- the parts make no question, and this is why
abbrev pub IsRefused : Question → AskFault → Type 0
IsRefused q fault = IsRefusedFor q (first_fault q.preference q.group q.mode) fault
