-- No public contract cites this.
-- How the steps of a level in a sweep stand to an entry, as far as searches by halves tell, and where one more is put.
use Rattle.std.specs.Prelude.{◌≡◌, ◌<◌, ◌≤◌, ◌-◌, ◌++◌, ◌∷◌, get_or, Bool, not, ◌&&◌, true, false, ℕ, List, drop, length, take}
use Rattle.pref_sky.specs.Items.{entry_at}
use Rattle.pref_sky.specs.Members.{Among}
use Rattle.pref_sky.specs.declared.entry.Entry.{Entry}
use Rattle.pref_sky.specs.declared.level.Counted.{Counted}
use Rattle.pref_sky.specs.declared.level.Counted.TheVariants.{Better, NoWorse}

-- the entry of a step
abbrev pub step_at : List Entry → List ℕ → ℕ → Entry
step_at all steps k = entry_at all (get_or steps k 0)

-- an entry is no worse than another in the second and in the third chain
abbrev pub covers : (Entry → Entry → Bool) → (Entry → Entry → Bool) → Entry → Entry → Bool
covers second third a b = not (second b a) && not (third b a)

-- a place of an entry that is no worse than another in the second chain, and no better in the third
abbrev pub stands_before : (Entry → Entry → Bool) → (Entry → Entry → Bool) → List Entry → ℕ → ℕ → Bool
stands_before second third all p q = not (second (entry_at all q) (entry_at all p)) && not (third (entry_at all p) (entry_at all q))

-- a step is no worse than an entry in both chains
abbrev pub IsCovered : (Entry → Entry → Bool) → (Entry → Entry → Bool) → List Entry → List ℕ → Entry → Type 0
IsCovered second third all steps e = (p : ℕ) × Among p steps × (covers second third (entry_at all p) e ≡ true)

-- a step is better than an entry in the second chain, or no worse
abbrev pub is_counted : (Entry → Entry → Bool) → List Entry → Entry → Counted → ℕ → Bool
is_counted second all e Better p = second (entry_at all p) e
is_counted second all e NoWorse p = not (second e (entry_at all p))

-- so many steps pass a test, as far as the last of them and the next one tell
pub record IsCut (passes : ℕ → Bool) (steps : List ℕ) (count : ℕ) : Type 0 where
  pub within : count ≤ length steps
  pub last : 0 < count → passes (get_or steps (count - 1) 0) ≡ true
  pub next : count < length steps → passes (get_or steps count 0) ≡ false

-- the answer whether a step is over the entry: where it is true one is, and where it is false the last one that is no worse is not
pub record IsAsked (over second : Entry → Entry → Bool) (all : List Entry) (steps : List ℕ) (e : Entry) (answer : Bool) : Type 0 where
  pub found : answer ≡ true → (k : ℕ) × (k < length steps) × (over (step_at all steps k) e ≡ true)
  pub none : answer ≡ false → (count : ℕ) × IsCut (is_counted second all e NoWorse) steps count × (0 < count → over (step_at all steps (count - 1)) e ≡ false)

-- from a place up to another none is better than it in the third chain, and the next one is
pub record AreNoBetter (third : Entry → Entry → Bool) (all : List Entry) (steps : List ℕ) (e : Entry) (from to : ℕ) : Type 0 where
  pub from_to : from ≤ to
  pub within : to ≤ length steps
  pub skipped : (k : ℕ) → from ≤ k → k < to → third (step_at all steps k) e ≡ false
  pub next : to < length steps → third (step_at all steps to) e ≡ true

-- a place is put behind those that are better in the second chain, and the next ones go that are no better in the third
pub record IsStepPut (second third : Entry → Entry → Bool) (all : List Entry) (old : List ℕ) (place : ℕ) (new : List ℕ) : Type 0 where
  pub from : ℕ
  pub to : ℕ
  pub better : IsCut (is_counted second all (entry_at all place) Better) old from
  pub taken_out : AreNoBetter third all old (entry_at all place) from to
  pub is : new ≡ take from old ++ place ∷ drop to old
