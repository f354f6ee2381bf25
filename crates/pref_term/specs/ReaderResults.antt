-- No public contract cites this.
-- What each part of the reader promises: where reading comes to, or the fault that it reports. (this project)
use Rattle.std.specs.Prelude.{◌≡◌, ◌≢◌, ◌<◌, ℕ, ℤ, List, [], ◌∷◌, length, All, FitsSigned, IfSome, Bool, true, map, Ok, Err, Option, Some, None, Result, MatchResult}
use Rattle.std.specs.Int.{w64}
use Rattle.std.specs.Str.Parse.{digits_value}
use Rattle.pref_table.specs.Columns.{column_of}
use Rattle.pref_term.specs.Token.{left, right, comma, star, ampersand, Token, word, digits, sign, Placed, Sign}
use Rattle.pref_term.specs.Grammar.{mark, based, grouped, reversed, NumberText, BaseText, UnaryText, ProductText, PriorText, HeadText, DimText, Direction, minimal, maximal, different, direction_word, cased_of, of_word, rated, skyline, column_name, layered_text, SetText}
use Rattle.pref_term.specs.Spells.{Names, UnlessMemory, number_value, column_at, base_meaning, unary_meaning, product_meaning, prior_meaning, product_of, orders_of, groups_of, below, empty_range, set_value}
use Rattle.pref_term.specs.Reading.{BaseKind, low_kind, high_kind, BaseStep, after_column, named, NumberHole, next_of, number_due, filled, UnaryHole, ProductHole, PriorHole, whole, first_factor, first_product, unary_depth, product_depth, prior_depth, State, start, operand, reverse_named, reading, after, group_due, skyline_named, dim_due, dim_named, completed, ranked, next, run, least_of, stepped, NumberList, closing, list_closed, set_due, with_next, dims_listed, CountKind, count_due}
use Rattle.pref_term.specs.Asked.{meant}
use Rattle.pref_term.specs.Distinct.{plain, says_distinct}
use Rattle.pref_term.specs.Ahead.{ahead}
use Rattle.pref_term.specs.Preference.{Base, low, high, Preference, preference_of, scored, pareto, prior, reverse}
use Rattle.pref_term.specs.Columns.{column}
use Rattle.pref_term.specs.Writable.{IsWritableSet, IsWritableBase}
use Rattle.pref_term.specs.Question.{Question, is_count}
use Rattle.pref_term.specs.declared.cursor.Cursor.{Cursor}
use Rattle.pref_term.specs.declared.fault.TermFault.{TermFault}
use Rattle.pref_term.specs.declared.fault.TermFault.TheVariants.{Unexpected, EmptyRange}
use Rattle.pref_term.specs.declared.term.Term.{Term}

-- with these tokens ahead, reading comes from the one state to the other, with those ahead
abbrev pub Goes : Names → State → List Placed → State → List Placed → Type 0
Goes names s ts m us = (p : ℕ) → (q : ℕ) × (run names ts p s ≡ run names us q m)

-- reading reports the fault, unless memory ran out
abbrev pub Fails : Names → State → List Placed → TermFault → Type 0
Fails names s ts f = UnlessMemory f ((p : ℕ) → run names ts p s ≡ Err f)

-- the first token isn't this one, and the fault is reported at it
abbrev pub IsOther : Token → List Placed → TermFault → Type 0
IsOther t [] f = ⊥
IsOther t (u ∷ us) f = (u.token ≢ t) × (f ≡ Unexpected u.place)

-- this token is in front
abbrev pub Passes : Token → List Placed → List Placed → Type 0
Passes t ts us = (at : ℕ) × (ts ≡ record { token = t; place = at } ∷ us)

-- the first token is another
abbrev pub NotNext : Token → List Placed → Type 0
NotNext t [] = Unit {0}
NotNext t (u ∷ us) = u.token ≢ t

-- the token is no word
abbrev pub IsNoWord : Token → Type 0
IsNoWord (word letters) = ⊥
IsNoWord _ = Unit {0}

-- the first token is no word, and the fault is reported at it
abbrev pub LacksWord : List Placed → TermFault → Type 0
LacksWord [] f = ⊥
LacksWord (u ∷ us) f = IsNoWord u.token × (f ≡ Unexpected u.place)

-- a word in front
abbrev pub word_ahead : List ℕ → ℕ → List Placed → List Placed
word_ahead letters at us = record { token = word letters; place = at } ∷ us

-- a column of the table
abbrev pub IsKnown : Names → ℕ → Type 0
IsKnown names col = (col < 16) × (col < length names)

-- a preference over the table's columns that a text can write
abbrev pub IsBaseOf : Names → Base → Type 0
IsBaseOf names b = IsKnown names (column b) × IsWritableBase b

abbrev pub IsTermOf : Names → Preference → Type 0
IsTermOf names (scored b) = IsBaseOf names b
IsTermOf names (pareto p q) = IsTermOf names p × IsTermOf names q
IsTermOf names (prior p q) = IsTermOf names p × IsTermOf names q
IsTermOf names (reverse p) = IsTermOf names p

-- these letters name the column
pub record IsColumn (names : Names) (letters : List ℕ) (col : ℕ) : Type 0 where
  pub place : column_of names letters ≡ Some col
  pub known : IsKnown names col

-- a column is due in the state, and leads on
pub record WantsColumn (s : State) (behind : List ℕ → State) : Type 0 where
  pub takes : (letters : List ℕ) → next s (word letters) ≡ Some (column_name letters, behind letters)
  pub only : (t : Token) → IsNoWord t → next s t ≡ None

-- a column in front
pub record TakesColumn (names : Names) (ts : List Placed) (col : ℕ) (us : List Placed) : Type 0 where
  pub letters : List ℕ
  pub found : IsColumn names letters col
  pub passes : Passes (word letters) ts us

pub record FailsColumn (names : Names) (ts : List Placed) (f : TermFault) : Type 0 where
  pub fails : (s : State) (behind : List ℕ → State) → WantsColumn s behind → Fails names s ts f

-- the sign behind the column of a base term
abbrev pub behind_column : BaseKind → Sign
behind_column low_kind = right
behind_column high_kind = right
behind_column _ = comma

-- a column behind the word of a base term and its parenthesis, and the sign behind it
pub record ReadsOpened (names : Names) (behind : Sign) (ts : List Placed) (col : ℕ) (us : List Placed) : Type 0 where
  pub letters : List ℕ
  pub found : IsColumn names letters col
  pub goes : (h : UnaryHole) (k : BaseKind) (step : BaseStep) → after_column k letters behind ≡ Some (mark behind, step) → Goes names (reading h (named k)) ts (stepped h step) us

-- a tree is read in front: what it means, that this fits, and where it leads
pub record ReadsTree {T A : Type 0} (means : T → A) (Fits : A → Type 0) (Leads : T → List Placed → List Placed → Type 0) (ts : List Placed) (value : A) (us : List Placed) : Type 0 where
  pub tree : T
  pub meaning : means tree ≡ value
  pub fits : Fits value
  pub goes : Leads tree ts us

-- the place of the first token
abbrev pub first_place : List Placed → ℕ
first_place [] = 0
first_place (t ∷ ts) = t.place

pub record ReadsNumber (ts : List Placed) (value : ℤ) (us : List Placed) : Type 0 where
  pub number : NumberText
  pub fits : FitsSigned w64 value
  pub value_is : number_value number ≡ value
  pub goes : (names : Names) (h : UnaryHole) (hole : NumberHole) → below (least_of hole) (number_value number) ≡ None → Goes names (reading h (number_due hole)) ts (reading h (filled hole number)) us
  pub refused : (names : Names) (h : UnaryHole) (hole : NumberHole) → below (least_of hole) (number_value number) ≡ Some empty_range → Fails names (reading h (number_due hole)) ts (EmptyRange (first_place ts))

-- some numbers of a list, behind which one more is due
abbrev pub ReadsSome : Sign → List Placed → List ℤ → List Placed → Type 0
ReadsSome close = ReadsTree (map number_value) (All (FitsSigned w64)) (λ some ts us. (names : Names) (h : UnaryHole) (l : NumberList) → closing l ≡ close → Goes names (reading h (number_due (next_of l []))) ts (reading h (number_due (next_of l some))) us)

-- the numbers of a list, and the sign that closes it
abbrev pub ReadsNumbers : Sign → List Placed → List ℤ → List Placed → Type 0
ReadsNumbers close = ReadsTree set_value (All (FitsSigned w64)) (λ set ts us. (names : Names) (h : UnaryHole) (l : NumberList) → closing l ≡ close → Goes names (reading h (number_due (next_of l []))) ts (stepped h (list_closed l set.first set.others)) us)

pub record FailsOpened (names : Names) (behind : Sign) (ts : List Placed) (f : TermFault) : Type 0 where
  pub fails : (h : UnaryHole) (k : BaseKind) → behind_column k ≡ behind → Fails names (reading h (named k)) ts f

pub record FailsNumber (ts : List Placed) (f : TermFault) : Type 0 where
  pub fails : (names : Names) (h : UnaryHole) (hole : NumberHole) → Fails names (reading h (number_due hole)) ts f

pub record FailsNumbers (close : Sign) (ts : List Placed) (f : TermFault) : Type 0 where
  pub fails : (names : Names) (h : UnaryHole) (l : NumberList) → closing l ≡ close → Fails names (reading h (number_due (next_of l []))) ts f

-- some sets of `layered`, behind which one more is due
abbrev pub ReadsSomeSets : List Placed → List (List ℤ) → List Placed → Type 0
ReadsSomeSets = ReadsTree (map set_value) (All IsWritableSet) (λ some ts us. (names : Names) (h : UnaryHole) (column : List ℕ) → Goes names (reading h (set_due column [])) ts (reading h (set_due column some)) us)

-- the sets of `layered`, and the parenthesis behind them
abbrev pub ReadsSets : List Placed → List (List ℤ) → List Placed → Type 0
ReadsSets = ReadsTree (λ sets. set_value sets.0 ∷ map set_value sets.1) (All IsWritableSet) (λ (sets : SetText × List SetText) ts us. (names : Names) (h : UnaryHole) (column : List ℕ) → Goes names (reading h (set_due column [])) ts (completed h (based (layered_text column sets.0 sets.1))) us)

pub record FailsSets (ts : List Placed) (f : TermFault) : Type 0 where
  pub fails : (names : Names) (h : UnaryHole) (column : List ℕ) → Fails names (reading h (set_due column [])) ts f

-- a term that is read so in front, or the fault
abbrev pub Parses : (Preference → List Placed → Type 0) → (TermFault → Type 0) → Result (Term × Cursor) TermFault → Type 0
Parses reads fails r = MatchResult r (λ x. reads (preference_of x.0) (ahead x.1)) fails

-- a base term behind its word
pub record ReadsBase (names : Names) (k : BaseKind) (ts : List Placed) (p : Preference) (us : List Placed) : Type 0 where
  pub tree : BaseText
  pub meaning : scored (base_meaning names tree) ≡ p
  pub known : IsTermOf names p
  pub goes : (h : UnaryHole) → Goes names (reading h (named k)) ts (completed h (based tree)) us

pub record ReadsUnary (names : Names) (depth : ℕ) (ts : List Placed) (p : Preference) (us : List Placed) : Type 0 where
  pub tree : UnaryText
  pub meaning : unary_meaning tree names ≡ p
  pub known : IsTermOf names p
  pub goes : (h : UnaryHole) → unary_depth h ≡ depth → Goes names (operand h) ts (completed h tree) us

-- one or more factors
pub record ReadsFactors (names : Names) (depth : ℕ) (ts : List Placed) (p : Preference) (us : List Placed) : Type 0 where
  pub tree : ProductText
  pub meaning : product_meaning tree names ≡ p
  pub known : IsTermOf names p
  pub goes : (h : ProductHole) → product_depth h ≡ depth → Goes names (operand (first_factor h)) ts (after h tree) us

-- one or more products
pub record ReadsProducts (names : Names) (depth : ℕ) (ts : List Placed) (p : Preference) (us : List Placed) : Type 0 where
  pub tree : PriorText
  pub meaning : prior_meaning tree names ≡ p
  pub known : IsTermOf names p
  pub goes : (h : PriorHole) → prior_depth h ≡ depth → Goes names (operand (first_factor (first_product h))) ts (ranked h tree) us

-- factors, behind which no further one follows
pub record ReadsProduct (names : Names) (depth : ℕ) (ts : List Placed) (p : Preference) (us : List Placed) : Type 0 where
  pub factors : ReadsFactors names depth ts p us
  pub stops : NotNext (sign star) us

pub record ReadsPrior (names : Names) (depth : ℕ) (ts : List Placed) (p : Preference) (us : List Placed) : Type 0 where
  pub products : ReadsProducts names depth ts p us
  pub stops : NotNext (sign star) us
  pub stops_too : NotNext (sign ampersand) us

-- a prior in its parentheses, alone or behind `reverse`
pub record ReadsGroup (names : Names) (depth : ℕ) (ts : List Placed) (p : Preference) (us : List Placed) : Type 0 where
  pub tree : PriorText
  pub meaning : prior_meaning tree names ≡ p
  pub known : IsTermOf names p
  pub goes : (h : UnaryHole) → unary_depth h ≡ depth → Goes names (operand h) ts (completed h (grouped tree)) us
  pub goes_reversed : (h : UnaryHole) → unary_depth h ≡ depth → Goes names (reverse_named h) ts (completed h (reversed tree)) us

pub record FailsBase (names : Names) (k : BaseKind) (ts : List Placed) (f : TermFault) : Type 0 where
  pub fails : (h : UnaryHole) → Fails names (reading h (named k)) ts f

pub record FailsUnary (names : Names) (depth : ℕ) (ts : List Placed) (f : TermFault) : Type 0 where
  pub fails : (h : UnaryHole) → unary_depth h ≡ depth → Fails names (operand h) ts f

-- its fault; alone it begins with a parenthesis
pub record FailsGroup (names : Names) (depth : ℕ) (ts : List Placed) (f : TermFault) : Type 0 where
  pub alone : (us : List Placed) → Passes (sign left) ts us → (h : UnaryHole) → unary_depth h ≡ depth → Fails names (operand h) ts f
  pub reversed : (h : UnaryHole) → unary_depth h ≡ depth → Fails names (reverse_named h) ts f

pub record FailsProduct (names : Names) (depth : ℕ) (ts : List Placed) (f : TermFault) : Type 0 where
  pub fails : (h : ProductHole) → product_depth h ≡ depth → Fails names (operand (first_factor h)) ts f

pub record FailsPrior (names : Names) (depth : ℕ) (ts : List Placed) (f : TermFault) : Type 0 where
  pub fails : (h : PriorHole) → prior_depth h ≡ depth → Fails names (operand (first_factor (first_product h))) ts f

-- ---- whole questions

-- the result is this one, unless memory ran out
abbrev pub Gives : Result Question TermFault → Result Question TermFault → Type 0
Gives x r = MatchResult r (λ q. x ≡ Ok q) (λ f. UnlessMemory f (x ≡ Err f))

-- reading from the state asks this, or reports this
pub record Asks (names : Names) (distinct : Bool) (s : State) (ts : List Placed) (r : Result Question TermFault) : Type 0 where
  pub asks : (p : ℕ) → Gives (meant names distinct (run names ts p s)) r

-- a count in front
pub record TakesCount (ts : List Placed) (k : ℕ) (us : List Placed) : Type 0 where
  pub digits_are : List ℕ
  pub value : digits_value 10 digits_are ≡ k
  pub good : is_count (digits_value 10 digits_are) ≡ true
  pub passes : Passes (digits digits_are) ts us

pub record FailsCount (ts : List Placed) (f : TermFault) : Type 0 where
  pub fails : (names : Names) (k : CountKind) → Fails names (count_due k) ts f

-- some columns of a group, behind which one more is due
abbrev pub ReadsSomeColumns : Names → List Placed → List ℕ → List Placed → Type 0
ReadsSomeColumns names = ReadsTree (map (column_at names)) (All (IsKnown names)) (λ some ts us. (head : HeadText) (r : PriorText) → Goes names (group_due head r []) ts (group_due head r some) us)

-- the columns of a group, and the end
abbrev pub ReadsColumns : Names → List Placed → List ℕ → Type 0
ReadsColumns names ts columns = ReadsTree (map (column_at names)) (All (IsKnown names)) (λ some ts _. (head : HeadText) (r : PriorText) (p : ℕ) → run names ts p (group_due head r []) ≡ Ok (rated head r some)) ts columns []

pub record FailsColumns (names : Names) (ts : List Placed) (f : TermFault) : Type 0 where
  pub fails : (head : HeadText) (r : PriorText) → Fails names (group_due head r []) ts f

-- the group of a question, which may have no column, and the end
abbrev pub ReadsGrouping : Names → List Placed → List ℕ → Type 0
ReadsGrouping names ts columns = ReadsTree (map (column_at names)) (All (IsKnown names)) (λ some ts _. (head : HeadText) (r : PriorText) (p : ℕ) → run names ts p (ranked (whole head) r) ≡ Ok (rated head r some)) ts columns []

pub record FailsGrouping (names : Names) (ts : List Placed) (f : TermFault) : Type 0 where
  pub fails : NotNext (sign star) ts → NotNext (sign ampersand) ts → (head : HeadText) (r : PriorText) → Fails names (ranked (whole head) r) ts f

-- what a skyline clause says of a column
pub record TakesDirection (ts : List Placed) (direction : Direction) (us : List Placed) : Type 0 where
  pub letters : List ℕ
  pub found : cased_of letters ≡ Some (direction_word direction)
  pub passes : Passes (word letters) ts us

pub record FailsDirection (ts : List Placed) (f : TermFault) : Type 0 where
  pub fails : (names : Names) (s o : List ℕ) (dims : List DimText) (column : List ℕ) → Fails names (dim_named s o dims column) ts f

-- a dimension of a skyline clause
pub record ReadsDim (names : Names) (ts : List Placed) (col : ℕ) (direction : Direction) (us : List Placed) : Type 0 where
  pub dim : DimText
  pub said : dim.direction ≡ direction
  pub found : IsColumn names dim.column col
  pub goes : (s o : List ℕ) (some : List DimText) → Goes names (dim_due s o some) ts (with_next (dims_listed s o) some dim) us

pub record FailsDim (names : Names) (ts : List Placed) (f : TermFault) : Type 0 where
  pub fails : (s o : List ℕ) (some : List DimText) → Fails names (dim_due s o some) ts f

-- one more order of a product, which has none at first
abbrev pub joined : Option Preference → Preference → Preference
joined None q = q
joined (Some p) q = pareto p q

abbrev pub with_order : Option Preference → Direction → ℕ → Option Preference
with_order p minimal col = Some (joined p (scored (low col)))
with_order p maximal col = Some (joined p (scored (high col)))
with_order p different col = p

-- the product and the group of some dimensions, behind which one more is due
pub record ReadsDims (names : Names) (ts : List Placed) (product : Option Preference) (group : List ℕ) (us : List Placed) : Type 0 where
  pub dims : List DimText
  pub product_is : product_of (orders_of names dims) ≡ product
  pub group_is : groups_of names dims ≡ group
  pub product_known : IfSome product (IsTermOf names)
  pub group_known : All (IsKnown names) group
  pub goes : (s o : List ℕ) → Goes names (dim_due s o []) ts (dim_due s o dims) us

-- all dimensions, and the end
pub record ReadsClause (names : Names) (ts : List Placed) (product : Option Preference) (group : List ℕ) : Type 0 where
  pub first : DimText
  pub others : List DimText
  pub product_is : product_of (orders_of names (first ∷ others)) ≡ product
  pub group_is : groups_of names (first ∷ others) ≡ group
  pub product_known : IfSome product (IsTermOf names)
  pub group_known : All (IsKnown names) group
  pub goes : (s o : List ℕ) (p : ℕ) → run names ts p (dim_due s o []) ≡ Ok (skyline s o first others)

pub record FailsClause (names : Names) (ts : List Placed) (f : TermFault) : Type 0 where
  pub fails : (s o : List ℕ) → Fails names (dim_due s o []) ts f

-- the word `of`
abbrev pub PassesOf : List Placed → List Placed → Type 0
PassesOf ts us = (letters : List ℕ) × (cased_of letters ≡ Some of_word) × Passes (word letters) ts us

pub record FailsOf (ts : List Placed) (f : TermFault) : Type 0 where
  pub fails : (names : Names) (s : List ℕ) → Fails names (skyline_named s) ts f

-- ---- with the word `distinct`, or without it

-- a whole question
abbrev pub AsksWhole : Names → List Placed → Result Question TermFault → Type 0
AsksWhole names ts r = Gives (meant names (says_distinct ts) (run names (plain ts) 0 start)) r

-- behind the word `distinct` of a clause: there reading is behind `of`
pub record IsBehindDistinct (ts us : List Placed) : Type 0 where
  pub said : says_distinct ts ≡ true
  pub skyline_is : List ℕ
  pub of_is : List ℕ
  pub place : ℕ
  pub leads : (names : Names) → run names (plain ts) 0 start ≡ run names us place (dim_due skyline_is of_is [])

-- a clause from its first column on, with the word or without it
pub record AsksClause (names : Names) (distinct : Bool) (ts : List Placed) (r : Result Question TermFault) : Type 0 where
  pub asks : (s o : List ℕ) → Asks names distinct (dim_due s o []) ts r
