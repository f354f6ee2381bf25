-- Which ask a text spells, and what is wrong with a text that spells none. (this project)
use Rattle.std.specs.Prelude.{◌≡◌, ◌≤◌, ◌<◌, ℕ, ℤ, List, [], ◌∷◌, ◌++◌, map, length, Bool, true, false, Option, Some, None, unwrap_or, nat_lt, int_lt, is_none, fold, if◌then◌else◌, ◌⊎◌}
use Rattle.std.specs.List.{AllByRecursion, flat_map}
use Rattle.std.specs.Option.{option_map}
use Rattle.std.specs.Str.Parse.{digits_value}
use Rattle.pref_table.specs.Columns.{column_of}
use Rattle.pref_table.specs.Number.{fits_cell, signed_by}
use Rattle.pref_term.specs.Token.{Token, Placed, tokens_of}
use Rattle.pref_term.specs.Distinct.{plain, says_distinct}
use Rattle.pref_term.specs.Grammar.{NumberText, BaseText, low_text, high_text, around_text, pos_text, HeadText, best_head, top_level_head, at_least_head, Direction, minimal, maximal, different, DimText, AskText, rated, skyline, IsText, PriorText, one_product, then_product, ProductText, one_factor, then_factor, UnaryText, negated, grouped, reversed, based, Leaf, name, mark, opens, column_name, number_digits, count_digits, cased, last, token_of, ask_leaves, between_text, SetText, layered_text}
use Rattle.pref_term.specs.Preference.{Base, low, high, around, one_of, Preference, scored, pareto, prior, reverse, between, layered}
use Rattle.pref_term.specs.Question.{Question, is_count}
use Rattle.pref_term.specs.declared.ask.Mode.{Mode}
use Rattle.pref_term.specs.declared.ask.Mode.TheVariants.{Best, TopLevel, AtLeast}
use Rattle.pref_term.specs.declared.fault.TermFault.{TermFault}
use Rattle.pref_term.specs.declared.fault.TermFault.TheVariants.{Unexpected, UnknownColumn, NumberRange, EmptyRange, TooDeep, TooLong, BadCount, NoMinOrMax, OutOfMemory}

-- the column names of a schema
abbrev pub Names : Type 0
Names = List (List ℕ)

-- ---- what a tree means, where its leaves have no fault

-- the number of digits with a sign
abbrev pub signed_value : Bool → List ℕ → ℤ
signed_value negative ds = signed_by negative (digits_value 10 ds)

-- the value of a number
abbrev pub number_value : NumberText → ℤ
number_value n = signed_value n.negative n.digits

-- the values of a set
abbrev pub set_value : SetText → List ℤ
set_value s = number_value s.first ∷ map number_value s.others

-- the column of this name
abbrev pub column_at : Names → List ℕ → ℕ
column_at names letters = unwrap_or (column_of names letters) 0

-- the base term that a text means
abbrev pub base_meaning : Names → BaseText → Base
base_meaning names (low_text column) = low (column_at names column)
base_meaning names (high_text column) = high (column_at names column)
base_meaning names (around_text column centre) = around (column_at names column) (number_value centre)
base_meaning names (between_text column lower upper) = between (column_at names column) (number_value lower) (number_value upper)
base_meaning names (pos_text column first others) = one_of (column_at names column) (number_value first ∷ map number_value others)
base_meaning names (layered_text column first others) = layered (column_at names column) (set_value first ∷ map set_value others)

abbrev mutual
  pub prior_meaning : PriorText → Names → Preference
  prior_meaning (one_product p) names = product_meaning p names
  prior_meaning (then_product r p) names = prior (prior_meaning r names) (product_meaning p names)

  pub product_meaning : ProductText → Names → Preference
  product_meaning (one_factor u) names = unary_meaning u names
  product_meaning (then_factor p u) names = pareto (product_meaning p names) (unary_meaning u names)

  pub unary_meaning : UnaryText → Names → Preference
  unary_meaning (negated u) names = reverse (unary_meaning u names)
  unary_meaning (grouped r) names = prior_meaning r names
  unary_meaning (reversed r) names = reverse (prior_meaning r names)
  unary_meaning (based b) names = scored (base_meaning names b)

-- how many a head asks for
abbrev pub mode_of : HeadText → Mode
mode_of best_head = Best
mode_of (top_level_head count) = TopLevel (digits_value 10 count)
mode_of (at_least_head count) = AtLeast (digits_value 10 count)

-- the order by a column of a skyline clause: low where it says min, high where it says max
abbrev pub order_by : Direction → ℕ → List Preference
order_by minimal col = scored (low col) ∷ []
order_by maximal col = scored (high col) ∷ []
order_by different col = []

-- the column that a skyline clause groups by, where it says diff
abbrev pub group_by : Direction → ℕ → List ℕ
group_by minimal col = []
group_by maximal col = []
group_by different col = col ∷ []

-- the orders of a skyline clause's columns, from left to right
abbrev pub orders_of : Names → List DimText → List Preference
orders_of names ds = flat_map (λ d. order_by d.direction (column_at names d.column)) ds

-- the columns that a skyline clause groups by
abbrev pub groups_of : Names → List DimText → List ℕ
groups_of names ds = flat_map (λ d. group_by d.direction (column_at names d.column)) ds

-- the left-grouped product; none has one
abbrev pub product_of : List Preference → Option Preference
product_of [] = None
product_of (p ∷ ps) = Some (fold pareto p ps)

-- what a text asks, where of equal rows one is kept in a skyline clause or all are; a clause with DIFF columns alone asks nothing
abbrev pub question : Names → (distinct : Bool) → AskText → Option Question
question names distinct (rated head r group) = Some (record { preference = prior_meaning r names; group = map (column_at names) group; mode = mode_of head; distinct = false })
question names distinct (skyline s o first others) =
    option_map (λ p. record { preference = p; group = groups_of names (first ∷ others); mode = Best; distinct = distinct }) (product_of (orders_of names (first ∷ others)))

-- ---- a token's own fault

-- what can be wrong with a token that the grammar allows
pub data OwnFault : Type 0 where
  unknown_column : OwnFault
  number_range : OwnFault
  empty_range : OwnFault
  too_deep : OwnFault
  bad_count : OwnFault

-- what is wrong with a number beside its range: it is less than it may be
abbrev pub below : Option NumberText → ℤ → Option OwnFault
below None value = None
below (Some least) value = if int_lt value (number_value least) then Some empty_range else None

-- a leaf's own fault
abbrev pub own_fault : Names → Leaf → Option OwnFault
own_fault names (name k) = None
own_fault names (mark s) = None
own_fault names (opens depth s) = if nat_lt depth 64 then None else Some too_deep
own_fault names (column_name letters) = if is_none (column_of names letters) then Some unknown_column else None
own_fault names (number_digits least negative ds) = if fits_cell (signed_value negative ds) then below least (signed_value negative ds) else Some number_range
own_fault names (count_digits ds) = if is_count (digits_value 10 ds) then None else Some bad_count
own_fault names (cased k letters) = None
own_fault names last = None

-- a leaf with no fault of its own
abbrev pub IsGood : Names → Leaf → Type 0
IsGood names leaf = own_fault names leaf ≡ None

-- where it is reported: a number at its first token
abbrev pub reported_at : Leaf → (before place : ℕ) → ℕ
reported_at (number_digits least true ds) before place = before
reported_at _ before place = place

-- the fault that is reported of it
abbrev pub reported : OwnFault → ℕ → TermFault
reported unknown_column at = UnknownColumn at
reported number_range at = NumberRange at
reported empty_range at = EmptyRange at
reported too_deep at = TooDeep at
reported bad_count at = BadCount at

-- ---- which ask a text spells

-- the tokens, without their places
abbrev pub tokens_in : List Placed → List Token
tokens_in ts = map (λ t. t.token) ts

-- the tokens that leaves are
abbrev pub tokens_on : List Leaf → List Token
tokens_on leaves = map token_of leaves

-- the text has the tokens of a tree of the grammar, none with a fault, and perhaps the word `distinct`; the tree asks q
pub record Spells (names : Names) (text : List ℕ) (q : Question) : Type 0 where
  pub tree : AskText
  pub written : IsText tree
  pub short : length text ≤ 4096
  pub tokens : tokens_in (plain (tokens_of text)) ≡ tokens_on (ask_leaves tree)
  pub good : AllByRecursion (IsGood names) (ask_leaves tree)
  pub meaning : question names (says_distinct (tokens_of text)) tree ≡ Some q

-- ---- what is wrong with a text

-- a text of the grammar begins with these leaves
pub record Starts (leaves : List Leaf) : Type 0 where
  pub tree : AskText
  pub written : IsText tree
  pub rest : List Leaf
  pub whole : ask_leaves tree ≡ leaves ++ rest

-- the place of the last token, or what came before where there is none
abbrev pub last_place : (before : ℕ) → List Placed → ℕ
last_place before [] = before
last_place before (t ∷ ts) = last_place t.place ts

-- the token can't follow the tokens before it in any text of the grammar
pub record IsUnexpected (before : List Placed) (at : Placed) (fault : TermFault) : Type 0 where
  pub fault_is : fault ≡ Unexpected at.place
  pub stuck : (leaves : List Leaf) → Starts leaves → tokens_on leaves ≡ tokens_in before ++ at.token ∷ [] → ⊥

-- the token goes on with the leaves, and has a fault of its own
pub record HasOwnFault (names : Names) (before : List Placed) (leaves : List Leaf) (at : Placed) (fault : TermFault) : Type 0 where
  pub leaf : Leaf
  pub start : Starts (leaves ++ leaf ∷ [])
  pub played : token_of leaf ≡ at.token
  pub kind : OwnFault
  pub own : own_fault names leaf ≡ Some kind
  pub fault_is : fault ≡ reported kind (reported_at leaf (last_place 0 before) at.place)

-- the first token with a fault: those before it begin a text of the grammar, and have none
pub record FirstFault (names : Names) (tokens : List Placed) (fault : TermFault) : Type 0 where
  pub before : List Placed
  pub at : Placed
  pub after : List Placed
  pub cut : tokens ≡ before ++ at ∷ after
  pub leaves : List Leaf
  pub start : Starts leaves
  pub played : tokens_on leaves ≡ tokens_in before
  pub good : AllByRecursion (IsGood names) leaves
  pub there : IsUnexpected before at fault ⊎ HasOwnFault names before leaves at fault

-- a skyline clause with no fault of a token, and DIFF columns alone
pub record LacksOrder (names : Names) (tokens : List Placed) : Type 0 where
  pub tree : AskText
  pub written : IsText tree
  pub played : tokens_in tokens ≡ tokens_on (ask_leaves tree)
  pub good : AllByRecursion (IsGood names) (ask_leaves tree)
  pub none : question names false tree ≡ None

-- what is wrong with a text, the word `distinct` left out where it is one of the clause
abbrev pub Faults : Names → List ℕ → TermFault → Type 0
Faults names text fault =
    ((4096 < length text) × (fault ≡ TooLong))
    ⊎ ((length text ≤ 4096) × (FirstFault names (plain (tokens_of text)) fault ⊎ (LacksOrder names (plain (tokens_of text)) × (fault ≡ NoMinOrMax))))

-- that, unless the fault is out of memory
abbrev pub UnlessMemory : TermFault → Type 0 → Type 0
UnlessMemory OutOfMemory P = Unit {0}
UnlessMemory _ P = P
