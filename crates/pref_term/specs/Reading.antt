-- No public contract cites this but through `asked`, which a law ties to the grammar.
-- Reading a question text from the left, one token after another: what is still pending, and where a token leads. (this project)
use Rattle.std.specs.Prelude.{ℕ, ◌+◌, List, [], ◌∷◌, ◌++◌, true, false, Option, Some, None, Result, Ok, Err}
use Rattle.pref_term.specs.Token.{Sign, left, right, comma, star, ampersand, minus, left_brace, right_brace, Token, word, digits, sign, finish, Placed}
use Rattle.pref_term.specs.Grammar.{Keyword, best_word, low_word, high_word, around_word, pos_word, reverse_word, top_level_word, at_least_word, by_word, CasedWord, skyline_word, of_word, min_word, max_word, diff_word, keyword_of, cased_of, HeadText, best_head, top_level_head, at_least_head, head_leaves, minimal, maximal, different, DimText, dim_leaves, group_leaves, AskText, rated, skyline, NumberText, BaseText, low_text, high_text, around_text, pos_text, PriorText, one_product, then_product, ProductText, one_factor, then_factor, UnaryText, negated, grouped, reversed, based, Leaf, name, mark, opens, column_name, number_digits, count_digits, cased, last, number_leaves, prior_leaves, product_leaves, ask_leaves, between_word, between_text, end_leaves, layered_word, layered_text, SetText, set_leaves, after_commas, column_leaves}
use Rattle.pref_term.specs.Spells.{Names, own_fault, OwnFault, reported, reported_at}
use Rattle.pref_term.specs.declared.fault.TermFault.{TermFault}
use Rattle.pref_term.specs.declared.fault.TermFault.TheVariants.{Unexpected}

-- ---- a base term that isn't whole

pub data BaseKind : Type 0 where
  low_kind : BaseKind
  high_kind : BaseKind
  around_kind : BaseKind
  between_kind : BaseKind
  pos_kind : BaseKind
  layered_kind : BaseKind

abbrev pub kind_word : BaseKind → Keyword
kind_word low_kind = low_word
kind_word high_kind = high_word
kind_word around_kind = around_word
kind_word between_kind = between_word
kind_word pos_kind = pos_word
kind_word layered_kind = layered_word

-- a list of numbers: that of `pos`, or a set of `layered` behind some others
pub data NumberList : Type 0 where
  in_pos : (column : List ℕ) → NumberList
  in_set : (column : List ℕ) (sets : List SetText) → NumberList

-- the sign that closes it
abbrev pub closing : NumberList → Sign
closing (in_pos column) = right
closing (in_set column sets) = right_brace

-- where a number is missing
pub data NumberHole : Type 0 where
  centre_of : (column : List ℕ) → NumberHole
  -- the left end of a range, and its right end
  start_of : (column : List ℕ) → NumberHole
  end_of : (column : List ℕ) (lower : NumberText) → NumberHole
  -- in a list, behind these
  next_of : (l : NumberList) (some : List NumberText) → NumberHole

pub data BasePart : Type 0 where
  named : (k : BaseKind) → BasePart
  opened : (k : BaseKind) → BasePart
  columned : (k : BaseKind) (column : List ℕ) → BasePart
  number_due : (n : NumberHole) → BasePart
  number_signed : (n : NumberHole) → BasePart
  centred : (column : List ℕ) (centre : NumberText) → BasePart
  listed : (l : NumberList) (first : NumberText) (others : List NumberText) → BasePart
  -- a set of `layered` is due, behind these
  set_due : (column : List ℕ) (sets : List SetText) → BasePart
  sets_listed : (column : List ℕ) (first : SetText) (others : List SetText) → BasePart
  ranged : (column : List ℕ) (lower : NumberText) → BasePart
  range_ended : (column : List ℕ) (lower upper : NumberText) → BasePart

-- what comes before one more, behind these
abbrev pub before_next : {X : Type 0} → (X → List Leaf) → List X → List Leaf
before_next leaves [] = []
before_next leaves (first ∷ others) = leaves first ++ (after_commas leaves others ++ mark comma ∷ [])

-- the first of some and one more, and the others
abbrev pub with_next : {X S : Type 0} → (X → List X → S) → List X → X → S
with_next parts [] x = parts x []
with_next parts (first ∷ others) x = parts first (others ++ x ∷ [])

-- what comes before the first number of a list
abbrev pub before_list : NumberList → List Leaf
before_list (in_pos column) = name pos_word ∷ mark left ∷ column_name column ∷ mark comma ∷ []
before_list (in_set column sets) = name layered_word ∷ mark left ∷ column_name column ∷ mark comma ∷ before_next set_leaves sets ++ mark left_brace ∷ []

abbrev pub hole_leaves : NumberHole → List Leaf
hole_leaves (centre_of column) = name around_word ∷ mark left ∷ column_name column ∷ mark comma ∷ []
hole_leaves (start_of column) = name between_word ∷ mark left ∷ column_name column ∷ mark comma ∷ []
hole_leaves (end_of column lower) = name between_word ∷ mark left ∷ column_name column ∷ mark comma ∷ number_leaves lower ++ mark comma ∷ []
hole_leaves (next_of l some) = before_list l ++ before_next number_leaves some

-- the number that the missing one may not be less than
abbrev pub least_of : NumberHole → Option NumberText
least_of (end_of column lower) = Some lower
least_of _ = None

-- what was read of it
abbrev pub part_leaves : BasePart → List Leaf
part_leaves (named k) = name (kind_word k) ∷ []
part_leaves (opened k) = name (kind_word k) ∷ mark left ∷ []
part_leaves (columned k column) = name (kind_word k) ∷ mark left ∷ column_name column ∷ []
part_leaves (number_due n) = hole_leaves n
part_leaves (number_signed n) = hole_leaves n ++ mark minus ∷ []
part_leaves (centred column centre) =
    name around_word ∷ mark left ∷ column_name column ∷ mark comma ∷ number_leaves centre
part_leaves (ranged column lower) = name between_word ∷ mark left ∷ column_name column ∷ mark comma ∷ number_leaves lower
part_leaves (range_ended column lower upper) =
    name between_word ∷ mark left ∷ column_name column ∷ mark comma ∷ number_leaves lower ++ mark comma ∷ end_leaves lower upper
part_leaves (listed l first others) = before_list l ++ (number_leaves first ++ after_commas number_leaves others)
part_leaves (set_due column sets) = name layered_word ∷ mark left ∷ column_name column ∷ mark comma ∷ before_next set_leaves sets
part_leaves (sets_listed column first others) = name layered_word ∷ mark left ∷ column_name column ∷ mark comma ∷ set_leaves first ++ after_commas set_leaves others

pub data BaseStep : Type 0 where
  part : (b : BasePart) → BaseStep
  whole_base : (b : BaseText) → BaseStep

abbrev pub filled : NumberHole → NumberText → BasePart
filled (centre_of column) n = centred column n
filled (start_of column) n = ranged column n
filled (end_of column lower) n = range_ended column lower n
filled (next_of l some) n = with_next (listed l) some n

-- a list of numbers is whole
abbrev pub list_closed : NumberList → NumberText → List NumberText → BaseStep
list_closed (in_pos column) first others = whole_base (pos_text column first others)
list_closed (in_set column sets) first others = part (with_next (sets_listed column) sets (record { first = first; others = others }))

-- the sign behind a number of a list, other than a comma
abbrev pub behind_listed : NumberList → NumberText → List NumberText → Sign → Option (Leaf × BaseStep)
behind_listed (in_pos column) first others right = Some (mark right, list_closed (in_pos column) first others)
behind_listed (in_set column sets) first others right_brace = Some (mark right_brace, list_closed (in_set column sets) first others)
behind_listed _ _ _ _ = None

abbrev pub after_column : BaseKind → List ℕ → Sign → Option (Leaf × BaseStep)
after_column low_kind column right = Some (mark right, whole_base (low_text column))
after_column high_kind column right = Some (mark right, whole_base (high_text column))
after_column around_kind column comma = Some (mark comma, part (number_due (centre_of column)))
after_column between_kind column comma = Some (mark comma, part (number_due (start_of column)))
after_column pos_kind column comma = Some (mark comma, part (number_due (next_of (in_pos column) [])))
after_column layered_kind column comma = Some (mark comma, part (set_due column []))
after_column _ _ _ = None

abbrev pub base_next : BasePart → Token → Option (Leaf × BaseStep)
base_next (named k) (sign left) = Some (mark left, part (opened k))
base_next (opened k) (word letters) = Some (column_name letters, part (columned k letters))
base_next (columned k column) (sign s) = after_column k column s
base_next (number_due n) (sign minus) = Some (mark minus, part (number_signed n))
base_next (number_due n) (digits ds) = Some (number_digits (least_of n) false ds, part (filled n (record { negative = false; digits = ds })))
base_next (number_signed n) (digits ds) = Some (number_digits (least_of n) true ds, part (filled n (record { negative = true; digits = ds })))
base_next (centred column centre) (sign right) = Some (mark right, whole_base (around_text column centre))
base_next (ranged column lower) (sign comma) = Some (mark comma, part (number_due (end_of column lower)))
base_next (range_ended column lower upper) (sign right) = Some (mark right, whole_base (between_text column lower upper))
base_next (listed l first others) (sign comma) = Some (mark comma, part (number_due (next_of l (first ∷ others))))
base_next (listed l first others) (sign s) = behind_listed l first others s
base_next (set_due column sets) (sign left_brace) = Some (mark left_brace, part (number_due (next_of (in_set column sets) [])))
base_next (sets_listed column first others) (sign comma) = Some (mark comma, part (set_due column (first ∷ others)))
base_next (sets_listed column first others) (sign right) = Some (mark right, whole_base (layered_text column first others))
base_next _ _ = None

-- ---- what is pending around a place

mutual
  -- around a prior
  pub data PriorHole : Type 0 where
    whole : (head : HeadText) → PriorHole
    in_group : (h : UnaryHole) → PriorHole
    in_reverse : (h : UnaryHole) → PriorHole

  -- around a product
  pub data ProductHole : Type 0 where
    first_product : (h : PriorHole) → ProductHole
    next_product : (h : PriorHole) (r : PriorText) → ProductHole

  -- around a factor
  pub data UnaryHole : Type 0 where
    first_factor : (h : ProductHole) → UnaryHole
    next_factor : (h : ProductHole) (p : ProductText) → UnaryHole
    in_minus : (h : UnaryHole) → UnaryHole

-- how many nestings are open there
abbrev mutual
  pub prior_depth : PriorHole → ℕ
  prior_depth (whole head) = 0
  prior_depth (in_group h) = unary_depth h + 1
  prior_depth (in_reverse h) = unary_depth h + 1

  pub product_depth : ProductHole → ℕ
  product_depth (first_product h) = prior_depth h
  product_depth (next_product h r) = prior_depth h

  pub unary_depth : UnaryHole → ℕ
  unary_depth (first_factor h) = product_depth h
  unary_depth (next_factor h p) = product_depth h
  unary_depth (in_minus h) = unary_depth h + 1

-- what was read before it
abbrev mutual
  pub before_prior : PriorHole → List Leaf
  before_prior (whole head) = head_leaves head
  before_prior (in_group h) = before_unary h ++ opens (unary_depth h) left ∷ []
  before_prior (in_reverse h) = before_unary h ++ name reverse_word ∷ opens (unary_depth h) left ∷ []

  pub before_product : ProductHole → List Leaf
  before_product (first_product h) = before_prior h
  before_product (next_product h r) = before_prior h ++ (prior_leaves r (prior_depth h) ++ mark ampersand ∷ [])

  pub before_unary : UnaryHole → List Leaf
  before_unary (first_factor h) = before_product h
  before_unary (next_factor h p) = before_product h ++ (product_leaves p (product_depth h) ++ mark star ∷ [])
  before_unary (in_minus h) = before_unary h ++ opens (unary_depth h) minus ∷ []

-- ---- the states of reading

-- how many are wanted: of levels, or of rows at least
pub data CountKind : Type 0 where
  levels : CountKind
  rows : CountKind

abbrev pub count_word : CountKind → Keyword
count_word levels = top_level_word
count_word rows = at_least_word

abbrev pub count_head : CountKind → List ℕ → HeadText
count_head levels count = top_level_head count
count_head rows count = at_least_head count

pub data State : Type 0 where
  start : State
  operand : (h : UnaryHole) → State
  reverse_named : (h : UnaryHole) → State
  reading : (h : UnaryHole) (b : BasePart) → State
  after : (h : ProductHole) (p : ProductText) → State
  -- behind `top_level` or `at_least`
  count_due : (k : CountKind) → State
  -- a column of the group is due, behind these
  group_due : (head : HeadText) (r : PriorText) (columns : List (List ℕ)) → State
  group_listed : (head : HeadText) (r : PriorText) (first : List ℕ) (others : List (List ℕ)) → State
  skyline_named : (s : List ℕ) → State
  -- a column of a skyline clause is due, behind these
  dim_due : (s o : List ℕ) (dims : List DimText) → State
  dim_named : (s o : List ℕ) (dims : List DimText) (column : List ℕ) → State
  dims_listed : (s o : List ℕ) (first : DimText) (others : List DimText) → State
  done : (a : AskText) → State

-- what was read up to a state
abbrev pub read_of : State → List Leaf
read_of start = []
read_of (operand h) = before_unary h
read_of (reverse_named h) = before_unary h ++ name reverse_word ∷ []
read_of (reading h b) = before_unary h ++ part_leaves b
read_of (after h p) = before_product h ++ product_leaves p (product_depth h)
read_of (count_due k) = name (count_word k) ∷ []
read_of (group_due head r columns) = head_leaves head ++ (prior_leaves r 0 ++ name by_word ∷ before_next column_leaves columns)
read_of (group_listed head r first others) = head_leaves head ++ (prior_leaves r 0 ++ group_leaves (first ∷ others))
read_of (skyline_named s) = cased skyline_word s ∷ []
read_of (dim_due s o dims) = cased skyline_word s ∷ cased of_word o ∷ before_next dim_leaves dims
read_of (dim_named s o dims column) = cased skyline_word s ∷ cased of_word o ∷ before_next dim_leaves dims ++ column_name column ∷ []
read_of (dims_listed s o first others) = cased skyline_word s ∷ cased of_word o ∷ dim_leaves first ++ after_commas dim_leaves others
read_of (done a) = ask_leaves a

-- a factor is whole
abbrev pub completed : UnaryHole → UnaryText → State
completed (first_factor h) u = after h (one_factor u)
completed (next_factor h p) u = after h (then_factor p u)
completed (in_minus h) u = completed h (negated u)

-- the prior that the product is in, and the one that it ends
abbrev pub outer : ProductHole → PriorHole
outer (first_product h) = h
outer (next_product h r) = h

abbrev pub closed : ProductHole → ProductText → PriorText
closed (first_product h) p = one_product p
closed (next_product h r) p = then_product r p

-- the state behind a prior
abbrev pub ranked : PriorHole → PriorText → State
ranked h (one_product p) = after (first_product h) p
ranked h (then_product r p) = after (next_product h r) p

abbrev pub in_whole : HeadText → UnaryHole
in_whole head = first_factor (first_product (whole head))

abbrev pub begun : List ℕ → Option Keyword → Option CasedWord → Option (Leaf × State)
begun letters (Some best_word) c = Some (name best_word, operand (in_whole best_head))
begun letters (Some top_level_word) c = Some (name top_level_word, count_due levels)
begun letters (Some at_least_word) c = Some (name at_least_word, count_due rows)
begun letters None (Some skyline_word) = Some (cased skyline_word letters, skyline_named letters)
begun _ _ _ = None

abbrev pub of_named : List ℕ → List ℕ → Option CasedWord → Option (Leaf × State)
of_named s letters (Some of_word) = Some (cased of_word letters, dim_due s letters [])
of_named _ _ _ = None

abbrev pub directed : List ℕ → List ℕ → List DimText → List ℕ → List ℕ → Option CasedWord → Option (Leaf × State)
directed s o dims column letters (Some min_word) = Some (cased min_word letters, with_next (dims_listed s o) dims (record { column = column; direction = minimal; written = letters }))
directed s o dims column letters (Some max_word) = Some (cased max_word letters, with_next (dims_listed s o) dims (record { column = column; direction = maximal; written = letters }))
directed s o dims column letters (Some diff_word) = Some (cased diff_word letters, with_next (dims_listed s o) dims (record { column = column; direction = different; written = letters }))
directed _ _ _ _ _ _ = None

abbrev pub grouped_by : PriorHole → PriorText → Option Keyword → Option (Leaf × State)
grouped_by (whole head) r (Some by_word) = Some (name by_word, group_due head r [])
grouped_by _ _ _ = None

abbrev pub operand_word : UnaryHole → Option Keyword → Option (Leaf × State)
operand_word h (Some low_word) = Some (name low_word, reading h (named low_kind))
operand_word h (Some high_word) = Some (name high_word, reading h (named high_kind))
operand_word h (Some around_word) = Some (name around_word, reading h (named around_kind))
operand_word h (Some between_word) = Some (name between_word, reading h (named between_kind))
operand_word h (Some pos_word) = Some (name pos_word, reading h (named pos_kind))
operand_word h (Some layered_word) = Some (name layered_word, reading h (named layered_kind))
operand_word h (Some reverse_word) = Some (name reverse_word, reverse_named h)
operand_word _ _ = None

-- where a step within a base term leads
abbrev pub stepped : UnaryHole → BaseStep → State
stepped h (part b) = reading h b
stepped h (whole_base b) = completed h (based b)

abbrev pub carried : UnaryHole → Option (Leaf × BaseStep) → Option (Leaf × State)
carried h None = None
carried h (Some (leaf, step)) = Some (leaf, stepped h step)

abbrev pub parted : PriorHole → PriorText → Option (Leaf × State)
parted (whole head) r = None
parted (in_group h) r = Some (mark right, completed h (grouped r))
parted (in_reverse h) r = Some (mark right, completed h (reversed r))

abbrev pub finished : PriorHole → PriorText → Option (Leaf × State)
finished (whole head) r = Some (last, done (rated head r []))
finished _ _ = None

-- where a token leads, and the part that it plays; none where it can't follow
abbrev pub next : State → Token → Option (Leaf × State)
next start (word letters) = begun letters (keyword_of letters) (cased_of letters)
next (operand h) (sign minus) = Some (opens (unary_depth h) minus, operand (in_minus h))
next (operand h) (sign left) = Some (opens (unary_depth h) left, operand (first_factor (first_product (in_group h))))
next (operand h) (word letters) = operand_word h (keyword_of letters)
next (reverse_named h) (sign left) = Some (opens (unary_depth h) left, operand (first_factor (first_product (in_reverse h))))
next (reading h b) t = carried h (base_next b t)
next (after h p) (sign star) = Some (mark star, operand (next_factor h p))
next (after h p) (sign ampersand) = Some (mark ampersand, operand (first_factor (next_product (outer h) (closed h p))))
next (after h p) (sign right) = parted (outer h) (closed h p)
next (after h p) finish = finished (outer h) (closed h p)
next (after h p) (word letters) = grouped_by (outer h) (closed h p) (keyword_of letters)
next (count_due k) (digits ds) = Some (count_digits ds, operand (in_whole (count_head k ds)))
next (group_due head r columns) (word letters) = Some (column_name letters, with_next (group_listed head r) columns letters)
next (group_listed head r first others) (sign comma) = Some (mark comma, group_due head r (first ∷ others))
next (group_listed head r first others) finish = Some (last, done (rated head r (first ∷ others)))
next (skyline_named s) (word letters) = of_named s letters (cased_of letters)
next (dim_due s o dims) (word letters) = Some (column_name letters, dim_named s o dims letters)
next (dim_named s o dims column) (word letters) = directed s o dims column letters (cased_of letters)
next (dims_listed s o first others) (sign comma) = Some (mark comma, dim_due s o (first ∷ others))
next (dims_listed s o first others) finish = Some (last, done (skyline s o first others))
next _ _ = None

-- ---- the whole reading

abbrev pub ended : State → ℕ → Result AskText TermFault
ended (done r) place = Ok r
ended _ place = Err (Unexpected place)

-- goes on where the leaf has no fault of its own
abbrev pub judged : Leaf → (before place : ℕ) → Result AskText TermFault → Option OwnFault → Result AskText TermFault
judged leaf before place go None = go
judged leaf before place go (Some kind) = Err (reported kind (reported_at leaf before place))

abbrev pub led : Names → (before place : ℕ) → (State → Result AskText TermFault) → Option (Leaf × State) → Result AskText TermFault
led names before place go None = Err (Unexpected place)
led names before place go (Some (leaf, m)) = judged leaf before place (go m) (own_fault names leaf)

-- reads the tokens from a state; the token before them is at `before`
abbrev pub run : Names → List Placed → (before : ℕ) → State → Result AskText TermFault
run names [] before s = ended s before
run names (t ∷ ts) before s = led names before t.place (run names ts t.place) (next s t.token)
