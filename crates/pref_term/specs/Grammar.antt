-- The grammar of question texts. A text of the grammar is a tree; its leaves are its tokens, each with the part that
-- it plays; its meaning is a preference. (this project; the clause is that of Börzsönyi, Kossmann, Stocker 2001)
use Rattle.std.specs.Prelude.{◌≡◌, ℕ, ◌+◌, List, [], ◌∷◌, ◌++◌, Bool, true, false, Option, Some, None, codes}
use Rattle.std.specs.List.{find, AllByRecursion}
use Rattle.std.specs.Str.{bytes_eq, str_to_ascii_lowercase}
use Rattle.pref_term.specs.Token.{Sign, left, right, comma, star, ampersand, minus, left_brace, right_brace, Token, word, digits, sign, finish}
pub use Rattle.pref_term.specs.declared.token.Keyword.{Keyword}
pub use Rattle.pref_term.specs.declared.token.Keyword.TheVariants.{Best as best_word, Low as low_word, High as high_word, Around as around_word, Between as between_word, Pos as pos_word, Layered as layered_word, Reverse as reverse_word, TopLevel as top_level_word, AtLeast as at_least_word, By as by_word}
pub use Rattle.pref_term.specs.declared.token.CasedWord.{CasedWord}
pub use Rattle.pref_term.specs.declared.token.CasedWord.TheVariants.{Skyline as skyline_word, Of as of_word, Min as min_word, Max as max_word, Diff as diff_word}
pub use Rattle.pref_term.specs.declared.token.Direction.{Direction}
pub use Rattle.pref_term.specs.declared.token.Direction.TheVariants.{Min as minimal, Max as maximal, Diff as different}

-- the words of the grammar
abbrev pub letters_of : Keyword → List ℕ
letters_of best_word = codes "best"
letters_of low_word = codes "low"
letters_of high_word = codes "high"
letters_of around_word = codes "around"
letters_of between_word = codes "between"
letters_of pos_word = codes "pos"
letters_of layered_word = codes "layered"
letters_of reverse_word = codes "reverse"
letters_of top_level_word = codes "top_level"
letters_of at_least_word = codes "at_least"
letters_of by_word = codes "by"

-- the words that may be in any case, in lower case
abbrev pub cased_letters : CasedWord → List ℕ
cased_letters skyline_word = codes "skyline"
cased_letters of_word = codes "of"
cased_letters min_word = codes "min"
cased_letters max_word = codes "max"
cased_letters diff_word = codes "diff"

-- the word that these letters are in lower case
abbrev pub cased_in : List ℕ → Option CasedWord
cased_in lower =
    find (λ k. bytes_eq (cased_letters k) lower) (skyline_word ∷ of_word ∷ min_word ∷ max_word ∷ diff_word ∷ [])

-- the word that these letters are in any case
abbrev pub cased_of : List ℕ → Option CasedWord
cased_of letters = cased_in (str_to_ascii_lowercase letters)

-- the words around base terms, and those of base terms
abbrev pub outer_words : List Keyword
outer_words = best_word ∷ reverse_word ∷ top_level_word ∷ at_least_word ∷ by_word ∷ []

abbrev pub base_words : List Keyword
base_words = low_word ∷ high_word ∷ around_word ∷ between_word ∷ pos_word ∷ layered_word ∷ []

-- the one of these words with these letters
abbrev pub word_among : List Keyword → List ℕ → Option Keyword
word_among words letters = find (λ k. bytes_eq (letters_of k) letters) words

-- the word of the grammar with these letters
abbrev pub keyword_of : List ℕ → Option Keyword
keyword_of letters = word_among (outer_words ++ base_words) letters

-- number = [ "-" ] digits
pub record NumberText : Type 0 where
  pub negative : Bool
  pub digits : List ℕ

-- set = "{" number { "," number } "}"
pub record SetText : Type 0 where
  pub first : NumberText
  pub others : List NumberText

-- a base term as it is written
pub data BaseText : Type 0 where
  low_text : (column : List ℕ) → BaseText
  high_text : (column : List ℕ) → BaseText
  around_text : (column : List ℕ) (centre : NumberText) → BaseText
  between_text : (column : List ℕ) (lower upper : NumberText) → BaseText
  pos_text : (column : List ℕ) (first : NumberText) (others : List NumberText) → BaseText
  layered_text : (column : List ℕ) (first : SetText) (others : List SetText) → BaseText

mutual
  -- prior = pareto { "&" pareto }
  pub data PriorText : Type 0 where
    one_product : (p : ProductText) → PriorText
    then_product : (r : PriorText) (p : ProductText) → PriorText

  -- pareto = unary { "*" unary }
  pub data ProductText : Type 0 where
    one_factor : (u : UnaryText) → ProductText
    then_factor : (p : ProductText) (u : UnaryText) → ProductText

  -- unary = "-" unary | "(" prior ")" | "reverse" "(" prior ")" | base
  pub data UnaryText : Type 0 where
    negated : (u : UnaryText) → UnaryText
    grouped : (r : PriorText) → UnaryText
    reversed : (r : PriorText) → UnaryText
    based : (b : BaseText) → UnaryText

-- how many are wanted: "best", or "top_level" or "at_least" and digits
pub data HeadText : Type 0 where
  best_head : HeadText
  top_level_head : (count : List ℕ) → HeadText
  at_least_head : (count : List ℕ) → HeadText

-- dim = column ( "min" | "max" | "diff" ), and how the word is written
pub record DimText : Type 0 where
  pub column : List ℕ
  pub direction : Direction
  pub written : List ℕ

-- ask = head prior [ "by" column { "," column } ] end | "skyline" "of" dim { "," dim } end
pub data AskText : Type 0 where
  rated : (head : HeadText) (r : PriorText) (group : List (List ℕ)) → AskText
  skyline : (skyline of : List ℕ) (first : DimText) (others : List DimText) → AskText

-- a token with the part that it plays
pub data Leaf : Type 0 where
  name : (k : Keyword) → Leaf
  mark : (s : Sign) → Leaf
  -- it opens a nesting, where this many are open
  opens : (depth : ℕ) (s : Sign) → Leaf
  column_name : (letters : List ℕ) → Leaf
  -- the digits of a number, and the number that it may not be less than, where there is one
  number_digits : (least : Option NumberText) (negative : Bool) (digits : List ℕ) → Leaf
  count_digits : (digits : List ℕ) → Leaf
  -- a word that may be in any case, as it is written
  cased : (k : CasedWord) (letters : List ℕ) → Leaf
  last : Leaf

-- the token that a leaf is
abbrev pub token_of : Leaf → Token
token_of (name k) = word (letters_of k)
token_of (mark s) = sign s
token_of (opens depth s) = sign s
token_of (column_name letters) = word letters
token_of (number_digits least negative ds) = digits ds
token_of (count_digits ds) = digits ds
token_of (cased k letters) = word letters
token_of last = finish

-- a word that may be in any case is that word
abbrev pub IsWritten : Leaf → Type 0
IsWritten (cased k letters) = cased_letters k ≡ str_to_ascii_lowercase letters
IsWritten _ = Unit {0}

-- digits, after a minus where the number is negative
abbrev pub signed_leaves : Option NumberText → Bool → List ℕ → List Leaf
signed_leaves least true ds = mark minus ∷ number_digits least true ds ∷ []
signed_leaves least false ds = number_digits least false ds ∷ []

-- the leaves of a number
abbrev pub number_leaves : NumberText → List Leaf
number_leaves n = signed_leaves None n.negative n.digits

-- the leaves of a number that may not be less than another
abbrev pub end_leaves : NumberText → NumberText → List Leaf
end_leaves least n = signed_leaves (Some least) n.negative n.digits

-- the leaves of each, after a comma
abbrev pub after_commas : {X : Type 0} → (X → List Leaf) → List X → List Leaf
after_commas leaves [] = []
after_commas leaves (x ∷ xs) = mark comma ∷ leaves x ++ after_commas leaves xs

-- numbers, and the sign that closes their list
abbrev pub list_leaves : NumberText → List NumberText → Sign → List Leaf
list_leaves first others closing = number_leaves first ++ (after_commas number_leaves others ++ mark closing ∷ [])

-- the leaves of a set
abbrev pub set_leaves : SetText → List Leaf
set_leaves s = mark left_brace ∷ list_leaves s.first s.others right_brace

-- the leaves of a base term
abbrev pub base_leaves : BaseText → List Leaf
base_leaves (low_text column) = name low_word ∷ mark left ∷ column_name column ∷ mark right ∷ []
base_leaves (high_text column) = name high_word ∷ mark left ∷ column_name column ∷ mark right ∷ []
base_leaves (around_text column centre) =
    name around_word ∷ mark left ∷ column_name column ∷ mark comma ∷ number_leaves centre ++ mark right ∷ []
base_leaves (between_text column lower upper) =
    name between_word ∷ mark left ∷ column_name column ∷ mark comma ∷ number_leaves lower ++ (mark comma ∷ end_leaves lower upper ++ mark right ∷ [])
base_leaves (pos_text column first others) =
    name pos_word ∷ mark left ∷ column_name column ∷ mark comma ∷ list_leaves first others right
base_leaves (layered_text column first others) =
    name layered_word ∷ mark left ∷ column_name column ∷ mark comma ∷ set_leaves first ++ (after_commas set_leaves others ++ mark right ∷ [])

-- the leaves, where this many nestings are open around them
abbrev mutual
  pub prior_leaves : PriorText → ℕ → List Leaf
  prior_leaves (one_product p) depth = product_leaves p depth
  prior_leaves (then_product r p) depth = prior_leaves r depth ++ mark ampersand ∷ product_leaves p depth

  pub product_leaves : ProductText → ℕ → List Leaf
  product_leaves (one_factor u) depth = unary_leaves u depth
  product_leaves (then_factor p u) depth = product_leaves p depth ++ mark star ∷ unary_leaves u depth

  pub unary_leaves : UnaryText → ℕ → List Leaf
  unary_leaves (negated u) depth = opens depth minus ∷ unary_leaves u (depth + 1)
  unary_leaves (grouped r) depth = opens depth left ∷ prior_leaves r (depth + 1) ++ mark right ∷ []
  unary_leaves (reversed r) depth = name reverse_word ∷ opens depth left ∷ prior_leaves r (depth + 1) ++ mark right ∷ []
  unary_leaves (based b) depth = base_leaves b

-- the leaves of a head
abbrev pub head_leaves : HeadText → List Leaf
head_leaves best_head = name best_word ∷ []
head_leaves (top_level_head count) = name top_level_word ∷ count_digits count ∷ []
head_leaves (at_least_head count) = name at_least_word ∷ count_digits count ∷ []

-- the leaf of a column
abbrev pub column_leaves : List ℕ → List Leaf
column_leaves letters = column_name letters ∷ []

-- the leaves of a group; none where it has no column
abbrev pub group_leaves : List (List ℕ) → List Leaf
group_leaves [] = []
group_leaves (column ∷ columns) = name by_word ∷ column_leaves column ++ after_commas column_leaves columns

-- the word of a direction
abbrev pub direction_word : Direction → CasedWord
direction_word minimal = min_word
direction_word maximal = max_word
direction_word different = diff_word

-- the leaves of a dimension
abbrev pub dim_leaves : DimText → List Leaf
dim_leaves d = column_name d.column ∷ cased (direction_word d.direction) d.written ∷ []

-- the leaves of a whole text, from its first token to its end
abbrev pub ask_leaves : AskText → List Leaf
ask_leaves (rated head r group) = head_leaves head ++ (prior_leaves r 0 ++ (group_leaves group ++ last ∷ []))
ask_leaves (skyline s o first others) = cased skyline_word s ∷ cased of_word o ∷ dim_leaves first ++ (after_commas dim_leaves others ++ last ∷ [])

-- the words of a text that may be in any case are those words
abbrev pub IsText : AskText → Type 0
IsText tree = AllByRecursion IsWritten (ask_leaves tree)
