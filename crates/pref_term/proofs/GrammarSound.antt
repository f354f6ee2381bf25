-- What was read up to a state grows by the leaf of each token.
use Rattle.pref_term.proofs.Common.{arith, ◌≡◌, ℕ, List, [], ◌∷◌, ◌++◌, Bool, true, Option, refl, sym, ap, subst, ◌∙◌, append_assoc, append-nil, IfSome, find, bytes_eq}
use Rattle.pref_term.proofs.Common.{str_to_ascii_lowercase, bytes_eq-Decides, left, right, comma, star, left_brace, right_brace, Token, word, sign, finish, Keyword}
use Rattle.pref_term.proofs.Common.{CasedWord, skyline_word, of_word, min_word, max_word, diff_word, letters_of, outer_words, base_words, keyword_of}
use Rattle.pref_term.proofs.Common.{cased_letters, cased_of, HeadText, DimText, dim_leaves, IsWritten, NumberText, PriorText, ProductText}
use Rattle.pref_term.proofs.Common.{UnaryText, negated, Leaf, name, mark, column_name, cased, number_leaves, base_leaves, prior_leaves, product_leaves}
use Rattle.pref_term.proofs.Common.{unary_leaves, token_of, signed_leaves, layered_word, SetText, set_leaves, NumberHole}
use Rattle.pref_term.proofs.Common.{next_of, BasePart, listed, hole_leaves, part_leaves, BaseStep, part, whole_base, filled, base_next}
use Rattle.pref_term.proofs.Common.{PriorHole, ProductHole, first_product, next_product, UnaryHole, first_factor, next_factor, in_minus, prior_depth, product_depth}
use Rattle.pref_term.proofs.Common.{unary_depth, before_prior, before_product, before_unary, State, start, operand, reading, after, group_due}
use Rattle.pref_term.proofs.Common.{group_listed, skyline_named, dim_named, dims_listed, read_of, completed, outer, closed, begun, of_named, directed}
use Rattle.pref_term.proofs.Common.{grouped_by, operand_word, carried, parted, finished, next, end_of, least_of, in_set}
use Rattle.pref_term.proofs.Common.{sets_listed, after_commas, column_leaves, before_next, with_next}
use Rattle.std.proofs.lemmas.Option.{IfSome_then}

-- one more at the end of some
after_last : {X : Type 0} (leaves : X → List Leaf) (xs : List X) (x : X) → after_commas leaves (xs ++ x ∷ []) ≡ after_commas leaves xs ++ mark comma ∷ leaves x
after_last leaves [] x = simp append-nil
after_last leaves (y ∷ ys) x = rw (after_last leaves ys x) (simp append_assoc)

pub hole_filled : (h : NumberHole) (n : NumberText) → part_leaves (filled h n) ≡ hole_leaves h ++ signed_leaves (least_of h) n.negative n.digits
hole_filled (end_of column l) n = simp append_assoc
hole_filled (next_of l []) n = simp append-nil
hole_filled (next_of l (first ∷ others)) n = rw (after_last number_leaves others n) (simp append_assoc)
hole_filled h n = refl

-- a set behind others
set_regrouped : (a b n o : List Leaf) (c l r : Leaf) → a ++ (b ++ c ∷ l ∷ (n ++ (o ++ r ∷ []))) ≡ (((a ++ (b ++ c ∷ [])) ++ l ∷ []) ++ (n ++ o)) ++ r ∷ []
set_regrouped a b n o c l r = simp append_assoc

set_closed : (column : List ℕ) (sets : List SetText) (first : NumberText) (others : List NumberText) → part_leaves (with_next (sets_listed column) sets (record { first = first; others = others })) ≡ part_leaves (listed (in_set column sets) first others) ++ mark right_brace ∷ []
set_closed column [] first others = simp (append_assoc, append-nil)
set_closed column (s ∷ ss) first others =
    ap (λ ls. name layered_word ∷ mark left ∷ column_name column ∷ mark comma ∷ set_leaves s ++ ls) (after_last set_leaves ss (record { first = first; others = others }))
    ∙ ap (λ ls. name layered_word ∷ mark left ∷ column_name column ∷ mark comma ∷ ls) (set_regrouped (set_leaves s) (after_commas set_leaves ss) (number_leaves first) (after_commas number_leaves others) (mark comma) (mark left_brace) (mark right_brace))

abbrev pub step_leaves : BaseStep → List Leaf
step_leaves (part b) = part_leaves b
step_leaves (whole_base b) = base_leaves b

-- a leaf is played by the token, and what was read grows by it
abbrev pub Grows : List Leaf → Token → Leaf → List Leaf → Type 0
Grows before t leaf now = (token_of leaf ≡ t) × (now ≡ before ++ leaf ∷ []) × IsWritten leaf

pub base_grows : (b : BasePart) (t : Token) → IfSome (base_next b t) (λ r. Grows (part_leaves b) t r.0 (step_leaves r.1))
base_grows b t = grind (arith, append_assoc, append-nil, hole_filled, set_closed)

-- a whole factor stands behind what was read before it
pub completed_read : (h : UnaryHole) (u : UnaryText) → read_of (completed h u) ≡ before_unary h ++ unary_leaves u (unary_depth h)
completed_read (first_factor h) u = refl
completed_read (next_factor h p) u = simp append_assoc
completed_read (in_minus h) u = completed_read h (negated u) ∙ simp append_assoc

-- a product ends the prior that it stands in
pub closed_read : (h : ProductHole) (p : ProductText) → before_product h ++ product_leaves p (product_depth h) ≡ before_prior (outer h) ++ prior_leaves (closed h p) (prior_depth (outer h))
closed_read (first_product h) p = refl
closed_read (next_product h r) p = simp append_assoc

-- what a search finds passes the test
pub find_passes : {A : Type 0} (test : A → Bool) (xs : List A) → IfSome (find test xs) (λ x. test x ≡ true)
find_passes test [] = tt
find_passes test (x ∷ xs) = grind (arith, find_passes test xs)

pub keyword_letters : (letters : List ℕ) → IfSome (keyword_of letters) (λ k. letters_of k ≡ letters)
keyword_letters letters = IfSome_then (keyword_of letters) (find_passes (λ k. bytes_eq (letters_of k) letters) (outer_words ++ base_words)) (λ k. (bytes_eq-Decides (letters_of k) letters).0)

-- the word that a search finds is written so
pub cased_written : (letters : List ℕ) → IfSome (cased_of letters) (λ k. IsWritten (cased k letters))
cased_written letters =
    let passes = find_passes (λ k. bytes_eq (cased_letters k) (str_to_ascii_lowercase letters)) (skyline_word ∷ of_word ∷ min_word ∷ max_word ∷ diff_word ∷ []) in
    IfSome_then (cased_of letters) passes (λ k. (bytes_eq-Decides (cased_letters k) (str_to_ascii_lowercase letters)).0)

begun_grows : (letters : List ℕ) (o : Option Keyword) (c : Option CasedWord) → IfSome o (λ k. letters_of k ≡ letters) → IfSome c (λ k. IsWritten (cased k letters)) → IfSome (begun letters o c) (λ r. Grows (read_of start) (word letters) r.0 (read_of r.1))
begun_grows letters o c h w = grind (arith)

of_grows : (s letters : List ℕ) (c : Option CasedWord) → IfSome c (λ k. IsWritten (cased k letters)) → IfSome (of_named s letters c) (λ r. Grows (read_of (skyline_named s)) (word letters) r.0 (read_of r.1))
of_grows s letters c w = grind (arith)

column_listed : (head : HeadText) (r : PriorText) (columns : List (List ℕ)) (column : List ℕ) → read_of (with_next (group_listed head r) columns column) ≡ read_of (group_due head r columns) ++ column_name column ∷ []
column_listed head r [] column = simp append_assoc
column_listed head r (c ∷ cs) column = rw (after_last column_leaves cs column) (simp append_assoc)

dim_listed : (s o : List ℕ) (dims : List DimText) (d : DimText) → read_of (with_next (dims_listed s o) dims d) ≡ cased skyline_word s ∷ cased of_word o ∷ before_next dim_leaves dims ++ dim_leaves d
dim_listed s o [] d = simp append-nil
dim_listed s o (e ∷ es) d = rw (after_last dim_leaves es d) (simp append_assoc)

directed_grows : (s o : List ℕ) (dims : List DimText) (column letters : List ℕ) (c : Option CasedWord) → IfSome c (λ k. IsWritten (cased k letters)) → IfSome (directed s o dims column letters c) (λ r. Grows (read_of (dim_named s o dims column)) (word letters) r.0 (read_of r.1))
directed_grows s o dims column letters c w = grind (arith, append_assoc, dim_listed)

grouped_by_grows : (h : PriorHole) (r : PriorText) (o : Option Keyword) (letters : List ℕ) → IfSome o (λ k. letters_of k ≡ letters) → IfSome (grouped_by h r o) (λ x. Grows (before_prior h ++ prior_leaves r (prior_depth h)) (word letters) x.0 (read_of x.1))
grouped_by_grows h r o letters e = grind (arith, append_assoc)

operand_word_grows : (h : UnaryHole) (o : Option Keyword) (letters : List ℕ) → IfSome o (λ k. letters_of k ≡ letters) → IfSome (operand_word h o) (λ r. Grows (before_unary h) (word letters) r.0 (read_of r.1))
operand_word_grows h o letters e = grind (arith)

carried_grows : (h : UnaryHole) (b : BasePart) (t : Token) (o : Option (Leaf × BaseStep)) → IfSome o (λ r. Grows (part_leaves b) t r.0 (step_leaves r.1)) → IfSome (carried h o) (λ r. Grows (before_unary h ++ part_leaves b) t r.0 (read_of r.1))
carried_grows h b t o e = grind (arith, append_assoc, completed_read)

parted_grows : (h : PriorHole) (r : PriorText) → IfSome (parted h r) (λ x. Grows (before_prior h ++ prior_leaves r (prior_depth h)) (sign right) x.0 (read_of x.1))
parted_grows h r = grind (arith, append_assoc, completed_read)

finished_grows : (h : PriorHole) (r : PriorText) → IfSome (finished h r) (λ x. Grows (before_prior h ++ prior_leaves r (prior_depth h)) finish x.0 (read_of x.1))
finished_grows h r = grind (arith, append_assoc)

pub next_grows : (s : State) (t : Token) → IfSome (next s t) (λ r. Grows (read_of s) t r.0 (read_of r.1))
next_grows start (word letters) = begun_grows letters (keyword_of letters) (cased_of letters) (keyword_letters letters) (cased_written letters)
next_grows (operand h) (word letters) = operand_word_grows h (keyword_of letters) letters (keyword_letters letters)
next_grows (reading h b) t = carried_grows h b t (base_next b t) (base_grows b t)
next_grows (after h p) (sign star) = grind (arith, append_assoc)
next_grows (after h p) (sign s) = grind (arith, append_assoc, closed_read h p, parted_grows (outer h) (closed h p))
next_grows (after h p) finish = grind (arith, closed_read h p, finished_grows (outer h) (closed h p))
next_grows (after h p) (word letters) =
    subst (λ (ls : List Leaf). IfSome (grouped_by (outer h) (closed h p) (keyword_of letters)) (λ r. Grows ls (word letters) r.0 (read_of r.1))) (sym (closed_read h p)) (grouped_by_grows (outer h) (closed h p) (keyword_of letters) letters (keyword_letters letters))
next_grows (group_due head r columns) (word letters) = (refl, column_listed head r columns letters, tt)
next_grows (skyline_named s) (word letters) = of_grows s letters (cased_of letters) (cased_written letters)
next_grows (dim_named s o dims column) (word letters) = directed_grows s o dims column letters (cased_of letters) (cased_written letters)
next_grows s t = grind (arith, append_assoc)
