-- Each text of the grammar is read to its end, and each state of reading can be completed.
use Rattle.pref_term.proofs.Common.{◌≡◌, arith, ℕ, ◌+◌, List, [], ◌∷◌, ◌++◌, Bool, true, false, Option, Some, None, refl, sym, ap, subst, ◌∙◌, append_assoc, append-nil, IfSome, AllByRecursion, bytes_eq}
use Rattle.pref_term.proofs.Common.{str_to_ascii_lowercase, bytes_eq-Decides, left, right, left_brace, comma, star, ampersand, word, sign, finish, Keyword, best_word, low_word, by_word, CasedWord, skyline_word}
use Rattle.pref_term.proofs.Common.{of_word, min_word, letters_of, keyword_of, cased_letters, cased_in, cased_of, HeadText, best_head, top_level_head, at_least_head, head_leaves}
use Rattle.pref_term.proofs.Common.{Direction, minimal, direction_word, DimText, dim_leaves, group_leaves, AskText, rated, skyline, IsWritten, IsText}
use Rattle.pref_term.proofs.Common.{NumberText, BaseText, low_text, high_text, around_text, pos_text, PriorText, one_product, then_product, ProductText, one_factor, then_factor, UnaryText, negated}
use Rattle.pref_term.proofs.Common.{grouped, reversed, based, Leaf, name, mark, opens, column_name, number_digits, count_digits, cased, last, signed_leaves, number_leaves, base_leaves}
use Rattle.pref_term.proofs.Common.{prior_leaves, product_leaves, unary_leaves, ask_leaves, token_of, between_text, end_leaves, layered_text, SetText, list_leaves, set_leaves, BaseKind}
use Rattle.pref_term.proofs.Common.{low_kind, high_kind, around_kind, pos_kind, NumberHole, centre_of, next_of, BasePart, named, opened, columned, number_due, number_signed, centred, listed}
use Rattle.pref_term.proofs.Common.{filled, PriorHole, whole, in_group, in_reverse, ProductHole, first_product, next_product, UnaryHole, first_factor, next_factor, in_minus, prior_depth}
use Rattle.pref_term.proofs.Common.{product_depth, unary_depth, State, start, operand, reverse_named, reading, after, group_due, group_listed, skyline_named, dim_due}
use Rattle.pref_term.proofs.Common.{dim_named, dims_listed, done, completed, ranked, in_whole, begun, of_named, directed, next, between_kind, start_of, end_of, least_of}
use Rattle.pref_term.proofs.Common.{ranged, range_ended, layered_kind, NumberList, in_pos, in_set, closing, list_closed, stepped, set_due, sets_listed, parted, after_commas, column_leaves, with_next, count_due, count_head}
use Rattle.pref_term.proofs.GrammarSound.{keyword_letters}

-- reading these leaves leads from one state to the other
abbrev pub Reads : State → List Leaf → State → Type 0
Reads s [] m = s ≡ m
Reads s (leaf ∷ leaves) m = (n : State) × (next s (token_of leaf) ≡ Some (leaf, n)) × Reads n leaves m

pub reads_on : (s : State) (a b : List Leaf) (m n : State) → Reads s a m → Reads m b n → Reads s (a ++ b) n
reads_on s [] b m n h k = subst (λ (x : State). Reads x b n) (sym h) k
reads_on s (leaf ∷ a) b m n h k = (h.0, h.1, reads_on h.0 a b m n h.2 k)

reads_number : (h : UnaryHole) (hole : NumberHole) (n : NumberText) → Reads (reading h (number_due hole)) (signed_leaves (least_of hole) n.negative n.digits) (reading h (filled hole n))
reads_number h hole n = go n.negative n.digits
  where
    go : (negative : Bool) (ds : List ℕ) → Reads (reading h (number_due hole)) (signed_leaves (least_of hole) negative ds) (reading h (filled hole (record { negative = negative; digits = ds })))
    go true ds = (_, refl, (_, refl, refl))
    go false ds = (_, refl, refl)

-- items behind commas, where each leads from some of them to one more
reads_commas : {X : Type 0} (leaves : X → List Leaf) (behind : List X → State) → ((front : List X) (x : X) → Reads (behind front) (mark comma ∷ leaves x) (behind (front ++ x ∷ []))) → (front xs : List X) → Reads (behind front) (after_commas leaves xs) (behind (front ++ xs))
reads_commas leaves behind each front [] = ap behind (sym (append-nil front))
reads_commas {X} leaves behind each front (x ∷ xs) =
    subst (λ (ys : List X). Reads (behind front) (after_commas leaves (x ∷ xs)) (behind ys)) (append_assoc front (x ∷ []) xs)
    (reads_on (behind front) (mark comma ∷ leaves x) (after_commas leaves xs) (behind (front ++ x ∷ [])) _ (each front x) (reads_commas leaves behind each (front ++ x ∷ []) xs))

reads_others : (h : UnaryHole) (l : NumberList) (first : NumberText) (front ns : List NumberText) → Reads (reading h (listed l first front)) (after_commas number_leaves ns) (reading h (listed l first (front ++ ns)))
reads_others h l first = reads_commas number_leaves (λ ns. reading h (listed l first ns)) (λ front n. (_, refl, reads_number h (next_of l (first ∷ front)) n))

-- the sign that closes a list of numbers ends it
pub list_ends : (h : UnaryHole) (l : NumberList) (first : NumberText) (others : List NumberText) → next (reading h (listed l first others)) (sign (closing l)) ≡ Some (mark (closing l), stepped h (list_closed l first others))
list_ends h l first others = grind arith

reads_list : (h : UnaryHole) (l : NumberList) (first : NumberText) (others : List NumberText) → Reads (reading h (number_due (next_of l []))) (list_leaves first others (closing l)) (stepped h (list_closed l first others))
reads_list h l first others =
    reads_on (reading h (number_due (next_of l []))) (number_leaves first) (after_commas number_leaves others ++ mark (closing l) ∷ []) (reading h (listed l first [])) (stepped h (list_closed l first others))
    (reads_number h (next_of l []) first)
    (reads_on (reading h (listed l first [])) (after_commas number_leaves others) (mark (closing l) ∷ []) (reading h (listed l first others)) (stepped h (list_closed l first others))
    (reads_others h l first [] others) (_, list_ends h l first others, refl))

reads_set : (h : UnaryHole) (column : List ℕ) (sets : List SetText) (s : SetText) → Reads (reading h (set_due column sets)) (set_leaves s) (reading h (with_next (sets_listed column) sets s))
reads_set h column sets s = (_, refl, reads_list h (in_set column sets) s.first s.others)

reads_sets : (h : UnaryHole) (column : List ℕ) (first : SetText) (front ss : List SetText) → Reads (reading h (sets_listed column first front)) (after_commas set_leaves ss) (reading h (sets_listed column first (front ++ ss)))
reads_sets h column first = reads_commas set_leaves (λ ss. reading h (sets_listed column first ss)) (λ front s. (_, refl, reads_set h column (first ∷ front) s))

reads_base : (b : BaseText) (h : UnaryHole) → Reads (operand h) (base_leaves b) (completed h (based b))
reads_base (low_text column) h = (_, refl, (_, refl, (_, refl, (_, refl, refl))))
reads_base (high_text column) h = (_, refl, (_, refl, (_, refl, (_, refl, refl))))
reads_base (around_text column centre) h =
    let end = completed h (based (around_text column centre)) in
    let number = reads_on (reading h (number_due (centre_of column))) (number_leaves centre) (mark right ∷ []) (reading h (centred column centre)) end (reads_number h (centre_of column) centre) (_, refl, refl) in
    (_, refl, (_, refl, (_, refl, (_, refl, number))))
reads_base (between_text column l r) h =
    let end = completed h (based (between_text column l r)) in
    let right_end = reads_on (reading h (number_due (end_of column l))) (end_leaves l r) (mark right ∷ []) (reading h (range_ended column l r)) end (reads_number h (end_of column l) r) (_, refl, refl) in
    let behind = mark comma ∷ end_leaves l r ++ mark right ∷ [] in
    let numbers = reads_on (reading h (number_due (start_of column))) (number_leaves l) behind (reading h (ranged column l)) end (reads_number h (start_of column) l) (_, refl, right_end) in
    (_, refl, (_, refl, (_, refl, (_, refl, numbers))))
reads_base (pos_text column first others) h = (_, refl, (_, refl, (_, refl, (_, refl, reads_list h (in_pos column) first others))))
reads_base (layered_text column first others) h =
    let end = completed h (based (layered_text column first others)) in
    let more = reads_on (reading h (sets_listed column first [])) (after_commas set_leaves others) (mark right ∷ []) (reading h (sets_listed column first others)) end (reads_sets h column first [] others) (_, refl, refl) in
    let sets = reads_on (reading h (set_due column [])) (set_leaves first) (after_commas set_leaves others ++ mark right ∷ []) (reading h (sets_listed column first [])) end (reads_set h column [] first) more in
    (_, refl, (_, refl, (_, refl, (_, refl, sets))))

pub ranked_goes_on : (h : PriorHole) (r : PriorText) → next (ranked h r) (sign ampersand) ≡ Some (mark ampersand, operand (first_factor (next_product h r)))
ranked_goes_on h r = grind arith

pub ranked_right : (h : PriorHole) (r : PriorText) → next (ranked h r) (sign right) ≡ parted h r
ranked_right h r = grind arith

pub ranked_whole : (head : HeadText) (r : PriorText) → next (ranked (whole head) r) finish ≡ Some (last, done (rated head r []))
ranked_whole head r = grind arith

pub ranked_by : (head : HeadText) (r : PriorText) → next (ranked (whole head) r) (word (letters_of by_word)) ≡ Some (name by_word, group_due head r [])
ranked_by head r = grind arith

mutual
  pub reads_prior : (r : PriorText) (h : PriorHole) → Reads (operand (first_factor (first_product h))) (prior_leaves r (prior_depth h)) (ranked h r)
  reads_prior (one_product p) h = reads_product p (first_product h)
  reads_prior (then_product r p) h =
      reads_on (operand (first_factor (first_product h))) (prior_leaves r (prior_depth h)) (mark ampersand ∷ product_leaves p (prior_depth h)) (ranked h r) (after (next_product h r) p)
      (reads_prior r h)
      (_, ranked_goes_on h r, reads_product p (next_product h r))

  pub reads_product : (p : ProductText) (h : ProductHole) → Reads (operand (first_factor h)) (product_leaves p (product_depth h)) (after h p)
  reads_product (one_factor u) h = reads_unary u (first_factor h)
  reads_product (then_factor p u) h =
      reads_on (operand (first_factor h)) (product_leaves p (product_depth h)) (mark star ∷ unary_leaves u (product_depth h)) (after h p) (after h (then_factor p u))
      (reads_product p h)
      (_, refl, reads_unary u (next_factor h p))

  pub reads_unary : (u : UnaryText) (h : UnaryHole) → Reads (operand h) (unary_leaves u (unary_depth h)) (completed h u)
  reads_unary (negated u) h = (_, refl, reads_unary u (in_minus h))
  reads_unary (grouped r) h =
      let term = reads_prior r (in_group h) in
      (_, refl, reads_on (operand (first_factor (first_product (in_group h)))) (prior_leaves r (unary_depth h + 1)) (mark right ∷ []) (ranked (in_group h) r) (completed h (grouped r)) term (_, ranked_right (in_group h) r, refl))
  reads_unary (reversed r) h =
      let term = reads_prior r (in_reverse h) in
      (_, refl, (_, refl, reads_on (operand (first_factor (first_product (in_reverse h)))) (prior_leaves r (unary_depth h + 1)) (mark right ∷ []) (ranked (in_reverse h) r) (completed h (reversed r)) term (_, ranked_right (in_reverse h) r, refl)))
  reads_unary (based b) h = reads_base b h

reads_head : (head : HeadText) → Reads start (head_leaves head) (operand (in_whole head))
reads_head best_head = (_, refl, refl)
reads_head (top_level_head count) = (_, refl, (_, refl, refl))
reads_head (at_least_head count) = (_, refl, (_, refl, refl))

reads_group : (head : HeadText) (r : PriorText) (group : List (List ℕ)) → Reads (ranked (whole head) r) (group_leaves group ++ last ∷ []) (done (rated head r group))
reads_group head r [] = (_, ranked_whole head r, refl)
reads_group head r (c ∷ cs) =
    let more = reads_commas column_leaves (λ ds. group_listed head r c ds) (λ front d. (_, refl, (_, refl, refl))) [] cs in
    (_, ranked_by head r, (_, refl, reads_on (group_listed head r c []) (after_commas column_leaves cs) (last ∷ []) (group_listed head r c cs) _ more (_, refl, refl)))

-- ---- words in any case

differ : (x y : List ℕ) → bytes_eq x y ≡ false → x ≡ y → ⊥
differ x y f e = let g : bytes_eq x y ≡ true = (bytes_eq-Decides x y).1 e in cc

cased_itself : (k : CasedWord) → cased_in (cased_letters k) ≡ Some k
cased_itself k = grind arith

pub cased_found : (k : CasedWord) (letters : List ℕ) → IsWritten (cased k letters) → cased_of letters ≡ Some k
cased_found k letters w = ap cased_in (sym w) ∙ cased_itself k

keyword_no_skyline : (k : Keyword) → cased_letters skyline_word ≡ str_to_ascii_lowercase (letters_of k) → ⊥
keyword_no_skyline best_word e = differ _ _ refl e
keyword_no_skyline _ e = differ _ _ refl e

-- `skyline` is no keyword
pub no_keyword : (letters : List ℕ) → IsWritten (cased skyline_word letters) → keyword_of letters ≡ None
no_keyword letters w = go (keyword_of letters) (keyword_letters letters)
  where
    go : (o : Option Keyword) → IfSome o (λ k. letters_of k ≡ letters) → o ≡ None
    go None h = refl
    go (Some k) h = absurd (keyword_no_skyline k (w ∙ ap str_to_ascii_lowercase (sym h)))

abbrev pub dim_of : List ℕ → Direction → List ℕ → DimText
dim_of column direction written = record { column = column; direction = direction; written = written }

pub direction_next : (s o : List ℕ) (dims : List DimText) (column letters : List ℕ) (d : Direction) → directed s o dims column letters (Some (direction_word d)) ≡ Some (cased (direction_word d) letters, with_next (dims_listed s o) dims (dim_of column d letters))
direction_next s o dims column letters d = grind arith

reads_dim : (s o : List ℕ) (dims : List DimText) (d : DimText) → IsWritten (cased (direction_word d.direction) d.written) → Reads (dim_due s o dims) (dim_leaves d) (with_next (dims_listed s o) dims d)
reads_dim s o dims d w =
    (_, refl, (_, ap (directed s o dims d.column d.written) (cased_found (direction_word d.direction) d.written w) ∙ direction_next s o dims d.column d.written d.direction, refl))

reads_dims : (s o : List ℕ) (first : DimText) (front ds : List DimText) → AllByRecursion IsWritten (after_commas dim_leaves ds ++ last ∷ []) → Reads (dims_listed s o first front) (after_commas dim_leaves ds ++ last ∷ []) (done (skyline s o first (front ++ ds)))
reads_dims s o first front [] w = (_, refl, ap (λ ds. done (skyline s o first ds)) (sym (append-nil front)))
reads_dims s o first front (d ∷ ds) w =
    let here = dims_listed s o first (front ++ d ∷ []) in
    let more = subst (λ (xs : List DimText). Reads here (after_commas dim_leaves ds ++ last ∷ []) (done (skyline s o first xs))) (append_assoc front (d ∷ []) ds) (reads_dims s o first (front ++ d ∷ []) ds w.1.1.1) in
    (_, refl, reads_on (dim_due s o (first ∷ front)) (dim_leaves d) (after_commas dim_leaves ds ++ last ∷ []) here _ (reads_dim s o (first ∷ front) d w.1.1.0) more)

-- each text of the grammar is read to its end
pub reads_ask : (a : AskText) → IsText a → Reads start (ask_leaves a) (done a)
reads_ask (rated head r group) w =
    reads_on start (head_leaves head) (prior_leaves r 0 ++ (group_leaves group ++ last ∷ [])) (operand (in_whole head)) (done (rated head r group))
    (reads_head head)
    (reads_on (operand (in_whole head)) (prior_leaves r 0) (group_leaves group ++ last ∷ []) (ranked (whole head) r) (done (rated head r group))
    (reads_prior r (whole head)) (reads_group head r group))
reads_ask (skyline s o first others) w =
    let begins = ap (λ k. begun s k (cased_of s)) (no_keyword s w.0) ∙ ap (begun s None) (cased_found skyline_word s w.0) in
    let dims = reads_on (dim_due s o []) (dim_leaves first) (after_commas dim_leaves others ++ last ∷ []) (dims_listed s o first []) (done (skyline s o first others)) (reads_dim s o [] first w.1.1.1.0) (reads_dims s o first [] others w.1.1.1.1) in
    (skyline_named s, begins, (dim_due s o [], ap (of_named s o) (cased_found of_word o w.1.0), dims))

-- ---- each state can be completed

-- `x` and `0`, which serve to complete a text
abbrev x_name : List ℕ
x_name = 120 ∷ []

abbrev zero_digits : List ℕ
zero_digits = 48 ∷ []

-- the reading can go on from here to the end of some text
pub record CanEnd (s : State) : Type 0 where
  pub leaves : List Leaf
  pub tree : AskText
  pub reads : Reads s leaves (done tree)

-- one more leaf in front
first_reads : (s : State) (leaf : Leaf) (m : State) → next s (token_of leaf) ≡ Some (leaf, m) → CanEnd m → CanEnd s
first_reads s leaf m e c = record { leaves = leaf ∷ c.leaves; tree = c.tree; reads = (m, e, c.reads) }

ends_here : (s : State) (a : AskText) → next s finish ≡ Some (last, done a) → CanEnd s
ends_here s a e = record { leaves = last ∷ []; tree = a; reads = (done a, e, refl) }

mutual
  ends_prior : (h : PriorHole) (r : PriorText) → CanEnd (ranked h r)
  ends_prior (whole head) r = ends_here (ranked (whole head) r) (rated head r []) (ranked_whole head r)
  ends_prior (in_group h) r = first_reads (ranked (in_group h) r) (mark right) (completed h (grouped r)) (ranked_right (in_group h) r) (ends_unary h (grouped r))
  ends_prior (in_reverse h) r = first_reads (ranked (in_reverse h) r) (mark right) (completed h (reversed r)) (ranked_right (in_reverse h) r) (ends_unary h (reversed r))

  ends_product : (h : ProductHole) (p : ProductText) → CanEnd (after h p)
  ends_product (first_product h) p = ends_prior h (one_product p)
  ends_product (next_product h r) p = ends_prior h (then_product r p)

  ends_unary : (h : UnaryHole) (u : UnaryText) → CanEnd (completed h u)
  ends_unary (first_factor h) u = ends_product h (one_factor u)
  ends_unary (next_factor h p) u = ends_product h (then_factor p u)
  ends_unary (in_minus h) u = ends_unary h (negated u)

-- a parenthesis that ends a base term
ends_based : (h : UnaryHole) (b : BasePart) (text : BaseText) → next (reading h b) (sign right) ≡ Some (mark right, completed h (based text)) → CanEnd (reading h b)
ends_based h b text e = first_reads (reading h b) (mark right) (completed h (based text)) e (ends_unary h (based text))

ends_closed : (h : UnaryHole) (l : NumberList) (first : NumberText) (others : List NumberText) → CanEnd (stepped h (list_closed l first others))
ends_closed h (in_pos column) first others = ends_unary h (based (pos_text column first others))
ends_closed h (in_set column []) first others = ends_based h _ (layered_text column (record { first = first; others = others }) []) refl
ends_closed h (in_set column (s ∷ ss)) first others = ends_based h _ (layered_text column s (ss ++ record { first = first; others = others } ∷ [])) refl

ends_listed : (h : UnaryHole) (l : NumberList) (first : NumberText) (others : List NumberText) → CanEnd (reading h (listed l first others))
ends_listed h l first others = first_reads _ (mark (closing l)) (stepped h (list_closed l first others)) (list_ends h l first others) (ends_closed h l first others)

ends_filled : (h : UnaryHole) (hole : NumberHole) (n : NumberText) → CanEnd (reading h (filled hole n))
ends_filled h (centre_of column) n = ends_based h _ (around_text column n) refl
ends_filled h (start_of column) n = first_reads _ (mark comma) (reading h (number_due (end_of column n))) refl
    (first_reads _ (number_digits (Some n) false zero_digits) (reading h (range_ended column n (record { negative = false; digits = zero_digits }))) refl (ends_based h _ (between_text column n (record { negative = false; digits = zero_digits })) refl))
ends_filled h (end_of column l) n = ends_based h _ (between_text column l n) refl
ends_filled h (next_of l []) n = ends_listed h l n []
ends_filled h (next_of l (first ∷ others)) n = ends_listed h l first (others ++ n ∷ [])

ends_due : (h : UnaryHole) (hole : NumberHole) → CanEnd (reading h (number_due hole))
ends_due h hole = first_reads _ (number_digits (least_of hole) false zero_digits) (reading h (filled hole (record { negative = false; digits = zero_digits }))) refl (ends_filled h hole (record { negative = false; digits = zero_digits }))

-- behind a column of each kind of base term
ends_columned : (h : UnaryHole) (k : BaseKind) (column : List ℕ) → CanEnd (reading h (columned k column))
ends_columned h low_kind column = ends_based h _ (low_text column) refl
ends_columned h high_kind column = ends_based h _ (high_text column) refl
ends_columned h around_kind column = first_reads _ (mark comma) (reading h (number_due (centre_of column))) refl (ends_due h (centre_of column))
ends_columned h between_kind column = first_reads _ (mark comma) (reading h (number_due (start_of column))) refl (ends_due h (start_of column))
ends_columned h pos_kind column = first_reads _ (mark comma) (reading h (number_due (next_of (in_pos column) []))) refl (ends_due h (next_of (in_pos column) []))
ends_columned h layered_kind column = first_reads _ (mark comma) (reading h (set_due column [])) refl (first_reads _ (mark left_brace) (reading h (number_due (next_of (in_set column []) []))) refl (ends_due h (next_of (in_set column []) [])))

ends_part : (h : UnaryHole) (b : BasePart) → CanEnd (reading h b)
ends_part h (named k) = first_reads _ (mark left) (reading h (opened k)) refl (first_reads _ (column_name x_name) (reading h (columned k x_name)) refl (ends_columned h k x_name))
ends_part h (opened k) = first_reads _ (column_name x_name) (reading h (columned k x_name)) refl (ends_columned h k x_name)
ends_part h (columned k column) = ends_columned h k column
ends_part h (number_due n) = ends_due h n
ends_part h (number_signed n) = first_reads _ (number_digits (least_of n) true zero_digits) (reading h (filled n (record { negative = true; digits = zero_digits }))) refl (ends_filled h n (record { negative = true; digits = zero_digits }))
ends_part h (centred column centre) = ends_filled h (centre_of column) centre
ends_part h (ranged column l) = ends_filled h (start_of column) l
ends_part h (range_ended column l r) = ends_based h _ (between_text column l r) refl
ends_part h (listed l first others) = ends_listed h l first others
ends_part h (set_due column sets) = first_reads _ (mark left_brace) (reading h (number_due (next_of (in_set column sets) []))) refl (ends_due h (next_of (in_set column sets) []))
ends_part h (sets_listed column first others) = ends_based h _ (layered_text column first others) refl

ends_operand : (h : UnaryHole) → CanEnd (operand h)
ends_operand h = first_reads (operand h) (name low_word) (reading h (named low_kind)) refl (ends_part h (named low_kind))

-- one more behind some, where each that stands there can be the last
ends_next : {X : Type 0} (parts : X → List X → State) → ((first : X) (others : List X) → CanEnd (parts first others)) → (some : List X) (x : X) → CanEnd (with_next parts some x)
ends_next parts each [] x = each x []
ends_next parts each (first ∷ others) x = each first (others ++ x ∷ [])

ends_named_dim : (s o : List ℕ) (dims : List DimText) (column : List ℕ) → CanEnd (dim_named s o dims column)
ends_named_dim s o dims column =
    let d : DimText = record { column = column; direction = minimal; written = cased_letters min_word } in
    first_reads _ (cased min_word (cased_letters min_word)) (with_next (dims_listed s o) dims d) refl (ends_next (dims_listed s o) (λ first others. ends_here _ (skyline s o first others) refl) dims d)

ends_dim : (s o : List ℕ) (dims : List DimText) → CanEnd (dim_due s o dims)
ends_dim s o dims = first_reads _ (column_name x_name) (dim_named s o dims x_name) refl (ends_named_dim s o dims x_name)

-- each state but the end can be completed
pub can_end : (s : State) → CanEnd s
can_end start = first_reads start (name best_word) (operand (in_whole best_head)) refl (ends_operand (in_whole best_head))
can_end (operand h) = ends_operand h
can_end (reverse_named h) = first_reads (reverse_named h) (opens (unary_depth h) left) (operand (first_factor (first_product (in_reverse h)))) refl (ends_operand (first_factor (first_product (in_reverse h))))
can_end (reading h b) = ends_part h b
can_end (after h p) = ends_product h p
can_end (count_due k) = first_reads (count_due k) (count_digits zero_digits) (operand (in_whole (count_head k zero_digits))) refl (ends_operand (in_whole (count_head k zero_digits)))
can_end (group_due head r columns) = first_reads _ (column_name x_name) (with_next (group_listed head r) columns x_name) refl (ends_next (group_listed head r) (λ first others. ends_here _ (rated head r (first ∷ others)) refl) columns x_name)
can_end (group_listed head r first others) = ends_here _ (rated head r (first ∷ others)) refl
can_end (skyline_named s) = first_reads (skyline_named s) (cased of_word (cased_letters of_word)) (dim_due s (cased_letters of_word) []) refl (ends_dim s (cased_letters of_word) [])
can_end (dim_due s o dims) = ends_dim s o dims
can_end (dim_named s o dims column) = ends_named_dim s o dims column
can_end (dims_listed s o first others) = ends_here _ (skyline s o first others) refl
can_end (done a) = record { leaves = []; tree = a; reads = refl }
