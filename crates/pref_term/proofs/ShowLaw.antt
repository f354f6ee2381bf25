-- What is shown of an ask that keeps all equal rows spells it.
use Rattle.pref_term.proofs.Common.{[], ◌≡◌, ◌<◌, ◌≤◌, ◌+◌, ℕ, ℤ, pos, negsuc, suc, List, ◌∷◌, ◌++◌, map, true, cond, Option, Some, None, Ok, length, refl, ap, ◌∙◌, append_assoc, append-nil, arith}
use Rattle.pref_term.proofs.Common.{false, FitsSigned, decimal, is_none, codes, AllByRecursion, digits_value-decimal, All, All-head, All-tail, nat_tests, left, right, minus, comma, star, ampersand}
use Rattle.pref_term.proofs.Common.{Sign, left_brace, right_brace, rated, mark, opens, name, last, column_name, number_digits, count_digits, head_leaves, group_leaves, number_leaves, base_leaves}
use Rattle.pref_term.proofs.Common.{product_leaves, unary_leaves, set_leaves, schema_of, column, ReadsBelow, IsWritableSet, IsWritableBase, IsWritable, Question, FitsWidth, IsCount, cut_of, IsAsk}
use Rattle.pref_term.proofs.Common.{Names, Spells, IsGood, IsWritten, unknown_column, below, Base, low, high, around, one_of, Preference, scored, pareto, prior, reverse, between, layered}
use Rattle.pref_term.proofs.Common.{is_prior, is_composed, held, held_nests, nests, name_at, shown, shown_after_commas, shown_base, shown_group, shown_mode, shown_set, shown_term, Mode, Best, TopLevel, AtLeast}
use Rattle.pref_term.proofs.Common.{is_name_byte, Leaf, token_of, tokens_on, NumberText, signed_leaves, after_commas, column_leaves, Keyword, letters_of, low_word, high_word, around_word, between_word, pos_word}
use Rattle.pref_term.proofs.Common.{layered_word, best_word, top_level_word, at_least_word, by_word, ask_leaves, prior_leaves, AskText}
use Rattle.std.specs.Fmt.{signed_decimal}
use Rattle.std.specs.Int.{w64}
use Rattle.pref_term.proofs.CycleLemmas.{depth_good}
use Rattle.pref_term.proofs.DistinctLemmas.{tree_spells}
use Rattle.pref_term.proofs.ShownNames.{is_named}
use Rattle.pref_term.proofs.ShownLemmas.{own_numerals, number_text, number_same, set_text, base_text, head_text, head_same, columns_same, Shape, shape_leaves, factor, as_prior, as_product, as_factor, shape_of, prior_same, meaning_same}
use Rattle.pref_term.proofs.ShownTokens.{lexed, Ends, place_free, sign_text, sign_lexed, word_lexed, keyword_word, decimal_lexed}

-- ---- what a text says

-- the text has these leaves, none with a fault, and each word in its case
pub record Says (names : Names) (text : List ℕ) (leaves : List Leaf) : Type 0 where
  pub tokens : lexed text ≡ tokens_on leaves
  pub good : AllByRecursion (IsGood names) leaves
  pub written : AllByRecursion IsWritten leaves

-- nothing is left
pub ended : (names : Names) → Says names [] (last ∷ [])
ended names = record { tokens = refl; good = (refl, tt); written = (tt, tt) }

module _ {names : Names} {rest : List ℕ} {more : List Leaf} where
  -- a leaf before what is said
  pub leaf_said : (text : List ℕ) (leaf : Leaf) → lexed (text ++ rest) ≡ token_of leaf ∷ lexed rest → IsGood names leaf → IsWritten leaf → Says names rest more → Says names (text ++ rest) (leaf ∷ more)
  leaf_said text leaf e good written h = record { tokens = e ∙ ap (λ ts. token_of leaf ∷ ts) h.tokens; good = (good, h.good); written = (written, h.written) }

  pub blank : Says names rest more → Says names (32 ∷ rest) more
  blank h = record { tokens = place_free 0 1 0 rest ∙ h.tokens; good = h.good; written = h.written }

  pub marked : (s : Sign) → Says names rest more → Says names (sign_text s ++ rest) (mark s ∷ more)
  marked s = leaf_said (sign_text s) (mark s) (sign_lexed s rest) refl tt

  opened : (s : Sign) (depth : ℕ) → depth < 64 → Says names rest more → Says names (sign_text s ++ rest) (opens depth s ∷ more)
  opened s depth room = leaf_said (sign_text s) (opens depth s) (sign_lexed s rest) (depth_good names depth s room) tt

  worded : (k : Keyword) → Ends is_name_byte rest → Says names rest more → Says names (letters_of k ++ rest) (name k ∷ more)
  worded k e = leaf_said (letters_of k) (name k) (word_lexed (letters_of k) rest (keyword_word k) e) refl tt

  pub named : schema_of names ≡ Ok names → (col : ℕ) → col < length names → Ends is_name_byte rest → Says names rest more → Says names (name_at names col ++ rest) (column_name (name_at names col) ∷ more)
  named schema col inside e =
      let own = is_named names schema col inside in
      leaf_said (name_at names col) _ (word_lexed (name_at names col) rest own.0 e) (ap (λ o. cond (is_none o) (Some unknown_column) None) own.1) tt

  counted : (k : ℕ) → IsCount k → Ends is_name_byte rest → Says names rest more → Says names (decimal k ++ rest) (count_digits (decimal k) ∷ more)
  counted k c e = leaf_said (decimal k) _ (decimal_lexed k rest (omega (arith, c.1)) e) (grind (arith, digits_value-decimal, own_numerals, c.0, c.1)) tt

-- the tree of a question that keeps all equal rows
abbrev tree_of : Names → Question → AskText
tree_of names q = rated (head_text q.mode) (as_prior (shape_of names q.preference)) (map (name_at names) q.group)

-- a text that is said with these leaves, whatever follows it that no name goes on with
abbrev pub IsSaid : Names → List ℕ → List Leaf → Type 0
IsSaid names text leaves = (rest : List ℕ) (more : List Leaf) → Ends is_name_byte rest → Says names rest more → Says names (text ++ rest) (leaves ++ more)

pub after_commas_end : {X : Type 0} (text : X → List ℕ) (xs : List X) (rest : List ℕ) → Ends is_name_byte rest → Ends is_name_byte (shown_after_commas text xs ++ rest)
after_commas_end text [] rest e = e
after_commas_end text (x ∷ xs) rest e = refl

module _ (names : Names) where
  numbered : (least : Option NumberText) (v : ℤ) → FitsSigned w64 v → below least v ≡ None → IsSaid names (signed_decimal v) (signed_leaves least (number_text v).negative (number_text v).digits)
  numbered least (pos n) f above rest more e h =
      leaf_said (decimal n) (number_digits least false (decimal n)) (decimal_lexed n rest (omega (arith, f.sfits)) e) (grind (arith, nat_tests, digits_value-decimal, own_numerals, f.sfits, above)) tt h
  numbered least (negsuc n) f above rest more e h =
      let number = decimal (suc n) in
      marked minus (leaf_said number (number_digits least true number) (decimal_lexed (suc n) rest (omega (arith, f.sfits)) e) (grind (arith, nat_tests, digits_value-decimal, own_numerals, f.sfits, above)) tt h)

  -- each after a comma
  pub after_commas_said : {X T : Type 0} (text : X → List ℕ) (leaves : T → List Leaf) (tree : X → T) (Fits : X → Type 0) → ((x : X) → Fits x → IsSaid names (text x) (leaves (tree x))) → (xs : List X) → All Fits xs
      → IsSaid names (shown_after_commas text xs) (after_commas leaves (map tree xs))
  after_commas_said text leaves tree Fits each [] k rest more e h = h
  after_commas_said text leaves tree Fits each (x ∷ xs) k rest more e h =
      simp append_assoc (marked comma (each x (All-head Fits x xs k) _ _ (after_commas_end text xs rest e) (after_commas_said text leaves tree Fits each xs (All-tail Fits x xs k) rest more e h)))

  -- numbers, and the sign that closes their list
  list_said : (v : ℤ) (vs : List ℤ) (closing : Sign) (rest : List ℕ) (more : List Leaf) → All (FitsSigned w64) (v ∷ vs) → Ends is_name_byte (sign_text closing ++ rest) → Says names rest more
      → Says names (signed_decimal v ++ (shown_after_commas signed_decimal vs ++ (sign_text closing ++ rest))) (number_leaves (number_text v) ++ (after_commas number_leaves (map number_text vs) ++ mark closing ∷ more))
  list_said v vs closing rest more f e h =
      let others = after_commas_said signed_decimal number_leaves number_text (FitsSigned w64) (λ w k. numbered None w k refl) vs (All-tail (FitsSigned w64) v vs f) _ _ e (marked closing h) in
      numbered None v (All-head (FitsSigned w64) v vs f) refl _ _ (after_commas_end signed_decimal vs _ e) others

  set_said : (set : List ℤ) → IsWritableSet set → IsSaid names (shown_set set) (set_leaves (set_text set))
  set_said [] w rest more e h = absurd (w.0 refl)
  set_said (v ∷ vs) w rest more e h = simp append_assoc (marked left_brace (list_said v vs right_brace rest more w.1 refl h))

module _ (names : Names) (schema : schema_of names ≡ Ok names) where
  base_said : (b : Base) → column b < length names → IsWritableBase b → IsSaid names (shown_base names b) (base_leaves (base_text names b))
  base_said (low col) n w rest more e h = simp append_assoc (worded low_word refl (marked left (named schema col n refl (marked right h))))
  base_said (high col) n w rest more e h = simp append_assoc (worded high_word refl (marked left (named schema col n refl (marked right h))))
  base_said (around col centre) n w rest more e h =
      simp append_assoc (worded around_word refl (marked left (named schema col n refl (marked comma (numbered names None centre w refl _ _ refl (marked right h))))))
  base_said (between col l r) n w rest more e h =
      simp append_assoc (worded between_word refl (marked left (named schema col n refl (marked comma (numbered names None l w.0 refl _ _ refl (marked comma (numbered names (Some (number_text l)) r w.1 (grind (arith, number_same, w.0, w.2)) _ _ refl (marked right h))))))))
  base_said (one_of col []) n w rest more e h = absurd (w.0 refl)
  base_said (one_of col (v ∷ vs)) n w rest more e h =
      simp append_assoc (worded pos_word refl (marked left (named schema col n refl (marked comma (list_said names v vs right rest more w.1 refl h)))))
  base_said (layered col []) n w rest more e h = absurd (w.0 refl)
  base_said (layered col (s ∷ ss)) n w rest more e h =
      let others = after_commas_said names shown_set set_leaves set_text IsWritableSet (set_said names) ss (All-tail IsWritableSet s ss w.1) _ _ refl (marked right h) in
      let all = set_said names s (All-head IsWritableSet s ss w.1) _ _ (after_commas_end shown_set ss _ refl) others in
      simp append_assoc (simp append_assoc at (worded layered_word refl (marked left (named schema col n refl (marked comma all)))))

  -- so is a term within so many open nestings
  abbrev IsSaidWithin : Preference → Type 0
  IsSaidWithin p = (depth : ℕ) → nests p + depth ≤ 64 → IsSaid names (shown_term names p) (shape_leaves (shape_of names p) depth)

  prior_said : (s : Shape) (depth : ℕ) (text : List ℕ) → IsSaid names text (shape_leaves s depth) → IsSaid names text (prior_leaves (as_prior s) depth)
  prior_said (factor u) depth text g = g
  prior_said _ depth text g = g

  grouped_said : (text : List ℕ) (leaves : List Leaf) (depth : ℕ) → depth < 64 → IsSaid names text leaves → IsSaid names (codes "(" ++ text ++ codes ")") (opens depth left ∷ leaves ++ mark right ∷ [])
  grouped_said text leaves depth room g rest more e h = simp append_assoc (opened left depth room (g _ _ refl (marked right h)))

  product_said : (p : Preference) → IsSaidWithin p → (depth : ℕ) → held_nests (is_prior p) (nests p) + depth ≤ 64 → IsSaid names (held (is_prior p) (shown_term names p)) (product_leaves (as_product (shape_of names p)) depth)
  product_said (prior p q) g depth k = grouped_said _ _ depth (omega arith) (g (depth + 1) (omega arith))
  product_said _ g depth k = g depth k

  factor_said : (p : Preference) → IsSaidWithin p → (depth : ℕ) → held_nests (is_composed p) (nests p) + depth ≤ 64 → IsSaid names (held (is_composed p) (shown_term names p)) (unary_leaves (as_factor (shape_of names p)) depth)
  factor_said (pareto p q) g depth k = grouped_said _ _ depth (omega arith) (g (depth + 1) (omega arith))
  factor_said (prior p q) g depth k = grouped_said _ _ depth (omega arith) (g (depth + 1) (omega arith))
  factor_said _ g depth k = g depth k

  term_said : (p : Preference) → ReadsBelow (length names) p → IsWritable p → IsSaidWithin p
  term_said (scored b) c w depth k rest more e h = base_said b c w rest more e h
  term_said (pareto p q) c w depth k rest more e h = simp append_assoc (product_said p (term_said p c.0 w.0) depth (omega arith) _ _ refl (marked star (factor_said q (term_said q c.1 w.1) depth (omega arith) rest more e h)))
  term_said (prior p q) c w depth k rest more e h =
      simp append_assoc (prior_said (shape_of names p) depth _ (term_said p c.0 w.0 depth (omega arith)) _ _ refl (marked ampersand (product_said q (term_said q c.1 w.1) depth (omega arith) rest more e h)))
  term_said (reverse p) c w depth k rest more e h = opened minus depth (omega arith) (factor_said p (term_said p c w) (depth + 1) (omega arith) rest more e h)

  mode_said : (m : Mode) → IsCount (cut_of m) → (rest : List ℕ) (more : List Leaf) → Says names rest more → Says names (shown_mode m ++ rest) (head_leaves (head_text m) ++ more)
  mode_said Best c rest more h = worded best_word refl (blank h)
  mode_said (TopLevel k) c rest more h = simp append_assoc (worded top_level_word refl (blank (counted k c refl (blank h))))
  mode_said (AtLeast k) c rest more h = simp append_assoc (worded at_least_word refl (blank (counted k c refl (blank h))))

  group_said : (cs : List ℕ) → All (λ col. col < length names) cs → Ends is_name_byte (shown_group names cs) × Says names (shown_group names cs) (group_leaves (map (name_at names) cs) ++ last ∷ [])
  group_said [] n = (tt, ended names)
  group_said (c ∷ cs) n =
      let Below : ℕ → Type 0 = λ col. col < length names in
      let others = after_commas_said names (name_at names) column_leaves (name_at names) Below (λ d k rest more. named schema d k) cs (All-tail Below c cs n) [] _ tt (ended names) in
      (refl, simp append-nil at (blank (worded by_word refl (blank (named schema c (All-head Below c cs n) (after_commas_end (name_at names) cs [] tt) others)))))

  tree_said : (q : Question) → IsAsk q → FitsWidth (length names) q → nests q.preference ≤ 64 → q.distinct ≡ false → Says names (shown names q) (ask_leaves (tree_of names q))
  tree_said q ask width deep all =
      let group = group_said q.group width.group in
      let term = prior_said (shape_of names q.preference) 0 _ (term_said q.preference width.preference ask.writable 0 (omega arith)) _ _ group.0 group.1 in
      rw all (simp append_assoc (mode_said q.mode ask.count _ _ term))

  -- where the shown text keeps the limits of length and nesting, it spells what was shown
  pub plain_spells : (q : Question) → IsAsk q → q.distinct ≡ false → FitsWidth (length names) q → nests q.preference ≤ 64 → length (shown names q) ≤ 4096 → Spells names (shown names q) q
  plain_spells q ask all width deep short =
      let said = tree_said q ask width deep all in
      let meaning = meaning_same names schema q.preference width.preference ask.writable in
      tree_spells names (shown names q) (tree_of names q) q said.written short said.tokens said.good
      (grind (arith, all, prior_same (shape_of names q.preference) names, meaning, columns_same names schema q.group width.group, head_same q.mode ask.count))
