-- What is shown of a clause that keeps one of equal rows spells it; and so does what is shown of any ask.
use Rattle.pref_term.proofs.Common.{[], arith, ◌≡◌, ◌<◌, ◌≤◌, ℕ, List, ◌∷◌, ◌++◌, map, Bool, true, false, Some, Ok, length, refl, ap, ◌∙◌, append-nil, append_assoc, codes, fold, All, All-head, All-tail, ReadsBelow}
use Rattle.pref_term.proofs.Common.{is_name_byte, schema_of, comma, Token, word, Placed, tokens_of, Direction, minimal, maximal, different, direction_word, DimText, AskText, skyline}
use Rattle.pref_term.proofs.Common.{cased, cased_letters, last, dim_leaves, ask_leaves, says_distinct, plain, column, low, high, Preference, scored, pareto, Question}
use Rattle.pref_term.proofs.Common.{FitsWidth, IsAsk, IsClause, IsDimension, IsSkyline, Names, Spells, tokens_in, tokens_on, orders_of, groups_of, product_of, question, name_at, nests}
use Rattle.pref_term.proofs.Common.{shown_after_commas, shown_diff, shown_dims, shown, after_commas}
use Rattle.pref_term.proofs.ShownNames.{is_word_text}
use Rattle.pref_term.proofs.ShownLemmas.{column_same}
use Rattle.pref_term.proofs.ShownTokens.{lexed, Ends, place_free, word_lexed}
use Rattle.pref_term.proofs.ShowLaw.{Says, IsSaid, ended, leaf_said, blank, marked, named, after_commas_end, after_commas_said, plain_spells}

-- ---- the tree of a clause: its MIN and MAX columns, and then others

abbrev dim_text : Names → ℕ → Direction → DimText
dim_text names col direction = record { column = name_at names col; direction = direction; written = cased_letters (direction_word direction) }

abbrev dim_of : Names → Preference → DimText
dim_of names (scored (high col)) = dim_text names col maximal
dim_of names (scored t) = dim_text names (column t) minimal
dim_of names _ = dim_text names 0 minimal

abbrev diff_dim : Names → ℕ → DimText
diff_dim names col = dim_text names col different

abbrev first_dim : Names → Preference → DimText
first_dim names (pareto p q) = first_dim names p
first_dim names p = dim_of names p

abbrev later_dims : Names → Preference → List DimText → List DimText
later_dims names (pareto p q) ds = later_dims names p (dim_of names q ∷ ds)
later_dims names _ ds = ds

-- ---- what its text says

module _ (names : Names) (schema : schema_of names ≡ Ok names) where
  column_said : (col : ℕ) (direction : Direction) → col < length names → IsSaid names (name_at names col ++ 32 ∷ cased_letters (direction_word direction)) (dim_leaves (dim_text names col direction))
  column_said col direction n rest more e h =
      let letters = cased_letters (direction_word direction) in
      let leaf = cased (direction_word direction) letters in
      let is_word : is_word_text letters ≡ true = grind (arith) in
      simp append_assoc (named schema col n refl (blank (leaf_said letters leaf (word_lexed letters rest is_word e) refl (grind (arith)) h)))

  dim_said : (p : Preference) → IsDimension p → ReadsBelow (length names) p → IsSaid names (shown_dims names p) (dim_leaves (dim_of names p))
  dim_said (scored (low col)) d c = column_said col minimal c
  dim_said (scored (high col)) d c = column_said col maximal c
  dim_said _ d c = absurd d

  -- such columns, and then what is said of others
  clause_said : (p : Preference) (ds : List DimText) (rest : List ℕ) → IsClause p → ReadsBelow (length names) p → Ends is_name_byte rest → Says names rest (after_commas dim_leaves ds ++ last ∷ [])
      → Says names (shown_dims names p ++ rest) (dim_leaves (first_dim names p) ++ (after_commas dim_leaves (later_dims names p ds) ++ last ∷ []))
  clause_said (scored t) ds rest c k e h = dim_said (scored t) c k rest _ e h
  clause_said (pareto p q) ds rest c k e h = simp append_assoc (clause_said p (dim_of names q ∷ ds) _ c.0 k.0 refl (marked comma (dim_said q c.1 k.1 rest _ e h)))
  clause_said _ ds rest c k e h = absurd c

  diffs_said : (cs : List ℕ) → All (λ col. col < length names) cs → Ends is_name_byte (shown_after_commas (shown_diff names) cs) × Says names (shown_after_commas (shown_diff names) cs) (after_commas dim_leaves (map (diff_dim names) cs) ++ last ∷ [])
  diffs_said cs n =
      let dims = after_commas_said names (shown_diff names) dim_leaves (diff_dim names) (λ col. col < length names) (λ c. column_said c different) cs n [] _ tt (ended names) in
      (simp append-nil at (after_commas_end (shown_diff names) cs [] tt), simp append-nil at dims)

-- behind the three words
words_lexed : (rest : List ℕ) → lexed (codes "skyline of distinct " ++ rest) ≡ word (codes "skyline") ∷ word (codes "of") ∷ word (codes "distinct") ∷ lexed rest
words_lexed rest = grind (arith, word_lexed, place_free)

-- such a text says `distinct`, since the second token behind it is a word
said_tokens : (ts : List Placed) (t w : List ℕ) (rest : List Token) → tokens_in ts ≡ word (codes "skyline") ∷ word (codes "of") ∷ word (codes "distinct") ∷ word t ∷ word w ∷ rest
    → (says_distinct ts ≡ true) × (tokens_in (plain ts) ≡ word (codes "skyline") ∷ word (codes "of") ∷ word t ∷ word w ∷ rest)
said_tokens (a ∷ b ∷ c ∷ d ∷ e ∷ ts) t w rest h = search
said_tokens _ t w rest h = cc

-- ---- its meaning

module _ (names : Names) (schema : schema_of names ≡ Ok names) where
  dim_meaning : (p : Preference) (ds : List DimText) → IsDimension p → ReadsBelow (length names) p → (orders_of names (dim_of names p ∷ ds) ≡ p ∷ orders_of names ds) × (groups_of names (dim_of names p ∷ ds) ≡ groups_of names ds)
  dim_meaning (scored (low col)) ds d k = (ap (λ c. scored (low c) ∷ orders_of names ds) (column_same names schema col k), refl)
  dim_meaning (scored (high col)) ds d k = (ap (λ c. scored (high c) ∷ orders_of names ds) (column_same names schema col k), refl)
  dim_meaning _ ds d k = absurd d

  -- the product of its MIN and MAX columns is the preference again, since that is left-grouped
  clause_meaning : (p : Preference) (ds : List DimText) → IsClause p → ReadsBelow (length names) p → (product_of (orders_of names (first_dim names p ∷ later_dims names p ds)) ≡ Some (fold pareto p (orders_of names ds)))
      × (groups_of names (first_dim names p ∷ later_dims names p ds) ≡ groups_of names ds)
  clause_meaning (scored t) ds c k = let dim = dim_meaning (scored t) ds c k in (ap product_of dim.0, dim.1)
  clause_meaning (pareto p q) ds c k = grind (arith, clause_meaning p (dim_of names q ∷ ds) c.0 k.0, dim_meaning q ds c.1 k.1)
  clause_meaning _ ds c k = absurd c

  diffs_meaning : (cs : List ℕ) → All (λ col. col < length names) cs → (orders_of names (map (diff_dim names) cs) ≡ []) × (groups_of names (map (diff_dim names) cs) ≡ cs)
  diffs_meaning [] h = (refl, refl)
  diffs_meaning (c ∷ cs) h = grind (arith, h, diffs_meaning cs (All-tail (λ col. col < length names) c cs h), column_same names schema c (All-head (λ col. col < length names) c cs h))

  -- ---- the clause

  module _ (q : Question) (keeps : q.distinct ≡ true) (clause : IsSkyline q) (width : FitsWidth (length names) q) where
    abbrev diffs : List DimText
    diffs = map (diff_dim names) q.group

    abbrev later : List DimText
    later = later_dims names q.preference diffs

    abbrev tree : AskText
    tree = skyline (codes "skyline") (codes "of") (first_dim names q.preference) later

    dims : Says names (shown_dims names q.preference ++ shown_after_commas (shown_diff names) q.group) (dim_leaves (first_dim names q.preference) ++ (after_commas dim_leaves later ++ last ∷ []))
    dims = let others = diffs_said names schema q.group width.group in clause_said names schema q.preference diffs _ clause.preference width.preference others.0 others.1

    said : (says_distinct (tokens_of (shown names q)) ≡ true) × (tokens_in (plain (tokens_of (shown names q))) ≡ tokens_on (ask_leaves tree))
    said =
        let text = shown_dims names q.preference ++ shown_after_commas (shown_diff names) q.group in
        said_tokens (tokens_of (shown names q)) _ _ _ (rw keeps (words_lexed text ∙ ap (λ ts. word (codes "skyline") ∷ word (codes "of") ∷ word (codes "distinct") ∷ ts) dims.tokens))

    meaning_is : question names true tree ≡ Some q
    meaning_is = grind (arith, clause_meaning q.preference diffs clause.preference width.preference, diffs_meaning q.group width.group)

    clause_spells : length (shown names q) ≤ 4096 → Spells names (shown names q) q
    clause_spells short = record { tree = tree; written = (refl, (refl, dims.written)); short = short; tokens = said.1; good = (refl, (refl, dims.good)); meaning = ap (λ d. question names d tree) said.0 ∙ meaning_is }

-- ---- any ask

-- where the shown text keeps the limits of length and nesting, it spells what was shown
pub shown_spells : (names : Names) (q : Question) → schema_of names ≡ Ok names → IsAsk q → FitsWidth (length names) q → nests q.preference ≤ 64 → length (shown names q) ≤ 4096 → Spells names (shown names q) q
shown_spells names q schema ask width deep short = go q.distinct refl
  where
    go : (d : Bool) → q.distinct ≡ d → Spells names (shown names q) q
    go true keeps = clause_spells names schema q keeps (ask.clause keeps) width short
    go false all = plain_spells names schema q ask all width deep short
