-- What the parts of the reader that call each other promise.
use Rattle.pref_term.proofs.Common.{◌≡◌, ◌<◌, ◌+◌, ℕ, List, ◌∷◌, Bor, Result, true, cond, Some, None, nat_lt, refl, sym, ap, subst, ◌∙◌, arith, ◌≢◌, nat_tests, Sign}
use Rattle.pref_term.proofs.Common.{left, right, star, ampersand, minus, Token, word, sign, Placed, reverse_word, keyword_of, based, reversed, negated, then_factor}
use Rattle.pref_term.proofs.Common.{then_product, one_factor, one_product, first_product, ProductHole, PriorHole, product_depth, prior_depth, name, opens, Names, own_fault, too_deep, unary_meaning, product_meaning, BaseKind, kind_word, named, UnaryHole, in_minus}
use Rattle.pref_term.proofs.Common.{first_factor, next_factor, next_product, in_group, in_reverse, unary_depth, State, operand, reverse_named, reading, completed, ranked, next}
use Rattle.pref_term.proofs.Common.{operand_word, Goes, Fails, IsOther, Passes, ReadsBase, ReadsUnary, ReadsFactors, ReadsProducts, ReadsProduct, ReadsPrior, ReadsGroup, FailsBase, NotNext, ahead, taken, seen, Unexpected, TooDeep, ◌≤◌}
use Rattle.pref_term.proofs.Common.{FailsUnary, FailsOpened, ReadsOpened, scored, low, high, low_kind, high_kind, low_word, high_word, FailsGroup, FailsProduct, FailsPrior, Parses, grouped, Ok, Err, Preference, pareto, prior, reverse, Cursor, Lexeme, Word, Term, TermFault, preference_of}
use Rattle.pref_term.proofs.GrammarComplete.{ranked_goes_on, ranked_right}
use Rattle.pref_term.proofs.LedLemmas.{at_place, goes_then, goes_fails, high_read, low_read, opened_base_fails, passes_goes, sign_behind, taken_is}

-- ---- nestings

pub depth_good : (names : Names) (depth : ℕ) (s : Sign) → depth < 64 → own_fault names (opens depth s) ≡ None
depth_good names depth s h = let e : nat_lt depth 64 ≡ true = grind (arith, nat_tests) in ap (λ b. cond b None (Some too_deep)) e

-- a nesting that opens where there is room
opens_goes : (names : Names) (depth : ℕ) (g : Sign) (ts us : List Placed) (s m : State) (open_here : ℕ) → open_here ≡ depth → depth < 64 → Passes (sign g) ts us → next s (sign g) ≡ Some (opens open_here g, m) → Goes names s ts m us
opens_goes names depth g ts us s m here e h c f = passes_goes names (sign g) ts us s m (opens here g) c f (depth_good names here g (subst (λ (d : ℕ). d < 64) (sym e) h))

-- a converse
module _ (names : Names) (depth inside at : ℕ) (ts us : List Placed) (room : depth < 64) (one_on : inside ≡ depth + 1) (e : ts ≡ at_place (sign minus) at ∷ us) where
  minus_goes : (h : UnaryHole) → unary_depth h ≡ depth → Goes names (operand h) ts (operand (in_minus h)) us
  minus_goes h d = opens_goes names depth minus ts us _ _ (unary_depth h) d room (at, e) refl

  pub minus_read : (vs : List Placed) (p : Preference) → ReadsUnary names inside us p vs → ReadsUnary names depth ts (reverse p) vs
  minus_read vs p r = record { tree = negated r.tree; meaning = ap reverse r.meaning; known = r.known; goes = λ h d. goes_then names _ _ _ ts us vs (minus_goes h d) (r.goes (in_minus h) (ap (λ n. n + 1) d ∙ sym one_on)) }

  pub minus_fails : (f : TermFault) → FailsUnary names inside us f → FailsUnary names depth ts f
  minus_fails f r = record { fails = λ h d. goes_fails names _ _ ts us f (minus_goes h d) (r.fails (in_minus h) (ap (λ n. n + 1) d ∙ sym one_on)) }

-- ---- a group

pub group_not_opened : (names : Names) (depth : ℕ) (ts : List Placed) (t : Lexeme) → ts ≡ taken t → seen t.token ≢ sign left → FailsGroup names depth ts (Unexpected t.at)
group_not_opened names depth ts t e n = grind arith

-- a nesting that opens where there is no room
pub group_too_deep : (names : Names) (depth : ℕ) (ts us : List Placed) (at : ℕ) (f : TermFault) → 64 ≤ depth → f ≡ TooDeep at → ts ≡ at_place (sign left) at ∷ us → FailsGroup names depth ts f
group_too_deep names depth ts us at f full e c = grind (arith)

-- a token that is none of three
end_fails : (names : Names) (vs : List Placed) (f : TermFault) (s : State) → IsOther (sign right) vs f → NotNext (sign star) vs → NotNext (sign ampersand) vs → ((u : Token) → u ≢ sign right → u ≢ sign star → u ≢ sign ampersand → next s u ≡ None) → Fails names s vs f
end_fails names vs f s o a b stuck = grind (arith)

-- what is read within
module _ (names : Names) (depth inside at : ℕ) (ts us : List Placed) (room : depth < 64) (one_on : inside ≡ depth + 1) (c : ts ≡ at_place (sign left) at ∷ us) where
  group_opens : (s m : State) (h : UnaryHole) → unary_depth h ≡ depth → next s (sign left) ≡ Some (opens (unary_depth h) left, m) → Goes names s ts m us
  group_opens s m h e = opens_goes names depth left ts us s m (unary_depth h) e room (at, c)

  deeper : (h : UnaryHole) → unary_depth h ≡ depth → unary_depth h + 1 ≡ inside
  deeper h e = ap (λ d. d + 1) e ∙ sym one_on

  pub group_within_fails : (f : TermFault) → FailsPrior names inside us f → FailsGroup names depth ts f
  group_within_fails f r =
      record {
        alone = λ _ _ h e. goes_fails names _ _ ts us f (group_opens (operand h) _ h e refl) (r.fails (in_group h) (deeper h e));
        reversed = λ h e. goes_fails names _ _ ts us f (group_opens (reverse_named h) _ h e refl) (r.fails (in_reverse h) (deeper h e));
      }

  module _ (vs : List Placed) (p : Preference) (r : ReadsPrior names inside us p vs) where
    group_goes : (h : UnaryHole) → unary_depth h ≡ depth → Goes names (operand h) ts (ranked (in_group h) r.products.tree) vs
    group_goes h e = goes_then names _ _ _ ts us vs (group_opens (operand h) _ h e refl) (r.products.goes (in_group h) (deeper h e))

    reverse_goes : (h : UnaryHole) → unary_depth h ≡ depth → Goes names (reverse_named h) ts (ranked (in_reverse h) r.products.tree) vs
    reverse_goes h e = goes_then names _ _ _ ts us vs (group_opens (reverse_named h) _ h e refl) (r.products.goes (in_reverse h) (deeper h e))

    pub group_read : (ws : List Placed) → Passes (sign right) vs ws → ReadsGroup names depth ts p ws
    group_read ws d =
        record {
          tree = r.products.tree;
          meaning = r.products.meaning;
          known = r.products.known;
          goes = λ h e. sign_behind names ts vs ws _ _ _ right (group_goes h e) d (ranked_right (in_group h) r.products.tree);
          goes_reversed = λ h e. sign_behind names ts vs ws _ _ _ right (reverse_goes h e) d (ranked_right (in_reverse h) r.products.tree);
        }

    pub group_end_fails : (f : TermFault) → IsOther (sign right) vs f → FailsGroup names depth ts f
    group_end_fails f o =
        record {
          alone = λ _ _ h e. goes_fails names _ _ ts vs f (group_goes h e) (end_fails names vs f (ranked (in_group h) r.products.tree) o r.stops r.stops_too (λ u a b c. grind arith));
          reversed = λ h e. goes_fails names _ _ ts vs f (reverse_goes h e) (end_fails names vs f (ranked (in_reverse h) r.products.tree) o r.stops r.stops_too (λ u a b c. grind arith));
        }

-- a group that is a factor
pub group_alone : (names : Names) (depth at : ℕ) (ts us : List Placed) → ts ≡ at_place (sign left) at ∷ us → (r : Result (Term × Cursor) TermFault) → Parses (ReadsGroup names depth ts) (FailsGroup names depth ts) r → Parses (ReadsUnary names depth ts) (FailsUnary names depth ts) r
group_alone names depth at ts us c (Ok x) g = record { tree = grouped g.tree; meaning = g.meaning; known = g.known; goes = g.goes }
group_alone names depth at ts us c (Err f) g = record { fails = g.alone us (at, c) }

-- ---- words

-- a base term behind the word that was taken
module _ (names : Names) (k : BaseKind) (t : Lexeme) (letters : Bor (List ℕ)) (f : t.token ≡ Word letters) (word_is : keyword_of letters.now ≡ Some (kind_word k)) where
  word_goes : (h : UnaryHole) → Goes names (operand h) (taken t) (reading h (named k)) (ahead t.next)
  word_goes h =
      passes_goes names (word letters.now) (taken t) (ahead t.next) (operand h) (reading h (named k)) (name (kind_word k)) (t.at, taken_is (taken t) t _ refl f) (ap (operand_word h) word_is ∙ grind arith) refl

  taken_read : (p : Preference) (us : List Placed) → ReadsBase names k (ahead t.next) p us → (depth : ℕ) → ReadsUnary names depth (taken t) p us
  taken_read p us b depth = record { tree = based b.tree; meaning = b.meaning; known = b.known; goes = λ h _. goes_then names (operand h) (reading h (named k)) (completed h (based b.tree)) (taken t) (ahead t.next) us (word_goes h) (b.goes h) }

  taken_fails : (f : TermFault) → FailsBase names k (ahead t.next) f → (depth : ℕ) → FailsUnary names depth (taken t) f
  taken_fails f b depth = record { fails = λ h _. goes_fails names (operand h) (reading h (named k)) (taken t) (ahead t.next) f (word_goes h) (b.fails h) }

  pub taken_base : (r : Result (Term × Cursor) TermFault) → Parses (ReadsBase names k (ahead t.next)) (FailsBase names k (ahead t.next)) r → (depth : ℕ) → Parses (ReadsUnary names depth (taken t)) (FailsUnary names depth (taken t)) r
  taken_base (Ok x) b = taken_read (preference_of x.0) (ahead x.1) b
  taken_base (Err f) b = taken_fails f b

module _ (names : Names) (t : Lexeme) (letters : Bor (List ℕ)) (us : List Placed) (f : t.token ≡ Word letters) where
  pub low_taken : keyword_of letters.now ≡ Some low_word → (col depth : ℕ) → ReadsOpened names right (ahead t.next) col us → ReadsUnary names depth (taken t) (scored (low col)) us
  low_taken e col depth r = taken_read names low_kind t letters f e _ us (low_read names _ us col r) depth

  pub high_taken : keyword_of letters.now ≡ Some high_word → (col depth : ℕ) → ReadsOpened names right (ahead t.next) col us → ReadsUnary names depth (taken t) (scored (high col)) us
  high_taken e col depth r = taken_read names high_kind t letters f e _ us (high_read names _ us col r) depth

pub low_taken_fails : (names : Names) (t : Lexeme) (letters : Bor (List ℕ)) (f : TermFault) → t.token ≡ Word letters → keyword_of letters.now ≡ Some low_word → (depth : ℕ) → FailsOpened names right (ahead t.next) f → FailsUnary names depth (taken t) f
low_taken_fails names t letters f is e depth o = taken_fails names low_kind t letters is e f (opened_base_fails names low_kind _ f o) depth

pub high_taken_fails : (names : Names) (t : Lexeme) (letters : Bor (List ℕ)) (f : TermFault) → t.token ≡ Word letters → keyword_of letters.now ≡ Some high_word → (depth : ℕ) → FailsOpened names right (ahead t.next) f → FailsUnary names depth (taken t) f
high_taken_fails names t letters f is e depth o = taken_fails names high_kind t letters is e f (opened_base_fails names high_kind _ f o) depth

-- a group behind the word `reverse`
module _ (names : Names) (depth : ℕ) (ts : List Placed) (t : Lexeme) (letters : Bor (List ℕ)) (a : ts ≡ taken t) (f : t.token ≡ Word letters) (e : keyword_of letters.now ≡ Some reverse_word) where
  reverse_named_goes : (h : UnaryHole) → Goes names (operand h) ts (reverse_named h) (ahead t.next)
  reverse_named_goes h = passes_goes names (word letters.now) ts (ahead t.next) (operand h) (reverse_named h) (name reverse_word) (t.at, taken_is ts t _ a f) (ap (operand_word h) e) refl

  pub word_reverse_read : (vs : List Placed) (p : Preference) → ReadsGroup names depth (ahead t.next) p vs → ReadsUnary names depth ts (reverse p) vs
  word_reverse_read vs p r = record { tree = reversed r.tree; meaning = ap reverse r.meaning; known = r.known; goes = λ h d. goes_then names _ _ _ ts (ahead t.next) vs (reverse_named_goes h) (r.goes_reversed h d) }

  pub word_reverse_fails : (g : TermFault) → FailsGroup names depth (ahead t.next) g → FailsUnary names depth ts g
  word_reverse_fails g r = record { fails = λ h d. goes_fails names _ _ ts (ahead t.next) g (reverse_named_goes h) (r.reversed h d) }

-- what the readers of a base term, a group and a factor need
pub ruleset reads_base = (taken_base, low_taken, high_taken, low_taken_fails, high_taken_fails)

pub ruleset reads_group = (group_not_opened, group_too_deep, group_within_fails, group_read, group_end_fails)

pub ruleset reads_unary = (minus_read, minus_fails, group_alone, word_reverse_read, word_reverse_fails)

-- ---- products and priors

pub one_factor_read : (names : Names) (depth : ℕ) (ts us : List Placed) (p : Preference) → ReadsUnary names depth ts p us → ReadsFactors names depth ts p us
one_factor_read names depth ts us p r = record { tree = one_factor r.tree; meaning = r.meaning; known = r.known; goes = λ h e. r.goes (first_factor h) e }

-- behind a sign, one factor more
module _ (names : Names) (depth : ℕ) (ts us vs : List Placed) (p : Preference) (r : ReadsFactors names depth ts p us) (at : ℕ) (c : us ≡ at_place (sign star) at ∷ vs) where
  star_goes : (h : ProductHole) → product_depth h ≡ depth → Goes names (operand (first_factor h)) ts (operand (next_factor h r.tree)) vs
  star_goes h e = sign_behind names ts us vs _ _ _ star (r.goes h e) (at, c) refl

  pub more_factors : (ws : List Placed) (q : Preference) → ReadsUnary names depth vs q ws → ReadsFactors names depth ts (pareto p q) ws
  more_factors ws q u =
      record {
        tree = then_factor r.tree u.tree;
        meaning = ap (λ x. pareto x (unary_meaning u.tree names)) r.meaning ∙ ap (pareto p) u.meaning;
        known = (r.known, u.known);
        goes = λ h e. goes_then names _ _ _ ts vs ws (star_goes h e) (u.goes (next_factor h r.tree) e);
      }

  pub more_factors_fail : (f : TermFault) → FailsUnary names depth vs f → FailsProduct names depth ts f
  more_factors_fail f u = record { fails = λ h e. goes_fails names _ _ ts vs f (star_goes h e) (u.fails (next_factor h r.tree) e) }

pub one_product_read : (names : Names) (depth : ℕ) (ts us : List Placed) (p : Preference) → ReadsProduct names depth ts p us → ReadsProducts names depth ts p us
one_product_read names depth ts us p r =
    let q = r.factors in
    record { tree = one_product q.tree; meaning = q.meaning; known = q.known; goes = λ h e. q.goes (first_product h) e }

-- behind a sign, one product more
module _ (names : Names) (depth : ℕ) (ts us vs : List Placed) (p : Preference) (r : ReadsProducts names depth ts p us) (at : ℕ) (c : us ≡ at_place (sign ampersand) at ∷ vs) where
  ampersand_goes : (h : PriorHole) → prior_depth h ≡ depth → Goes names (operand (first_factor (first_product h))) ts (operand (first_factor (next_product h r.tree))) vs
  ampersand_goes h e = sign_behind names ts us vs _ _ _ ampersand (r.goes h e) (at, c) (ranked_goes_on h r.tree)

  pub more_products : (ws : List Placed) (q : Preference) → ReadsProduct names depth vs q ws → ReadsProducts names depth ts (prior p q) ws
  more_products ws q u =
      let v = u.factors in
      record {
        tree = then_product r.tree v.tree;
        meaning = ap (λ x. prior x (product_meaning v.tree names)) r.meaning ∙ ap (prior p) v.meaning;
        known = (r.known, v.known);
        goes = λ h e. goes_then names _ _ _ ts vs ws (ampersand_goes h e) (v.goes (next_product h r.tree) e);
      }

  pub more_products_fail : (f : TermFault) → FailsProduct names depth vs f → FailsPrior names depth ts f
  more_products_fail f u = record { fails = λ h e. goes_fails names _ _ ts vs f (ampersand_goes h e) (u.fails (next_product h r.tree) e) }
