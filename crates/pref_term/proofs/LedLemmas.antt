-- What the parts of the reader promise, from the tokens that they take.
use Rattle.pref_term.proofs.Common.{◌≡◌, arith, ℕ, ℤ, Bor, List, [], ◌∷◌, ◌++◌, map, Bool, true, false, cond, Some, None, Result, Err, refl, sym, ap, subst, ◌∙◌, fits_cell, Sign, left, right}
use Rattle.pref_term.proofs.Common.{comma, minus, Token, digits, sign, Placed, based, NumberText, low_text, high_text, around_text, pos_text, Leaf, mark, column_name, number_digits}
use Rattle.pref_term.proofs.Common.{between_text, Names, UnlessMemory, own_fault, signed_value, number_value, column_at, number_range, below, empty_range, reported, OwnFault, BaseKind}
use Rattle.pref_term.proofs.Common.{low_kind, high_kind, around_kind, pos_kind, centre_of, named, opened, columned, number_due, centred, listed, filled}
use Rattle.pref_term.proofs.Common.{NumberHole, UnaryHole, State, reading, completed, run, next, between_kind, start_of, end_of, least_of, ranged, NumberList, in_pos}
use Rattle.pref_term.proofs.Common.{closing, list_closed, stepped, seen, ahead, taken, behind_token, Cursor, Lexeme, Digits, Goes, Fails, IsOther, NotNext, Passes, WantsColumn, TakesColumn}
use Rattle.pref_term.proofs.Common.{ReadsTree, ReadsOpened, FailsColumn, FailsOpened, ReadsNumber, ReadsSome, ReadsNumbers, ReadsBase, FailsNumber, FailsNumbers, FailsBase}
use Rattle.pref_term.proofs.Common.{first_place, word_ahead, behind_column, TermFault, EmptyRange, NumberRange, All, FitsSigned, ◌≢◌, IsErrAnd, IfErr, MatchResult, unwrap_or, int_lt, Option, scored, low}
use Rattle.pref_term.proofs.Common.{high, around, one_of, between, all_ascii_digits, to_z, of_z, to_z-of_z, map-append, All-append, All-cons, All-nil, next_of}
use Rattle.pref_term.proofs.Common.{FailsSets, IsWritableSet, ReadsSets, ReadsSomeSets, SetText, in_set, layered, layered_kind, layered_text, left_brace, right_brace, set_due, set_value, sets_listed, with_next}
use Rattle.pref_table.specs.Columns.{column_of}
use Rattle.pref_term.proofs.GrammarComplete.{list_ends}
use Rattle.pref_term.proofs.TokenLemmas.{digits_taken}
use Rattle.std.specs.Int.{w64}
use Rattle.pref_term.specs.declared.fault.TermFault.TheVariants.{UnknownColumn}
use Rattle.pref_term.specs.declared.front.Token as code

-- a token, as a record of its two parts
abbrev pub at_place : Token → ℕ → Placed
at_place t p = record { token = t; place = p }

-- one token on
pub run_step : (names : Names) (t : Token) (at : ℕ) (ts : List Placed) (p : ℕ) (s : State) (leaf : Leaf) (m : State) → next s t ≡ Some (leaf, m) → own_fault names leaf ≡ None → run names (at_place t at ∷ ts) p s ≡ run names ts at m
run_step names t at ts p s leaf m e own = grind (arith)

pub column_good : (names : Names) (letters : List ℕ) (col : ℕ) → column_of names letters ≡ Some col → own_fault names (column_name letters) ≡ None
column_good names letters col h = rw h

-- a word that names no column of the table
pub column_unknown : (names : Names) (letters : List ℕ) (at : ℕ) (ts us : List Placed) → ts ≡ word_ahead letters at us → column_of names letters ≡ None → FailsColumn names ts (UnknownColumn at)
column_unknown names letters at ts us e h = record { fails = λ s behind wants p. rw (e, wants.takes letters, h) refl }

number_own : (names : Names) (least : Option NumberText) (negative : Bool) (ds : List ℕ) → fits_cell (signed_value negative ds) ≡ true → own_fault names (number_digits least negative ds) ≡ below least (signed_value negative ds)
number_own names least negative ds h = ap (λ b. cond b (below least (signed_value negative ds)) (Some number_range)) h

-- ---- one part behind another

pub goes_then : (names : Names) (s m n : State) (ts us vs : List Placed) → Goes names s ts m us → Goes names m us n vs → Goes names s ts n vs
goes_then names s m n ts us vs h k = λ p. let a = h p in let b = k a.0 in (b.0, a.1 ∙ b.1)

pub unless_map : {P Q : Type 0} (f : TermFault) → (P → Q) → UnlessMemory f P → UnlessMemory f Q
unless_map f g h = grind (arith)

pub goes_fails : (names : Names) (s m : State) (ts us : List Placed) (f : TermFault) → Goes names s ts m us → Fails names m us f → Fails names s ts f
goes_fails names s m ts us f h k = unless_map f (λ k p. let a = h p in a.1 ∙ k a.0) k

pub passes_goes : (names : Names) (t : Token) (ts us : List Placed) (s m : State) (leaf : Leaf) → Passes t ts us → next s t ≡ Some (leaf, m) → own_fault names leaf ≡ None → Goes names s ts m us
passes_goes names t ts us s m leaf h e own = λ p. (h.0, ap (λ xs. run names xs p s) h.1 ∙ run_step names t h.0 us p s leaf m e own)

-- a sign behind a part
pub sign_behind : (names : Names) (ts us vs : List Placed) (s m n : State) (g : Sign) → Goes names s ts m us → Passes (sign g) us vs → next m (sign g) ≡ Some (mark g, n) → Goes names s ts n vs
sign_behind names ts us vs s m n g h c e = goes_then names s m n ts us vs h (passes_goes names (sign g) us vs m n (mark g) c e refl)

-- a token that can't follow
pub other_fails : (names : Names) (t : Token) (ts : List Placed) (f : TermFault) (s : State) → IsOther t ts f → ((u : Token) → u ≢ t → next s u ≡ None) → Fails names s ts f
other_fails names t ts f s h stuck = grind arith

-- a token that is neither of two
pub neither_fails : (names : Names) (t v : Token) (ts : List Placed) (f : TermFault) (s : State) → IsOther t ts f → NotNext v ts → ((u : Token) → u ≢ t → u ≢ v → next s u ≡ None) → Fails names s ts f
neither_fails names t v ts f s h k stuck = grind arith

pub opened_read : (names : Names) (behind : Sign) (ts us vs ws : List Placed) (col : ℕ) → Passes (sign left) ts us → TakesColumn names us col vs → Passes (sign behind) vs ws → ReadsOpened names behind ts col ws
opened_read names behind ts us vs ws col c t d = grind arith

wants_opened : (h : UnaryHole) (k : BaseKind) → WantsColumn (reading h (opened k)) (λ letters. reading h (columned k letters))
wants_opened h k = record { takes = λ letters. refl; only = λ t n. grind arith }

pub opened_fails : (names : Names) (behind : Sign) (ts us : List Placed) (f : TermFault) → Passes (sign left) ts us → FailsColumn names us f → FailsOpened names behind ts f
opened_fails names behind ts us f c r =
    record { fails = λ h k e. goes_fails names _ _ ts us f (passes_goes names (sign left) ts us (reading h (named k)) (reading h (opened k)) (mark left) c refl refl) (r.fails _ _ (wants_opened h k)) }

pub column_end_fails : (names : Names) (behind : Sign) (ts us vs : List Placed) (col : ℕ) (f : TermFault) → Passes (sign left) ts us → TakesColumn names us col vs → IsOther (sign behind) vs f → FailsOpened names behind ts f
column_end_fails names behind ts us vs col f c t o = record { fails = λ h k e. grind (arith) }

-- what was taken, where the token is known
pub taken_is : (ts : List Placed) (t : Lexeme) (k : code.Token) → ts ≡ taken t → t.token ≡ k → ts ≡ at_place (seen k) t.at ∷ behind_token k (ahead t.next)
taken_is ts t k e f = e ∙ ap (λ (x : code.Token). at_place (seen x) t.at ∷ behind_token x (ahead t.next)) f

-- the tokens of a number
abbrev pub NumberAhead : Bool → List Placed → List ℕ → List Placed → Type 0
NumberAhead false ts ds us = Passes (digits ds) ts us
NumberAhead true ts ds us = (behind : List Placed) × Passes (sign minus) ts behind × Passes (digits ds) behind us

-- its digits were taken
pub plain_ahead : (c : Cursor) (u : Lexeme) (negative : Bool) (ds : Bor (List ℕ)) → negative ≡ false → ahead c ≡ taken u → u.token ≡ Digits ds → NumberAhead negative (ahead c) ds.now (ahead u.next) × (all_ascii_digits ds.now ≡ true)
plain_ahead c u negative ds n e d = grind (arith, taken_is, digits_taken)

pub signed_ahead : (c : Cursor) (t u : Lexeme) (negative : Bool) (ds : Bor (List ℕ)) → negative ≡ true → ahead c ≡ at_place (sign minus) t.at ∷ ahead t.next → ahead t.next ≡ taken u → u.token ≡ Digits ds → NumberAhead negative (ahead c) ds.now (ahead u.next) × (all_ascii_digits ds.now ≡ true)
signed_ahead c t u negative ds n m e d = grind (arith, taken_is, digits_taken)

number_goes : (negative : Bool) (ts us : List Placed) (ds : List ℕ) → NumberAhead negative ts ds us → (names : Names) (h : UnaryHole) (hole : NumberHole) → own_fault names (number_digits (least_of hole) negative ds) ≡ None
    → Goes names (reading h (number_due hole)) ts (reading h (filled hole (record { negative = negative; digits = ds }))) us
number_goes negative ts us ds c names h hole own = grind arith

-- a number with a fault of its own, which is reported at its first token
number_refused : (negative : Bool) (ts us : List Placed) (ds : List ℕ) → NumberAhead negative ts ds us → (names : Names) (h : UnaryHole) (hole : NumberHole) (kind : OwnFault) → own_fault names (number_digits (least_of hole) negative ds) ≡ Some kind
    → (p : ℕ) → run names ts p (reading h (number_due hole)) ≡ Err (reported kind (first_place ts))
number_refused negative ts us ds c names h hole kind own p = grind arith

pub number_read : (negative : Bool) (ts us : List Placed) (ds : List ℕ) (value : ℤ) → NumberAhead negative ts ds us → fits_cell (signed_value negative ds) ≡ true → value ≡ signed_value negative ds → FitsSigned w64 value → ReadsNumber ts value us
number_read negative ts us ds value c fits v held =
    record {
      number = record { negative = negative; digits = ds };
      fits = held;
      value_is = sym v;
      goes = λ names h hole above. number_goes negative ts us ds c names h hole (number_own names (least_of hole) negative ds fits ∙ above);
      refused = λ names h hole under. number_refused negative ts us ds c names h hole empty_range (number_own names (least_of hole) negative ds fits ∙ under);
    }

pub number_out_of_range : (negative : Bool) (ts us : List Placed) (ds : List ℕ) → NumberAhead negative ts ds us → fits_cell (signed_value negative ds) ≡ false → FailsNumber ts (NumberRange (first_place ts))
number_out_of_range negative ts us ds c fits = record { fails = λ names h hole. grind (arith) }

-- the right end of a range
below_of : (l r : NumberText) (least value : ℤ) (test : Bool) → number_value l ≡ least → number_value r ≡ value → int_lt value least ≡ test → below (Some l) (number_value r) ≡ cond test (Some empty_range) None
below_of l r least value test e f k = ap (below (Some l)) f ∙ (ap (λ x. cond (int_lt value x) (Some empty_range) None) e ∙ ap (λ b. cond b (Some empty_range) None) k)

-- what a `?` hands on
pub err_exit : {T : Type 0} {f : TermFault} (r : Result T TermFault) (P : TermFault → Type 0) → IsErrAnd r (λ g. g ≡ f) → P f → IfErr r P
err_exit r P h k = grind (arith)

pub fault_exit : {T E : Type 0} {f : E} (r : Result T E) (Q : T → Type 0) (P : E → Type 0) → IsErrAnd r (λ g. g ≡ f) → P f → MatchResult r Q P
fault_exit r Q P h k = grind (arith)

-- ---- numbers

-- a number as the code keeps it
abbrev pub kept : ℤ → ℤ
kept v = to_z w64 (of_z w64 v)

kept_is : {us vs : List Placed} {v : ℤ} → ReadsNumber us v vs → v ≡ kept v
kept_is {us} {vs} {v} n = sym (to_z-of_z w64 v n.fits)

kept_fits : {us vs : List Placed} {v : ℤ} → ReadsNumber us v vs → FitsSigned w64 (kept v)
kept_fits n = subst (FitsSigned w64) (kept_is n) n.fits

pub all_one : {X : Type 0} (P : X → Type 0) (x : X) → P x → All P (x ∷ [])
all_one P x h = All-cons P x [] h (All-nil P)

pub cons_not_none : {A : Type 0} {x : A} {xs : List A} → (x ∷ xs) ≢ []
cons_not_none h = cc

abbrev set_of : NumberText → List NumberText → SetText
set_of first others = record { first = first; others = others }

-- the numbers of a list, which has one
pub numbers_fit : {close : Sign} {ts us : List Placed} {set : List ℤ} → ReadsNumbers close ts set us → IsWritableSet set
numbers_fit n = (subst (λ (set : List ℤ). set ≢ []) n.meaning cons_not_none, n.fits)

-- ---- one more behind some, in a list with commas

module _ {X A : Type 0} {value : X → A} (Fits : A → Type 0) {Leads : List X → List Placed → List Placed → Type 0} {ts us : List Placed} {values : List A} (r : ReadsTree (map value) (All Fits) Leads ts values us) (x : X) (v : A) (e : value x ≡ v) (f : Fits v) where
  more_meant : map value (r.tree ++ x ∷ []) ≡ values ++ v ∷ []
  more_meant = map-append value r.tree (x ∷ []) ∙ cc (r.meaning, e)

  more_fit : All Fits (values ++ v ∷ [])
  more_fit = All-append Fits values (v ∷ []) r.fits (all_one Fits v f)

  pub one_more : {More : List X → List Placed → List Placed → Type 0} (vs : List Placed) → More (r.tree ++ x ∷ []) ts vs → ReadsTree (map value) (All Fits) More ts (values ++ v ∷ []) vs
  one_more vs goes = record { tree = r.tree ++ x ∷ []; meaning = more_meant; fits = more_fit; goes = goes }

  -- the last one
  pub one_last : {S : Type 0} {means : S → List A} {Ends : S → List Placed → List Placed → Type 0} (whole : X → List X → S) → ((first : X) (others : List X) → means (whole first others) ≡ value first ∷ map value others) → (vs : List Placed) → Ends (with_next whole r.tree x) ts vs → ReadsTree means (All Fits) Ends ts (values ++ v ∷ []) vs
  one_last whole is vs goes = record { tree = with_next whole r.tree x; meaning = grind (arith, is, more_meant); fits = more_fit; goes = goes }

-- ---- the numbers of a list

list_closes : (h : UnaryHole) (l : NumberList) (some : List NumberText) (n : NumberText) (close : Sign) → closing l ≡ close → let set = with_next set_of some n in next (reading h (with_next (listed l) some n)) (sign close) ≡ Some (mark close, stepped h (list_closed l set.first set.others))
list_closes h l some n close e = grind (arith, list_ends)

-- the first number is due
pub some_none : (close : Sign) (ts : List Placed) → ReadsSome close ts [] ts
some_none close ts = record { tree = []; meaning = refl; fits = All-nil (FitsSigned w64); goes = λ names h l e p. (p, refl) }

pub some_value_fails : (close : Sign) (ts us : List Placed) (values : List ℤ) (f : TermFault) → ReadsSome close ts values us → FailsNumber us f → FailsNumbers close ts f
some_value_fails close ts us values f r n = record { fails = λ names h l e. goes_fails names _ _ ts us f (r.goes names h l e) (n.fails names h (next_of l r.tree)) }

-- one number more, and the sign behind it
module _ (close : Sign) (ts us vs : List Placed) (values : List ℤ) (v : ℤ) (r : ReadsSome close ts values us) (n : ReadsNumber us v vs) where
  all_goes : (names : Names) (h : UnaryHole) (l : NumberList) → closing l ≡ close → Goes names (reading h (number_due (next_of l []))) ts (reading h (filled (next_of l r.tree) n.number)) vs
  all_goes names h l e = goes_then names _ _ _ ts us vs (r.goes names h l e) (n.goes names h (next_of l r.tree) refl)

  pub some_more : (ws : List Placed) → Passes (sign comma) vs ws → ReadsSome close ts (values ++ kept v ∷ []) ws
  some_more ws c = one_more (FitsSigned w64) r n.number (kept v) (n.value_is ∙ kept_is n) (kept_fits n) ws (λ names h l e. sign_behind names ts vs ws _ _ _ comma (all_goes names h l e) c (grind (arith)))

  pub some_all : (at : ℕ) (ws : List Placed) → vs ≡ at_place (sign close) at ∷ ws → ReadsNumbers close ts (values ++ kept v ∷ []) ws
  some_all at ws e =
      one_last (FitsSigned w64) r n.number (kept v) (n.value_is ∙ kept_is n) (kept_fits n) set_of (λ first others. refl) ws (λ names h l k. sign_behind names ts vs ws _ _ _ close (all_goes names h l k) (at, e) (list_closes h l r.tree n.number close k))

  pub some_stuck : (f : TermFault) (t : Lexeme) → vs ≡ taken t → seen t.token ≢ sign close → IsOther (sign comma) vs f → FailsNumbers close ts f
  some_stuck f t e n nc = let nr = subst (NotNext (sign close)) (sym e) n in record { fails = λ names h l e. goes_fails names _ _ ts vs f (all_goes names h l e) (neither_fails names (sign comma) (sign close) vs f _ nc nr (λ u nc nr. grind (arith))) }

-- ---- base terms

pub column_is : (names : Names) (letters : List ℕ) (col : ℕ) → column_of names letters ≡ Some col → column_at names letters ≡ col
column_is names letters col h = ap (λ o. unwrap_or o 0) h

pub low_read : (names : Names) (ts us : List Placed) (col : ℕ) → ReadsOpened names right ts col us → ReadsBase names low_kind ts (scored (low col)) us
low_read names ts us col r =
    record {
      tree = low_text r.letters;
      meaning = ap (λ n. scored (low n)) (column_is names r.letters col r.found.place);
      known = (r.found.known, tt);
      goes = λ h. r.goes h low_kind _ refl;
    }

pub high_read : (names : Names) (ts us : List Placed) (col : ℕ) → ReadsOpened names right ts col us → ReadsBase names high_kind ts (scored (high col)) us
high_read names ts us col r =
    record {
      tree = high_text r.letters;
      meaning = ap (λ n. scored (high n)) (column_is names r.letters col r.found.place);
      known = (r.found.known, tt);
      goes = λ h. r.goes h high_kind _ refl;
    }

-- up to a centre
centre_goes : (names : Names) (ts us vs : List Placed) (col : ℕ) (centre : ℤ) (r : ReadsOpened names comma ts col us) (n : ReadsNumber us centre vs) (h : UnaryHole) → Goes names (reading h (named around_kind)) ts (reading h (centred r.letters n.number)) vs
centre_goes names ts us vs col centre r n h = goes_then names _ _ _ ts us vs (r.goes h around_kind _ refl) (n.goes names h (centre_of r.letters) refl)

pub around_read : (names : Names) (ts us vs ws : List Placed) (col : ℕ) (centre : ℤ) → ReadsOpened names comma ts col us → ReadsNumber us centre vs → Passes (sign right) vs ws → ReadsBase names around_kind ts (scored (around col (kept centre))) ws
around_read names ts us vs ws col centre r n d =
    record {
      tree = around_text r.letters n.number;
      meaning = ap (λ i. scored (around i (number_value n.number))) (column_is names r.letters col r.found.place) ∙ ap (λ v. scored (around col v)) (n.value_is ∙ kept_is n);
      known = (r.found.known, kept_fits n);
      goes = λ h. sign_behind names ts vs ws _ _ (completed h (based (around_text r.letters n.number))) right (centre_goes names ts us vs col centre r n h) d refl;
    }

-- up to the left end of a range, and the comma behind it
start_goes : (names : Names) (ts us vs : List Placed) (col : ℕ) (l : ℤ) (r : ReadsOpened names comma ts col us) (n : ReadsNumber us l vs) (h : UnaryHole) → Goes names (reading h (named between_kind)) ts (reading h (ranged r.letters n.number)) vs
start_goes names ts us vs col l r n h = goes_then names _ _ _ ts us vs (r.goes h between_kind _ refl) (n.goes names h (start_of r.letters) refl)

range_goes : (names : Names) (ts us vs ws : List Placed) (col : ℕ) (l : ℤ) (r : ReadsOpened names comma ts col us) (n : ReadsNumber us l vs) → Passes (sign comma) vs ws → (h : UnaryHole) → Goes names (reading h (named between_kind)) ts (reading h (number_due (end_of r.letters n.number))) ws
range_goes names ts us vs ws col l r n d h = sign_behind names ts vs ws _ _ (reading h (number_due (end_of r.letters n.number))) comma (start_goes names ts us vs col l r n h) d refl

pub between_read : (names : Names) (ts us vs ws xs ys : List Placed) (col : ℕ) (l r : ℤ) → ReadsOpened names comma ts col us → ReadsNumber us l vs → Passes (sign comma) vs ws → ReadsNumber ws r xs → int_lt (kept r) (kept l) ≡ false → Passes (sign right) xs ys → ReadsBase names between_kind ts (scored (between col (kept l) (kept r))) ys
between_read names ts us vs ws xs ys col l r o n d m above e =
    let left_is = n.value_is ∙ kept_is n in
    let right_is = m.value_is ∙ kept_is m in
    record {
      tree = between_text o.letters n.number m.number;
      meaning = ap (λ i. scored (between i (number_value n.number) (number_value m.number))) (column_is names o.letters col o.found.place)
          ∙ (ap (λ v. scored (between col v (number_value m.number))) left_is ∙ ap (λ v. scored (between col (kept l) v)) right_is);
      known = (o.found.known, (kept_fits n, kept_fits m, above));
      goes = λ h. sign_behind names ts xs ys _ _ (completed h (based (between_text o.letters n.number m.number))) right
          (goes_then names _ _ _ ts ws xs (range_goes names ts us vs ws col l o n d h) (m.goes names h (end_of o.letters n.number) (below_of n.number m.number (kept l) (kept r) false left_is right_is above))) e refl;
    }

pub pos_read : (names : Names) (ts us vs : List Placed) (col : ℕ) (set : List ℤ) → ReadsOpened names comma ts col us → ReadsNumbers right us set vs → ReadsBase names pos_kind ts (scored (one_of col set)) vs
pos_read names ts us vs col set r n =
    record {
      tree = pos_text r.letters n.tree.first n.tree.others;
      meaning = ap (λ i. scored (one_of i (set_value n.tree))) (column_is names r.letters col r.found.place) ∙ ap (λ v. scored (one_of col v)) n.meaning;
      known = (r.found.known, numbers_fit n);
      goes = λ h. goes_then names _ _ _ ts us vs (r.goes h pos_kind _ refl) (n.goes names h (in_pos r.letters) refl);
    }

-- and their faults
pub opened_base_fails : (names : Names) (k : BaseKind) (ts : List Placed) (f : TermFault) → FailsOpened names (behind_column k) ts f → FailsBase names k ts f
opened_base_fails names k ts f o = record { fails = λ h. o.fails h k refl }

pub centre_fails : (names : Names) (ts us : List Placed) (col : ℕ) (f : TermFault) → ReadsOpened names comma ts col us → FailsNumber us f → FailsBase names around_kind ts f
centre_fails names ts us col f r n = record { fails = λ h. goes_fails names _ _ ts us f (r.goes h around_kind _ refl) (n.fails names h (centre_of r.letters)) }

pub around_end_fails : (names : Names) (ts us vs : List Placed) (col : ℕ) (centre : ℤ) (f : TermFault) → ReadsOpened names comma ts col us → ReadsNumber us centre vs → IsOther (sign right) vs f → FailsBase names around_kind ts f
around_end_fails names ts us vs col centre f r n o = record { fails = λ h. goes_fails names _ _ ts vs f (centre_goes names ts us vs col centre r n h) (other_fails names (sign right) vs f _ o (λ u ne. grind arith)) }

pub start_fails : (names : Names) (ts us : List Placed) (col : ℕ) (f : TermFault) → ReadsOpened names comma ts col us → FailsNumber us f → FailsBase names between_kind ts f
start_fails names ts us col f r n = record { fails = λ h. goes_fails names _ _ ts us f (r.goes h between_kind _ refl) (n.fails names h (start_of r.letters)) }

pub between_comma_fails : (names : Names) (ts us vs : List Placed) (col : ℕ) (l : ℤ) (f : TermFault) → ReadsOpened names comma ts col us → ReadsNumber us l vs → IsOther (sign comma) vs f → FailsBase names between_kind ts f
between_comma_fails names ts us vs col l f r n o = record { fails = λ h. goes_fails names _ _ ts vs f (start_goes names ts us vs col l r n h) (other_fails names (sign comma) vs f _ o (λ u ne. grind arith)) }

pub end_fails : (names : Names) (ts us vs ws : List Placed) (col : ℕ) (l : ℤ) (f : TermFault) → ReadsOpened names comma ts col us → ReadsNumber us l vs → Passes (sign comma) vs ws → FailsNumber ws f → FailsBase names between_kind ts f
end_fails names ts us vs ws col l f r n d m = record { fails = λ h. goes_fails names _ _ ts ws f (range_goes names ts us vs ws col l r n d h) (m.fails names h (end_of r.letters n.number)) }

pub range_empty : (names : Names) (ts us vs ws xs : List Placed) (col : ℕ) (l r : ℤ) (t : Lexeme) → ReadsOpened names comma ts col us → ReadsNumber us l vs → Passes (sign comma) vs ws → ReadsNumber ws r xs → int_lt (kept r) (kept l) ≡ true → ws ≡ taken t → FailsBase names between_kind ts (EmptyRange t.at)
range_empty names ts us vs ws xs col l r t o n d m under e =
    record {
      fails = λ h. goes_fails names _ _ ts ws (EmptyRange t.at) (range_goes names ts us vs ws col l o n d h)
          (subst (λ at. Fails names (reading h (number_due (end_of o.letters n.number))) ws (EmptyRange at)) (ap first_place e) (m.refused names h (end_of o.letters n.number) (below_of n.number m.number (kept l) (kept r) true (n.value_is ∙ kept_is n) (m.value_is ∙ kept_is m) under)));
    }

pub between_end_fails : (names : Names) (ts us vs ws xs : List Placed) (col : ℕ) (l r : ℤ) (f : TermFault) → ReadsOpened names comma ts col us → ReadsNumber us l vs → Passes (sign comma) vs ws → ReadsNumber ws r xs → int_lt (kept r) (kept l) ≡ false → IsOther (sign right) xs f → FailsBase names between_kind ts f
between_end_fails names ts us vs ws xs col l r f o n d m above e =
    record {
      fails = λ h. goes_fails names _ _ ts xs f
          (goes_then names _ _ _ ts ws xs (range_goes names ts us vs ws col l o n d h) (m.goes names h (end_of o.letters n.number) (below_of n.number m.number (kept l) (kept r) false (n.value_is ∙ kept_is n) (m.value_is ∙ kept_is m) above)))
          (other_fails names (sign right) xs f _ e (λ u ne. grind arith));
    }

pub pos_fails : (names : Names) (ts us : List Placed) (col : ℕ) (f : TermFault) → ReadsOpened names comma ts col us → FailsNumbers right us f → FailsBase names pos_kind ts f
pos_fails names ts us col f r n = record { fails = λ h. goes_fails names _ _ ts us f (r.goes h pos_kind _ refl) (n.fails names h (in_pos r.letters) refl) }

-- ---- the sets of `layered`

-- the first set is due
pub some_sets_none : (ts : List Placed) → ReadsSomeSets ts [] ts
some_sets_none ts = record { tree = []; meaning = refl; fits = All-nil IsWritableSet; goes = λ names h column p. (p, refl) }

pub some_sets_fails : (ts us : List Placed) (sets : List (List ℤ)) (f : TermFault) → ReadsSomeSets ts sets us → IsOther (sign left_brace) us f → FailsSets ts f
some_sets_fails ts us sets f r o = record { fails = λ names h column. goes_fails names _ _ ts us f (r.goes names h column) (other_fails names (sign left_brace) us f _ o (λ u ne. grind arith)) }

-- one set more
module _ (ts us vs : List Placed) (sets : List (List ℤ)) (r : ReadsSomeSets ts sets us) (c : Passes (sign left_brace) us vs) where
  open_goes : (names : Names) (h : UnaryHole) (column : List ℕ) → Goes names (reading h (set_due column [])) ts (reading h (number_due (next_of (in_set column r.tree) []))) vs
  open_goes names h column = sign_behind names ts us vs _ _ _ left_brace (r.goes names h column) c refl

  pub some_numbers_fails : (f : TermFault) → FailsNumbers right_brace vs f → FailsSets ts f
  some_numbers_fails f n = record { fails = λ names h column. goes_fails names _ _ ts vs f (open_goes names h column) (n.fails names h (in_set column r.tree) refl) }

  -- and the sign behind it
  module _ (ws : List Placed) (set : List ℤ) (n : ReadsNumbers right_brace vs set ws) where
    sets_go : (names : Names) (h : UnaryHole) (column : List ℕ) → Goes names (reading h (set_due column [])) ts (reading h (with_next (sets_listed column) r.tree n.tree)) ws
    sets_go names h column = goes_then names _ _ _ ts vs ws (open_goes names h column) (n.goes names h (in_set column r.tree) refl)

    pub some_sets_more : (xs : List Placed) → Passes (sign comma) ws xs → ReadsSomeSets ts (sets ++ set ∷ []) xs
    some_sets_more xs d = one_more IsWritableSet r n.tree set n.meaning (numbers_fit n) xs (λ names h column. sign_behind names ts ws xs _ _ _ comma (sets_go names h column) d (grind (arith)))

    pub some_sets_all : (at : ℕ) (xs : List Placed) → ws ≡ at_place (sign right) at ∷ xs → ReadsSets ts (sets ++ set ∷ []) xs
    some_sets_all at xs e = one_last IsWritableSet r n.tree set n.meaning (numbers_fit n) (λ first others. (first, others)) (λ first others. refl) xs (λ names h column. sign_behind names ts ws xs _ _ _ right (sets_go names h column) (at, e) (grind (arith)))

    pub some_sets_stuck : (f : TermFault) (t : Lexeme) → ws ≡ taken t → seen t.token ≢ sign right → IsOther (sign comma) ws f → FailsSets ts f
    some_sets_stuck f t e n nc =
        let nr = subst (NotNext (sign right)) (sym e) n in
        record { fails = λ names h column. goes_fails names _ _ ts ws f (sets_go names h column) (neither_fails names (sign comma) (sign right) ws f _ nc nr (λ u nc nr. grind (arith))) }

pub layered_read : (names : Names) (ts us vs : List Placed) (col : ℕ) (sets : List (List ℤ)) → ReadsOpened names comma ts col us → ReadsSets us sets vs → ReadsBase names layered_kind ts (scored (layered col sets)) vs
layered_read names ts us vs col sets r n =
    record {
      tree = layered_text r.letters n.tree.0 n.tree.1;
      meaning = ap (λ i. scored (layered i (set_value n.tree.0 ∷ map set_value n.tree.1))) (column_is names r.letters col r.found.place) ∙ ap (λ v. scored (layered col v)) n.meaning;
      known = (r.found.known, (subst (λ (sets : List (List ℤ)). sets ≢ []) n.meaning cons_not_none, n.fits));
      goes = λ h. goes_then names _ _ _ ts us vs (r.goes h layered_kind _ refl) (n.goes names h r.letters);
    }

pub layered_fails : (names : Names) (ts us : List Placed) (col : ℕ) (f : TermFault) → ReadsOpened names comma ts col us → FailsSets us f → FailsBase names layered_kind ts f
layered_fails names ts us col f r n = record { fails = λ h. goes_fails names _ _ ts us f (r.goes h layered_kind _ refl) (n.fails names h r.letters) }

-- what the readers of `around` and of `between` need
pub ruleset reads_around = (opened_base_fails, centre_fails, around_read, around_end_fails)

pub ruleset reads_between = (between_read, opened_base_fails, start_fails, between_comma_fails, end_fails, range_empty, between_end_fails)
