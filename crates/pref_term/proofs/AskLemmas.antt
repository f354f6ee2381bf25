-- What the parts of the reader promise that read what stands around a term, and skyline clauses.
use Rattle.pref_term.proofs.Common.{◌≡◌, arith, ℕ, List, [], ◌∷◌, ◌++◌, length, Bool, true, false, Option, Some, None, Ok, refl, sym, ap, subst, ◌∙◌, append-nil, All, IfSome, cond}
use Rattle.pref_term.proofs.Common.{All-append, comma, word, digits, sign, finish, Placed, best_word, by_word, keyword_of, skyline_word, of_word}
use Rattle.pref_term.proofs.Common.{cased_of, Direction, direction_word, DimText, HeadText, best_head, PriorText}
use Rattle.pref_term.proofs.Common.{AskText, name, column_name, count_digits, cased, last, Names, column_at, mode_of, order_by, group_by, orders_of, groups_of, product_of, bad_count}
use Rattle.pref_term.proofs.Common.{State, start, operand, whole, in_whole, ranked, group_due, skyline_named, dim_due, dim_named, run, done}
use Rattle.pref_term.proofs.Common.{directed, begun, of_named, next, meant, Goes, Fails, Passes, IsKnown, IsTermOf, NotNext, IsOther}
use Rattle.pref_term.proofs.Common.{WantsColumn, TakesColumn, ReadsPrior, Asks, TakesCount, FailsCount, ReadsSomeColumns, ReadsColumns, FailsColumns}
use Rattle.pref_term.proofs.Common.{ReadsGrouping, FailsGrouping, TakesDirection, FailsDirection, ReadsDim, FailsDim, with_order, ReadsDims, ReadsClause, FailsClause, PassesOf}
use Rattle.pref_term.proofs.Common.{Preference, scored, pareto, prior, reverse, ReadsBelow, IsWritable, Question, FitsWidth, IsAsk, IsSkyline, IsCount, cut_of, Mode, Best, TopLevel}
use Rattle.pref_term.proofs.Common.{AtLeast, TermFault, with_next, dims_listed, group_listed, Result, Err, IfErr, IsErrAnd, CasedWord, NoMinOrMax, All-nil, word_ahead, Lexeme, taken, seen, ◌≢◌, FailsColumn, FailsPrior, FailsOf, false≢true, Gives, AsksClause, CountKind, levels, rows, count_word, count_head, count_due}
use Rattle.std.proofs.lemmas.List.Sums.{fold-append}
use Rattle.std.proofs.lemmas.Grind.{flat_map-append}
use Rattle.pref_term.proofs.GrammarComplete.{dim_of, direction_next}
use Rattle.pref_term.proofs.DistinctLemmas.{product_is_clause}
use Rattle.pref_term.proofs.LedLemmas.{at_place, column_is, goes_then, goes_fails, passes_goes, column_good, unless_map, all_one, neither_fails, one_more, sign_behind}

-- the end, behind all
ended : (names : Names) (ts us : List Placed) (s m : State) (a : AskText) → Goes names s ts m us → Passes finish us [] → next m finish ≡ Some (last, done a) → (p : ℕ) → run names ts p s ≡ Ok a
ended names ts us s m a h c e p = let g = goes_then names s m (done a) ts us [] h (passes_goes names finish us [] m (done a) last c e refl) p in g.1

-- ---- a column of a group

pub wants_group : (head : HeadText) (r : PriorText) (some : List (List ℕ)) → WantsColumn (group_due head r some) (λ letters. with_next (group_listed head r) some letters)
wants_group head r some = record { takes = λ letters. refl; only = λ t n. grind arith }

column_goes : (names : Names) (ts us : List Placed) (col : ℕ) (s : State) (behind : List ℕ → State) → WantsColumn s behind → (t : TakesColumn names ts col us) → Goes names s ts (behind t.letters) us
column_goes names ts us col s behind w t = passes_goes names (word t.letters) ts us s (behind t.letters) (column_name t.letters) t.passes (w.takes t.letters) (column_good names t.letters col t.found.place)

-- ---- the columns of a group

pub columns_none : (names : Names) (ts : List Placed) → ReadsSomeColumns names ts [] ts
columns_none names ts = record { tree = []; meaning = refl; fits = All-nil (IsKnown names); goes = λ head r p. (p, refl) }

pub columns_fail : (names : Names) (ts us : List Placed) (columns : List ℕ) (f : TermFault) → ReadsSomeColumns names ts columns us → FailsColumn names us f → FailsColumns names ts f
columns_fail names ts us columns f r n = record { fails = λ head p. goes_fails names _ _ ts us f (r.goes head p) (n.fails _ _ (wants_group head p r.tree)) }

-- one column more, and what is behind it
module _ (names : Names) (ts us vs : List Placed) (columns : List ℕ) (col : ℕ) (r : ReadsSomeColumns names ts columns us) (t : TakesColumn names us col vs) where
  columns_go : (head : HeadText) (p : PriorText) → Goes names (group_due head p []) ts (with_next (group_listed head p) r.tree t.letters) vs
  columns_go head p = goes_then names _ _ _ ts us vs (r.goes head p) (column_goes names us vs col _ _ (wants_group head p r.tree) t)

  pub columns_more : (ws : List Placed) → Passes (sign comma) vs ws → ReadsSomeColumns names ts (columns ++ col ∷ []) ws
  columns_more ws c = one_more (IsKnown names) r t.letters col (column_is names t.letters col t.found.place) t.found.known ws (λ head p. sign_behind names ts vs ws _ _ _ comma (columns_go head p) c (grind arith))

  pub columns_all : (at : ℕ) → vs ≡ at_place finish at ∷ [] → ReadsColumns names ts (columns ++ col ∷ [])
  columns_all at e = one_more (IsKnown names) r t.letters col (column_is names t.letters col t.found.place) t.found.known [] (λ head p. ended names ts vs _ _ _ (columns_go head p) (at, e) (grind (arith)))

  pub columns_stuck : (f : TermFault) (t : Lexeme) → vs ≡ taken t → seen t.token ≢ finish → IsOther (sign comma) vs f → FailsColumns names ts f
  columns_stuck f t e n nc =
      let nf = subst (NotNext finish) (sym e) n in
      record { fails = λ head p. goes_fails names _ _ ts vs f (columns_go head p) (neither_fails names (sign comma) finish vs f _ nc nf (λ u nc nf. grind (arith))) }

-- ---- the group

ranked_by_word : (head : HeadText) (r : PriorText) (letters : List ℕ) → keyword_of letters ≡ Some by_word → next (ranked (whole head) r) (word letters) ≡ Some (name by_word, group_due head r [])
ranked_by_word head r letters e = grind (arith)

pub grouping_fails : {T : Type 0} (names : Names) (letters : List ℕ) (at : ℕ) (ts us : List Placed) (r : Result T TermFault) → ts ≡ word_ahead letters at us → keyword_of letters ≡ Some by_word → IfErr r (λ f. FailsColumns names us f) → IfErr r (λ f. FailsGrouping names ts f)
grouping_fails names letters at ts us (Ok x) c e h = tt
grouping_fails names letters at ts us (Err f) c e h =
    record { fails = λ _ _ head p. goes_fails names _ _ ts us f (passes_goes names (word letters) ts us (ranked (whole head) p) (group_due head p []) (name by_word) (at, c) (ranked_by_word head p letters e) refl) (h.fails head p) }

-- ---- what stands behind a head

goes_asks : (names : Names) (distinct : Bool) (s m : State) (ts us : List Placed) (r : Result Question TermFault) → Goes names s ts m us → Asks names distinct m us r → Asks names distinct s ts r
goes_asks names distinct s m ts us r h k = record { asks = λ p. let a = h p in subst (λ (x : Result AskText TermFault). Gives (meant names distinct x) r) (sym a.1) (k.asks a.0) }

fails_asks : (names : Names) (distinct : Bool) (s : State) (ts : List Placed) (f : TermFault) → Fails names s ts f → Asks names distinct s ts (Err f)
fails_asks names distinct s ts f h = record { asks = λ p. unless_map f (λ k. ap (meant names distinct) (k p)) h }

-- what a `?` hands on
pub asks_exit : {names : Names} {distinct : Bool} {s : State} {ts : List Placed} {f : TermFault} (r : Result Question TermFault) → IsErrAnd r (λ g. g ≡ f) → Asks names distinct s ts (Err f) → Asks names distinct s ts r
asks_exit r e h = grind (arith, e, h)

pub rated_read : (names : Names) (ts us : List Placed) (p : Preference) (group : List ℕ) (mode : Mode) → ReadsPrior names 0 ts p us → ReadsGrouping names us group → (head : HeadText) → mode_of head ≡ mode → Asks names false (operand (in_whole head)) ts (Ok (record { preference = p; group = group; mode = mode; distinct = false }))
rated_read names ts us p group mode r g head e =
    goes_asks names false _ (ranked (whole head) r.products.tree) ts us _ (r.products.goes (whole head) refl) (record { asks = λ k. rw (g.goes head r.products.tree k, r.products.meaning, g.meaning, e) refl })

pub rated_fails : (names : Names) (ts : List Placed) (f : TermFault) → FailsPrior names 0 ts f → (head : HeadText) → Asks names false (operand (in_whole head)) ts (Err f)
rated_fails names ts f r head = fails_asks names false _ ts f (r.fails (whole head) refl)

pub rated_group_fails : (names : Names) (ts us : List Placed) (p : Preference) (f : TermFault) → ReadsPrior names 0 ts p us → FailsGrouping names us f → (head : HeadText) → Asks names false (operand (in_whole head)) ts (Err f)
rated_group_fails names ts us p f r g head = fails_asks names false _ ts f (goes_fails names _ _ ts us f (r.products.goes (whole head) refl) (g.fails r.stops r.stops_too head r.products.tree))

-- ---- dimensions

pub wants_dim : (s o : List ℕ) (some : List DimText) → WantsColumn (dim_due s o some) (λ letters. dim_named s o some letters)
wants_dim s o some = record { takes = λ letters. refl; only = λ t n. grind arith }

pub dim_read : (names : Names) (ts us vs : List Placed) (col : ℕ) (d : Direction) → TakesColumn names ts col us → TakesDirection us d vs → ReadsDim names ts col d vs
dim_read names ts us vs col d t g =
    record {
      dim = dim_of t.letters d g.letters;
      said = refl;
      found = t.found;
      goes = λ s o some. goes_then names _ (dim_named s o some t.letters) _ ts us vs (column_goes names ts us col _ _ (wants_dim s o some) t)
          (passes_goes names (word g.letters) us vs _ _ (cased (direction_word d) g.letters) g.passes (ap (directed s o some t.letters g.letters) g.found ∙ direction_next s o some t.letters g.letters d) refl);
    }

pub dim_direction_fails : (names : Names) (ts us : List Placed) (col : ℕ) (f : TermFault) → TakesColumn names ts col us → FailsDirection us f → FailsDim names ts f
dim_direction_fails names ts us col f t h =
    record { fails = λ s o some. goes_fails names _ _ ts us f (column_goes names ts us col _ _ (wants_dim s o some) t) (h.fails names s o some t.letters) }

pub dim_column_fails : (names : Names) (ts : List Placed) (f : TermFault) → FailsColumn names ts f → FailsDim names ts f
dim_column_fails names ts f h = record { fails = λ s o some. h.fails _ _ (wants_dim s o some) }

-- ---- some dimensions

product_more : (orders : List Preference) (d : Direction) (col : ℕ) → product_of (orders ++ order_by d col) ≡ with_order (product_of orders) d col
product_more orders d col = grind (arith, fold-append)

product_known_more : (names : Names) (product : Option Preference) (d : Direction) (col : ℕ) → IsKnown names col → IfSome product (IsTermOf names) → IfSome (with_order product d col) (IsTermOf names)
product_known_more names product d col k h = grind (arith)

group_known_more : (names : Names) (group : List ℕ) (d : Direction) (col : ℕ) → IsKnown names col → All (IsKnown names) group → All (IsKnown names) (group ++ group_by d col)
group_known_more names group d col k h = grind (arith, append-nil, h, All-append (IsKnown names) group (col ∷ []) h (all_one (IsKnown names) col k))

orders_more : (names : Names) (dims : List DimText) (dim : DimText) (product : Option Preference) (d : Direction) (col : ℕ) → product_of (orders_of names dims) ≡ product → dim.direction ≡ d → column_at names dim.column ≡ col → product_of (orders_of names (dims ++ dim ∷ [])) ≡ with_order product d col
orders_more names dims dim product d col e f g = grind (arith, flat_map-append, product_more)

groups_more : (names : Names) (dims : List DimText) (dim : DimText) (group : List ℕ) (d : Direction) (col : ℕ) → groups_of names dims ≡ group → dim.direction ≡ d → column_at names dim.column ≡ col → groups_of names (dims ++ dim ∷ []) ≡ group ++ group_by d col
groups_more names dims dim group d col e f g = grind (arith, flat_map-append)

pub dims_none : (names : Names) (ts : List Placed) → ReadsDims names ts None [] ts
dims_none names ts = record { dims = []; product_is = refl; group_is = refl; product_known = tt; group_known = All-nil (IsKnown names); goes = λ s o p. (p, refl) }

pub dims_fail : (names : Names) (ts us : List Placed) (product : Option Preference) (group : List ℕ) (f : TermFault) → ReadsDims names ts product group us → FailsDim names us f → FailsClause names ts f
dims_fail names ts us product group f r h = record { fails = λ s o. goes_fails names _ _ ts us f (r.goes s o) (h.fails s o r.dims) }

-- one dimension more, and what is behind it
module _ (names : Names) (ts us vs : List Placed) (product : Option Preference) (group : List ℕ) (col : ℕ) (d : Direction) (r : ReadsDims names ts product group us) (l : ReadsDim names us col d vs) where
  dims_go : (s o : List ℕ) → Goes names (dim_due s o []) ts (with_next (dims_listed s o) r.dims l.dim) vs
  dims_go s o = goes_then names _ _ _ ts us vs (r.goes s o) (l.goes s o r.dims)

  orders_are : product_of (orders_of names (r.dims ++ l.dim ∷ [])) ≡ with_order product d col
  orders_are = orders_more names r.dims l.dim product d col r.product_is l.said (column_is names l.dim.column col l.found.place)

  groups_are : groups_of names (r.dims ++ l.dim ∷ []) ≡ group ++ group_by d col
  groups_are = groups_more names r.dims l.dim group d col r.group_is l.said (column_is names l.dim.column col l.found.place)

  pub dims_more : (ws : List Placed) → Passes (sign comma) vs ws → ReadsDims names ts (with_order product d col) (group ++ group_by d col) ws
  dims_more ws c =
      record {
        dims = r.dims ++ l.dim ∷ [];
        product_is = orders_are;
        group_is = groups_are;
        product_known = product_known_more names product d col l.found.known r.product_known;
        group_known = group_known_more names group d col l.found.known r.group_known;
        goes = λ s o. sign_behind names ts vs ws _ _ _ comma (dims_go s o) c (grind arith);
      }

  pub dims_all : (at : ℕ) → vs ≡ at_place finish at ∷ [] → ReadsClause names ts (with_order product d col) (group ++ group_by d col)
  dims_all at here = go (product_known_more names product d col l.found.known r.product_known) (group_known_more names group d col l.found.known r.group_known) r.dims orders_are groups_are dims_go
    where
      go : IfSome (with_order product d col) (IsTermOf names) → All (IsKnown names) (group ++ group_by d col) → (dims : List DimText) → product_of (orders_of names (dims ++ l.dim ∷ [])) ≡ with_order product d col → groups_of names (dims ++ l.dim ∷ []) ≡ group ++ group_by d col → ((s o : List ℕ) → Goes names (dim_due s o []) ts (with_next (dims_listed s o) dims l.dim) vs) → ReadsClause names ts (with_order product d col) (group ++ group_by d col)
      go k m [] e f g = record { first = l.dim; others = []; product_is = e; group_is = f; product_known = k; group_known = m; goes = λ s o. ended names ts vs _ _ _ (g s o) (at, here) refl }
      go k m (x ∷ xs) e f g = record { first = x; others = xs ++ l.dim ∷ []; product_is = e; group_is = f; product_known = k; group_known = m; goes = λ s o. ended names ts vs _ _ _ (g s o) (at, here) refl }

  pub dims_stuck : (f : TermFault) (t : Lexeme) → vs ≡ taken t → seen t.token ≢ finish → IsOther (sign comma) vs f → FailsClause names ts f
  dims_stuck f t e n nc =
      let nf = subst (NotNext finish) (sym e) n in
      record { fails = λ s o. goes_fails names _ _ ts vs f (dims_go s o) (neither_fails names (sign comma) finish vs f _ nc nf (λ u nc nf. grind (arith))) }

-- ---- a skyline clause

pub clause_read : (names : Names) (distinct : Bool) (ts : List Placed) (p : Preference) (group : List ℕ) → ReadsClause names ts (Some p) group → AsksClause names distinct ts (Ok (record { preference = p; group = group; mode = Best; distinct = distinct }))
clause_read names distinct ts p group r = record { asks = λ s o. record { asks = λ k. rw (r.goes s o k, r.product_is, r.group_is) refl } }

pub clause_unordered : (names : Names) (distinct : Bool) (ts : List Placed) (group : List ℕ) → ReadsClause names ts None group → AsksClause names distinct ts (Err NoMinOrMax)
clause_unordered names distinct ts group r = record { asks = λ s o. record { asks = λ k. rw (r.goes s o k, r.product_is) refl } }

pub clause_fails : (names : Names) (distinct : Bool) (ts : List Placed) (f : TermFault) → FailsClause names ts f → AsksClause names distinct ts (Err f)
clause_fails names distinct ts f h = record { asks = λ s o. fails_asks names distinct _ ts f (h.fails s o) }

-- ---- the first word

module _ (names : Names) (letters : List ℕ) (at : ℕ) (ts us : List Placed) (c : ts ≡ word_ahead letters at us) (e : keyword_of letters ≡ None) (f : cased_of letters ≡ Some skyline_word) where
  skyline_goes : Goes names start ts (skyline_named letters) us
  skyline_goes = passes_goes names (word letters) ts us start (skyline_named letters) (cased skyline_word letters) (at, c) (ap (λ k. begun letters k (cased_of letters)) e ∙ ap (begun letters None) f) refl

  pub skyline_asks : (vs : List Placed) (r : Result Question TermFault) → PassesOf us vs → AsksClause names false vs r → Asks names false start ts r
  skyline_asks vs r p h =
      goes_asks names false start _ ts vs r (goes_then names _ _ _ ts us vs skyline_goes (passes_goes names (word p.0) us vs (skyline_named letters) (dim_due letters p.0 []) (cased of_word p.0) p.2 (ap (of_named letters p.0) p.1) refl))
      (h.asks letters p.0)

  pub skyline_fails : (g : TermFault) → FailsOf us g → Asks names false start ts (Err g)
  skyline_fails g h = fails_asks names false start ts g (goes_fails names start _ ts us g skyline_goes (h.fails names letters))

pub best_asks : (names : Names) (letters : List ℕ) (at : ℕ) (ts us : List Placed) (r : Result Question TermFault) → ts ≡ word_ahead letters at us → keyword_of letters ≡ Some best_word → ((head : HeadText) → mode_of head ≡ Best → Asks names false (operand (in_whole head)) us r) → Asks names false start ts r
best_asks names letters at ts us r c e h = goes_asks names false start _ ts us r (passes_goes names (word letters) ts us start _ (name best_word) (at, c) (ap (λ k. begun letters k (cased_of letters)) e) refl) (h best_head refl)

-- ---- a word and a count

abbrev pub count_mode : CountKind → ℕ → Mode
count_mode levels k = TopLevel k
count_mode rows k = AtLeast k

count_begun : (letters : List ℕ) (k : CountKind) (c : Option CasedWord) → begun letters (Some (count_word k)) c ≡ Some (name (count_word k), count_due k)
count_begun letters levels c = refl
count_begun letters rows c = refl

module _ (names : Names) (k : CountKind) (letters : List ℕ) (at : ℕ) (ts us : List Placed) (c : ts ≡ word_ahead letters at us) (e : keyword_of letters ≡ Some (count_word k)) where
  count_word_goes : Goes names start ts (count_due k) us
  count_word_goes = passes_goes names (word letters) ts us start (count_due k) (name (count_word k)) (at, c) (ap (λ w. begun letters w (cased_of letters)) e ∙ count_begun letters k (cased_of letters)) refl

  pub count_asks : (vs : List Placed) (n : ℕ) (r : Result Question TermFault) → TakesCount us n vs → ((head : HeadText) → mode_of head ≡ count_mode k n → Asks names false (operand (in_whole head)) vs r) → Asks names false start ts r
  count_asks vs n r t h =
      goes_asks names false start _ ts vs r (goes_then names start (count_due k) _ ts us vs count_word_goes
      (passes_goes names (digits t.digits_are) us vs (count_due k) _ (count_digits t.digits_are) t.passes refl (ap (λ b. cond b None (Some bad_count)) t.good))) (h (count_head k t.digits_are) (grind (arith, t.value)))

  pub count_fails : (f : TermFault) → FailsCount us f → Asks names false start ts (Err f)
  count_fails f h = fails_asks names false start ts f (goes_fails names start (count_due k) ts us f count_word_goes (h.fails names k))

-- ---- what is so of each ask

-- the columns of a term are among those of a row and of the table, and its numbers can be written
term_is : (names : Names) (p : Preference) → IsTermOf names p → ReadsBelow 16 p × ReadsBelow (length names) p × IsWritable p
term_is names (scored b) h = (h.0.0, h.0.1, h.1)
term_is names (pareto p q) h = let l = term_is names p h.0 in let r = term_is names q h.1 in ((l.0, r.0), (l.1, r.1), (l.2, r.2))
term_is names (prior p q) h = let l = term_is names p h.0 in let r = term_is names q h.1 in ((l.0, r.0), (l.1, r.1), (l.2, r.2))
term_is names (reverse p) h = term_is names p h

-- an ask over the columns of the table
abbrev pub IsKnownAsk : Names → Question → Type 0
IsKnownAsk names q = IsAsk q × FitsWidth (length names) q

known_ask : (names : Names) (p : Preference) (group : List ℕ) (mode : Mode) → IsTermOf names p → All (IsKnown names) group → IsCount (cut_of mode) → (distinct : Bool) → (distinct ≡ true → IsSkyline (record { preference = p; group = group; mode = mode; distinct = distinct })) → IsKnownAsk names (record { preference = p; group = group; mode = mode; distinct = distinct })
known_ask names p group mode h g k distinct clause = let term = term_is names p h in (grind (arith, term_is), record { preference = term.1; group = λ i d b. let a = g i d b in a.1 })

pub rated_known : (names : Names) (ts us : List Placed) (p : Preference) (group : List ℕ) (mode : Mode) → ReadsPrior names 0 ts p us → ReadsGrouping names us group → IsCount (cut_of mode) → IsKnownAsk names (record { preference = p; group = group; mode = mode; distinct = false })
rated_known names ts us p group mode r g k = known_ask names p group mode r.products.known g.fits k false (λ h. absurd (false≢true h))

pub clause_known : (names : Names) (ts : List Placed) (p : Preference) (group : List ℕ) (distinct : Bool) → ReadsClause names ts (Some p) group → IsKnownAsk names (record { preference = p; group = group; mode = Best; distinct = distinct })
clause_known names ts p group distinct r = known_ask names p group Best r.product_known r.group_known (omega arith, omega arith) distinct (λ _. record { mode = refl; preference = product_is_clause names (r.first ∷ r.others) p r.product_is })
