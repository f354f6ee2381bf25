-- Reading answers as the grammar says: the ask that is spelled, or the first fault.
use Rattle.pref_term.proofs.Common.{◌≡◌, arith, ℕ, List, [], ◌∷◌, ◌++◌, Option, Some, None, Result, Ok, Err, refl, sym, ap, subst, ◌∙◌, append_assoc, append-nil, ◌⊎◌, inl, inr, IfSome, MatchResult}
use Rattle.pref_term.proofs.Common.{AllByRecursion, map-append, Token, finish, Placed, AskText, IsText, IsWritten, Leaf, token_of, ask_leaves, Names, tokens_in, tokens_on}
use Rattle.pref_term.proofs.Common.{IsGood, own_fault, OwnFault, Starts, reported, reported_at, last_place, IsUnexpected, HasOwnFault, FirstFault, State, start}
use Rattle.pref_term.proofs.Common.{done, read_of, next, run, led, judged, ended, TermFault, Unexpected}
use Rattle.pref_term.proofs.GrammarSound.{next_grows, Grows}
use Rattle.pref_term.proofs.GrammarComplete.{Reads, reads_on, reads_ask, can_end}

-- ---- lists in two parts

pub good_both : (names : Names) (a b : List Leaf) → AllByRecursion (IsGood names) a → AllByRecursion (IsGood names) b → AllByRecursion (IsGood names) (a ++ b)
good_both names [] b h k = k
good_both names (x ∷ a) b h k = (h.0, good_both names a b h.1 k)

-- ---- readings

-- what a token leads to is the leaf that grows
next_gives : (s : State) (t : Token) (leaf : Leaf) (m : State) → next s t ≡ Some (leaf, m) → Grows (read_of s) t leaf (read_of m)
next_gives s t leaf m e = subst (λ (o : Option (Leaf × State)). IfSome o (λ r. Grows (read_of s) t r.0 (read_of r.1))) e (next_grows s t)

pub reads_grow : (s : State) (leaves : List Leaf) (m : State) → Reads s leaves m → read_of m ≡ read_of s ++ leaves
reads_grow s [] m h = ap read_of (sym h) ∙ sym (append-nil (read_of s))
reads_grow s (leaf ∷ leaves) m h =
    reads_grow h.0 leaves m h.2 ∙ (ap (λ ls. ls ++ leaves) (next_gives s (token_of leaf) leaf h.0 h.1).1 ∙ append_assoc (read_of s) (leaf ∷ []) leaves)

-- what is read in any case is written so
pub reads_written : (s : State) (leaves : List Leaf) (m : State) → Reads s leaves m → AllByRecursion IsWritten leaves
reads_written s [] m h = tt
reads_written s (leaf ∷ leaves) m h = ((next_gives s (token_of leaf) leaf h.0 h.1).2, reads_written h.0 leaves m h.2)

-- a reading in two parts
pub record Halfway (s : State) (a b : List Leaf) (n : State) : Type 0 where
  pub mid : State
  pub front : Reads s a mid
  pub back : Reads mid b n

pub reads_cut : (s : State) (a b : List Leaf) (n : State) → Reads s (a ++ b) n → Halfway s a b n
reads_cut s [] b n h = record { mid = s; front = refl; back = h }
reads_cut s (leaf ∷ a) b n h = grind (arith, reads_cut h.0 a b n h.2)

-- no reading goes past a state to which the same tokens lead by a token that cannot follow there
reads_past : (s : State) (a b rest : List Leaf) (m n : State) (t : Token) → Reads s a m → next m t ≡ None → tokens_on b ≡ tokens_on a ++ t ∷ [] → Reads s (b ++ rest) n → ⊥
reads_past s [] (y ∷ b) rest m n t h none e k = grind (arith, e, h, none, k.1)
reads_past s (x ∷ a) (y ∷ b) rest m n t h none e k = grind (arith, e, h.1, k.1, k.2, none, reads_past h.0 a b rest m n t h.2)
reads_past s a b rest m n t h none e k = cc

-- ---- what a reading so far knows

-- the tokens led from the start to the state, each played by a leaf with no fault of its own
pub record Reached (names : Names) (before : List Placed) (s : State) : Type 0 where
  pub leaves : List Leaf
  pub reads : Reads start leaves s
  pub played : tokens_on leaves ≡ tokens_in before
  pub good : AllByRecursion (IsGood names) leaves

-- one token more
pub reached_more : (names : Names) (before : List Placed) (s : State) (t : Placed) (leaf : Leaf) (m : State) → Reached names before s → next s t.token ≡ Some (leaf, m) → own_fault names leaf ≡ None → Reached names (before ++ t ∷ []) m
reached_more names before s t leaf m r e own =
    let g = next_gives s t.token leaf m e in
    record {
      leaves = r.leaves ++ leaf ∷ [];
      reads = reads_on start r.leaves (leaf ∷ []) s m r.reads (m, ap (next s) g.0 ∙ e, refl);
      played = map-append token_of r.leaves (leaf ∷ []) ∙ (ap (λ ts. ts ++ token_of leaf ∷ []) r.played ∙ (ap (λ t. tokens_in before ++ t ∷ []) g.0 ∙ sym (map-append (λ (t : Placed). t.token) before (t ∷ []))));
      good = good_both names r.leaves (leaf ∷ []) r.good (own, tt);
    }

-- what is read so far begins a text of the grammar
starts : (leaves : List Leaf) (s : State) → Reads start leaves s → Starts leaves
starts leaves s r =
    let c = can_end s in
    let all = reads_on start leaves c.leaves s (done c.tree) r c.reads in
    let whole = reads_grow start (leaves ++ c.leaves) (done c.tree) all in
    record {
      tree = c.tree;
      written = subst (AllByRecursion IsWritten) (sym whole) (reads_written start (leaves ++ c.leaves) (done c.tree) all);
      rest = c.leaves;
      whole = whole;
    }

-- where no rule leads on, no text of the grammar goes on
pub reached_stuck : (names : Names) (before : List Placed) (s : State) (t : Token) → Reached names before s → next s t ≡ None → (leaves : List Leaf) → Starts leaves → tokens_on leaves ≡ tokens_in before ++ t ∷ [] → ⊥
reached_stuck names before s t r e leaves b plays =
    reads_past start r.leaves leaves b.rest s (done b.tree) t r.reads e (plays ∙ ap (λ ts. ts ++ t ∷ []) (sym r.played)) (subst (λ (ls : List Leaf). Reads start ls (done b.tree)) b.whole (reads_ask b.tree b.written))

-- ---- the run

-- the tokens end with the end of the text
abbrev pub Finishes : List Placed → Type 0
Finishes [] = ⊥
Finishes (t ∷ []) = t.token ≡ finish
Finishes (t ∷ u ∷ ts) = Finishes (u ∷ ts)

abbrev pub IsDone : State → Type 0
IsDone s = (a : AskText) × (s ≡ done a)

-- there are tokens up to the end of the text, or it was read
abbrev pub Due : List Placed → State → Type 0
Due [] s = IsDone s
Due (t ∷ ts) s = Finishes (t ∷ ts)

due_more : (t : Placed) (ts : List Placed) (s : State) (leaf : Leaf) (m : State) → Finishes (t ∷ ts) → next s t.token ≡ Some (leaf, m) → Due ts m
due_more t ts s leaf m f e = grind arith

last_more : (p : ℕ) (before : List Placed) (t : Placed) → last_place p (before ++ t ∷ []) ≡ t.place
last_more p [] t = refl
last_more p (u ∷ before) t = last_more u.place before t

-- all the tokens are those of this text of the grammar, and none has a fault
pub record Spelt (names : Names) (tokens : List Placed) (tree : AskText) : Type 0 where
  pub written : IsText tree
  pub tokens_are : tokens_in tokens ≡ tokens_on (ask_leaves tree)
  pub good : AllByRecursion (IsGood names) (ask_leaves tree)

abbrev pub Answers : Names → List Placed → Result AskText TermFault → Type 0
Answers names tokens result = MatchResult result (Spelt names tokens) (FirstFault names tokens)

run_ended : (names : Names) (before : List Placed) (p : ℕ) (s : State) → Reached names before s → IsDone s → Answers names before (ended s p)
run_ended names before p s r d = grind (arith, reads_grow, reads_written)

pub run_answers : (names : Names) (ts before : List Placed) (s : State) → Reached names before s → Due ts s → Answers names (before ++ ts) (run names ts (last_place 0 before) s)
run_answers names [] before s r due = subst (λ (b : List Placed). Answers names b (ended s (last_place 0 before))) (sym (append-nil before)) (run_ended names before (last_place 0 before) s r due)
run_answers names (t ∷ ts) before s r due = go (next s t.token) refl (run_answers names ts)
  where
    p : ℕ
    p = last_place 0 before

    here : (fault : TermFault) → IsUnexpected before t fault ⊎ HasOwnFault names before r.leaves t fault → FirstFault names (before ++ t ∷ ts) fault
    here fault there = record { before = before; at = t; after = ts; cut = refl; leaves = r.leaves; start = starts r.leaves s r.reads; played = r.played; good = r.good; there = there }

    judge : (leaf : Leaf) (m : State) → next s t.token ≡ Some (leaf, m) → (o : Option OwnFault) → own_fault names leaf ≡ o → ((b : List Placed) (m : State) → Reached names b m → Due ts m → Answers names (b ++ ts) (run names ts (last_place 0 b) m)) → Answers names (before ++ t ∷ ts) (judged leaf p t.place (run names ts t.place m) o)
    judge leaf m e (Some kind) w more =
        let g = next_gives s t.token leaf m e in
        here (reported kind (reported_at leaf p t.place)) (inr (record {
          leaf = leaf;
          start = starts (r.leaves ++ leaf ∷ []) m (reads_on start r.leaves (leaf ∷ []) s m r.reads (m, ap (next s) g.0 ∙ e, refl));
          played = g.0;
          kind = kind;
          own = w;
          fault_is = refl;
        }))
    judge leaf m e None w more =
        let h = more (before ++ t ∷ []) m (reached_more names before s t leaf m r e w) (due_more t ts s leaf m due e) in
        let k = subst (λ (q : ℕ). Answers names ((before ++ t ∷ []) ++ ts) (run names ts q m)) (last_more 0 before t) h in
        subst (λ (b : List Placed). Answers names b (run names ts t.place m)) (append_assoc before (t ∷ []) ts) k

    go : (o : Option (Leaf × State)) → next s t.token ≡ o → ((b : List Placed) (m : State) → Reached names b m → Due ts m → Answers names (b ++ ts) (run names ts (last_place 0 b) m)) → Answers names (before ++ t ∷ ts) (led names p t.place (run names ts t.place) o)
    go None e more = here (Unexpected t.place) (inl (record { fault_is = refl; stuck = reached_stuck names before s t.token r e }))
    go (Some (leaf, m)) e more = judge leaf m e (own_fault names leaf) refl more

-- ---- and the other way round

-- a good reading is run through
pub run_reads : (names : Names) (ts rest : List Placed) (p : ℕ) (s : State) (leaves : List Leaf) (m : State) → Reads s leaves m → tokens_on leaves ≡ tokens_in ts → AllByRecursion (IsGood names) leaves → run names (ts ++ rest) p s ≡ run names rest (last_place p ts) m
run_reads names [] rest p s [] m h e good = ap (run names rest p) h
run_reads names (t ∷ ts) rest p s (leaf ∷ leaves) m h e good = grind (arith, e, h.1, good.0, run_reads names ts rest t.place h.0 leaves m h.2)
run_reads names ts rest p s leaves m h e good = cc

-- a text that is spelled is read
pub spelt_run : (names : Names) (ts : List Placed) (tree : AskText) → Spelt names ts tree → run names ts 0 start ≡ Ok tree
spelt_run names ts tree h =
    ap (λ (us : List Placed). run names us 0 start) (sym (append-nil ts))
    ∙ run_reads names ts [] 0 start (ask_leaves tree) (done tree) (reads_ask tree h.written) (sym h.tokens_are) h.good

-- a first fault is reported
pub fault_run : (names : Names) (ts : List Placed) (f : TermFault) → FirstFault names ts f → run names ts 0 start ≡ Err f
fault_run names ts f h =
    ap (λ (us : List Placed). run names us 0 start) h.cut ∙ there h.there
  where
    there : IsUnexpected h.before h.at f ⊎ HasOwnFault names h.before h.leaves h.at f → run names (h.before ++ h.at ∷ h.after) 0 start ≡ Err f
    there (inl w) =
        let k = reads_cut start h.leaves h.start.rest (done h.start.tree) (subst (λ (ls : List Leaf). Reads start ls (done h.start.tree)) h.start.whole (reads_ask h.start.tree h.start.written)) in
        let none = stuck_next w k.mid k.front (next k.mid h.at.token) refl in
        run_reads names h.before (h.at ∷ h.after) 0 start h.leaves k.mid k.front h.played h.good
        ∙ (ap (led names (last_place 0 h.before) h.at.place (run names h.after h.at.place)) none ∙ ap Err (sym w.fault_is))
      where
        stuck_next : IsUnexpected h.before h.at f → (m : State) → Reads start h.leaves m → (o : Option (Leaf × State)) → next m h.at.token ≡ o → o ≡ None
        stuck_next w m r None e = refl
        stuck_next w m r (Some (leaf, n)) e =
            let g = next_gives m h.at.token leaf n e in
            let longer = reads_on start h.leaves (leaf ∷ []) m n r (n, ap (next m) g.0 ∙ e, refl) in
            let plays = map-append token_of h.leaves (leaf ∷ []) ∙ (ap (λ us. us ++ token_of leaf ∷ []) h.played ∙ ap (λ u. tokens_in h.before ++ u ∷ []) g.0) in
            absurd (w.stuck (h.leaves ++ leaf ∷ []) (starts (h.leaves ++ leaf ∷ []) n longer) plays)
    there (inr w) =
        let whole = w.start.whole ∙ append_assoc h.leaves (w.leaf ∷ []) w.start.rest in
        let k = reads_cut start h.leaves (w.leaf ∷ w.start.rest) (done w.start.tree) (subst (λ (ls : List Leaf). Reads start ls (done w.start.tree)) whole (reads_ask w.start.tree w.start.written)) in
        run_reads names h.before (h.at ∷ h.after) 0 start h.leaves k.mid k.front h.played h.good
        ∙ (ap (led names (last_place 0 h.before) h.at.place (run names h.after h.at.place)) (ap (next k.mid) (sym w.played) ∙ k.back.1)
        ∙ (ap (judged w.leaf (last_place 0 h.before) h.at.place (run names h.after h.at.place k.back.0)) w.own ∙ ap Err (sym w.fault_is)))
