-- Who has the pen of a page writes behind all that stands on it, whatever the book is.
use Rattle.pref_share.proofs.Common.{◌≡◌, ◌≢◌, ℕ, suc, zero, ◌+◌, ◌<◌, ◌≤◌, ◌==◌, Bool, true, false, ◌⊎◌, List, [], ◌∷◌, ◌++◌, length, set, replicate, refl, ap, sym, ◌∙◌, subst, arith, inl, inr, Option, None, Some, ⊎_elim}
use Rattle.pref_share.proofs.Common.{eqb-true, eq-eqb, append-nil, append_assoc, length-append, length-set, same_Some, IsPrefix, Cell, cell, keeps, gives, adds, Nib, no_nib, may_write, Moves, Op}
use Rattle.std.proofs.lemmas.List.{get_or-replicate, get_or-set_same, get_or-set_other, get_or_append_left, length-replicate}
use prog.Atomic.{either}
use Rattle.logbook.specs.Pages.{Goes, step}
use Rattle.pref_share.proofs.CallCounts.{count_own, count_other, count_last, count_prefix}
use Rattle.pref_share.proofs.PrefixLaws.{prefix_trans}
use Rattle.pref_share.specs.declared.entry.Entry.{Entry}
use Rattle.pref_share.specs.Book.{pages, noted, ops_on, count_by, key_by, key_from, key_after, Home, AreBacked, IsBlank, IsKept, Begins, IsWhole, Adds}

abbrev pub shown : List Entry → List Entry
shown log = []

abbrev pub moved : List Entry → List Entry → ℕ → Type 0
moved xs ys n = Unit {0}

-- a word that comes home leaves the others there
set_home : (cs : List Cell) (k j m : ℕ) → Home cs j → Home (set cs k (m, true)) j
set_home (c ∷ cs) (suc k) (suc j) m h = let r = set_home cs k j m (omega (arith, h.0), h.1) in (omega (arith, r.0), r.1)
set_home cs k j m h = grind (arith)

-- the word after a step on it
abbrev pub used : ℕ → ℕ
used n = either (n == 0) 1 n

not_unused : (n : ℕ) → used n ≢ 0
not_unused zero = grind (arith)
not_unused (suc n) = grind (arith)

-- the cells after a step on the word of a page
abbrev pub begun : List Cell → ℕ → List Cell
begun cs page = set cs page (used (cell cs page).0, true)

-- what stands on a page of a longer log
pub ops_on-append : (page : ℕ) (xs ys : List Entry) → ops_on page (xs ++ ys) ≡ ops_on page xs ++ ops_on page ys
ops_on-append page [] ys = refl
ops_on-append page (x ∷ xs) ys = ap (λ l. noted page x ++ l) (ops_on-append page xs ys) ∙ sym (append_assoc (noted page x) (ops_on page xs) (ops_on page ys))

key_from-append : (page : ℕ) (key : Option ℕ) (xs ys : List Entry) → key_from page key (xs ++ ys) ≡ key_from page (key_from page key xs) ys
key_from-append page key [] ys = refl
key_from-append page key (x ∷ xs) ys = key_from-append page (key_by page key x) xs ys

ops_on-last : (page : ℕ) (log : List Entry) (e : Entry) → ops_on page (log ++ e ∷ []) ≡ ops_on page log ++ noted page e
ops_on-last page log e = ops_on-append page log (e ∷ []) ∙ ap (λ l. ops_on page log ++ l) (append-nil (noted page e))

key_after-last : (page : ℕ) (log : List Entry) (e : Entry) → key_after page (log ++ e ∷ []) ≡ key_by page (key_after page log) e
key_after-last page log e = key_from-append page None log (e ∷ [])

pub ops_prefix : (page : ℕ) (xs ys : List Entry) → IsPrefix xs ys → IsPrefix (ops_on page xs) (ops_on page ys)
ops_prefix page xs ys p = (ops_on page p.0, sym (ops_on-append page xs p.0) ∙ ap (ops_on page) p.1)

pub length_prefix : {A : Type 0} (xs ys : List A) → IsPrefix xs ys → length xs ≤ length ys
length_prefix xs ys p = omega (arith, length-append xs p.0, ap length p.1)

key_own : (page : ℕ) (key : Option ℕ) (e : Entry) → e.page ≡ page → key_by page key e ≡ Some e.key
key_own page key e own = rw (eq-eqb e.page page own) refl

-- What is so of all that stands on a page behind the entry that names a pen which is not home: there is no other entry of the page.
abbrev pub IsAll : ℕ → ℕ → List Entry → List Entry → Type 0
IsAll page key log before = (ops_on page log ≡ ops_on page before) × (key_after page log ≡ Some key)

quiet : (cs : List Cell) (log : List Entry) → IsKept cs log → (page key : ℕ) (before rest : List Entry) → before ++ rest ≡ log → key_after page before ≡ Some key → (cell cs key).1 ≡ false → IsAll page key log before
quiet cs log kept page key before [] is at away = let same : log ≡ before = sym is ∙ append-nil before in (ap (ops_on page) same, ap (key_after page) same ∙ at)
quiet cs log kept page key before (e ∷ rest) is at away =
    grind (arith, kept.spent before rest e key is, ops_on-last, key_after-last, append_assoc, append-nil, quiet cs log kept page key (before ++ e ∷ []) rest)

-- an entry stands among the old ones, or is the one that was added
split_last : (before later log : List Entry) (e x : Entry) → before ++ e ∷ later ≡ log ++ x ∷ [] → ((before ≡ log) × (e ≡ x)) ⊎ ((l : List Entry) × (before ++ e ∷ l ≡ log))
split_last [] later [] e x is = inl (refl, cc (is))
split_last [] later (y ∷ log) e x is = inr (log, cc (is))
split_last (b ∷ before) later [] e x is = absurd (omega (arith, ap length is, length-append before (e ∷ later)))
split_last (b ∷ before) later (y ∷ log) e x is = grind (arith, split_last before later log e x (cc (is)))

-- a page on which nothing stands, after an entry of another
blank_more : (page : ℕ) (log : List Entry) (x : Entry) → page ≢ x.page → IsBlank page log → IsBlank page (log ++ x ∷ [])
blank_more page log x other blank = grind (arith, key_after-last, ops_on-last, append-nil)

-- the same entries, where what was home is home, ..
kept_again : (cs ds : List Cell) (log : List Entry) → IsKept cs log → ((k : ℕ) → Home cs k → Home ds k) → ((page : ℕ) → page < pages → (cell ds page).0 ≡ 0 → (cell cs page).0 ≡ 0) → IsKept ds (log ++ [])
kept_again cs ds log kept stay back =
    subst (IsKept ds) (sym (append-nil log))
    (record {
      words = λ page few. stay page (kept.words page few);
      unused = λ page few none. kept.unused page few (back page few none);
      spent = λ before later e key is at. stay key (kept.spent before later e key is at);
      backed = kept.backed;
    })

-- .. and one more
kept_more : (cs ds : List Cell) (log : List Entry) (x : Entry) → IsKept cs log → ((k : ℕ) → Home cs k → Home ds k) → ((page : ℕ) → page < pages → (cell ds page).0 ≡ 0 → (page ≢ x.page) × ((cell cs page).0 ≡ 0))
    → ((key : ℕ) → key_after x.page log ≡ Some key → Home ds key) → AreBacked (log ++ x ∷ []) → IsKept ds (log ++ x ∷ [])
kept_more cs ds log x kept stay back here backed = record {
  words = λ page few. stay page (kept.words page few);
  unused = λ page few none. let was = back page few none in blank_more page log x was.0 (kept.unused page few was.1);
  spent = λ before later e key is at.
      ⊎_elim (λ (last : (before ≡ log) × (e ≡ x)). here key (sym (ap (λ (y : Entry). key_after y.page log) last.1) ∙ (sym (ap (key_after e.page) last.0) ∙ at)))
      (λ (old : (l : List Entry) × (before ++ e ∷ l ≡ log)). stay key (kept.spent before old.0 e key old.1 at)) (split_last before later log e x is);
  backed = backed;
}

-- a word that is 0 after a step on the word of a page is another's, and was 0
still_unused : (cs : List Cell) (page other : ℕ) → page < length cs → (cell (begun cs page) other).0 ≡ 0 → (other ≢ page) × ((cell cs other).0 ≡ 0)
still_unused cs page other lt none = grind (arith, not_unused, get_or-set_same, get_or-set_other)

-- the first entry of a page
abbrev pub opening_entry : ℕ → ℕ → Entry
opening_entry page key = record { page = page; key = key; op = None }

opened_same : (page : ℕ) (log : List Entry) (first key : ℕ) → ops_on page (log ++ opening_entry first key ∷ []) ≡ ops_on page log
opened_same page log first key = grind (arith, ops_on-last, append-nil)

-- whatever the book is, there is a new pen, and no one else's is changed
pub begins_moves : (v : List Entry) (ask : Entry) (page : ℕ) → page < pages → Moves IsKept shown moved page (v, (no_nib, None)) (λ n. either (n == 0) 1 n) (Begins (step page 0 1 ask) (v, (no_nib, None)))
begins_moves v ask page few cs log kept pre away = (home.0, home.1, go ((cell cs page).0 == 0) refl)
  where
    home : Home cs page
    home = kept.words page few

    ds : List Cell
    ds = begun cs page ++ (0, false) ∷ []

    snoc : (k : ℕ) → k < length (begun cs page) → cell ds k ≡ cell (begun cs page) k
    snoc k lt = get_or_append_left (begun cs page) ((0, false) ∷ []) (0, false) k lt

    stay : (k : ℕ) → Home cs k → Home ds k
    stay k h = let still = set_home cs page k (used (cell cs page).0) h in (omega (arith, still.0, length-append (begun cs page) ((0, false) ∷ [])), ap (λ (c : Cell). c.1) (snoc k still.0) ∙ still.1)

    back : (other : ℕ) → other < pages → (cell ds other).0 ≡ 0 → (other ≢ page) × ((cell cs other).0 ≡ 0)
    back other within none =
        let there = (set_home cs page other (used (cell cs page).0) (kept.words other within)).0 in
        still_unused cs page other home.0 (sym (ap (λ (c : Cell). c.0) (snoc other there)) ∙ none)

    go : (b : Bool) → ((cell cs page).0 == 0) ≡ b → Goes IsKept shown moved page (v, (no_nib, None)) (λ n. either (n == 0) 1 n) (Begins (step page 0 1 ask) (v, (no_nib, None))) cs log
    go true is =
        let blank = kept.unused page few (eqb-true (cell cs page).0 0 is) in
        let e : Entry = opening_entry page (length cs) in (
          adds,
          e ∷ [],
          None,
          tt,
          kept_more cs ds log e kept stay back (λ key at. absurd (cc (blank.0, at)))
              (λ client some. rw (opened_same 0 log page (length cs), opened_same client log page (length cs)) (kept.backed client some)),
          inl (refl, refl),
          (refl, λ none. (key_after-last page log e ∙ key_own page (key_after page log) e refl, opened_same page log page (length cs) ∙ blank.1)),
        )
    go false is = (adds, [], None, tt, kept_again cs ds log kept stay (λ other within none. (back other within none).1), inl (refl, refl), (refl, λ none. absurd (cc (is, eq-eqb (cell cs page).0 0 none))))

-- whatever the book is, what the pen comes after is all that stands on the page
pub whole_moves : (v : List Entry) (p : Nib) (ask : Entry) (page : ℕ) → page < pages → p.right ≡ may_write → Moves IsKept shown moved page (v, (p, None)) (λ n. either (n == 0) 1 n) (IsWhole (step page 0 1 ask) (v, (p, None)))
whole_moves v p ask page few may cs log kept pre away =
    let home = kept.words page few in (
      home.0,
      home.1,
      (
        keeps,
        [],
        None,
        tt,
        kept_again cs (begun cs page) log kept (λ k h. set_home cs page k (used (cell cs page).0) h) (λ other within none. (still_unused cs page other home.0 none).1),
        inl (refl, refl),
        rw (append-nil log) (
          refl,
          kept.backed,
          (λ before begins at. let q = prefix_trans before v log begins pre in (quiet cs log kept page p.key before q.0 q.1 at (away may).1).0),
        ),
      ),
    )

-- with this entry too the history holds no more calls of a client than stand on the client's page, as far as that has been seen
abbrev pub Backs : ℕ → List Entry → List Entry → Entry → Type 0
Backs page before seen ask = page ≡ 0 → (client : ℕ) → 0 < client → count_by client (ops_on 0 before ++ noted 0 ask) ≤ length (ops_on client seen)

backed_more : (cs : List Cell) (log before seen : List Entry) (page key : ℕ) (ask : Entry) → IsKept cs log → ask.page ≡ page → IsPrefix before log → IsPrefix seen log → key_after page before ≡ Some key → (cell cs key).1 ≡ false → Backs page before seen ask → AreBacked (log ++ ask ∷ [])
backed_more cs log before seen page key ask kept is pre seen_pre at away backs client some =
    let more = length_prefix (ops_on client seen) (ops_on client log) (ops_prefix client seen log seen_pre) in
    let grown = length_prefix (ops_on client log) (ops_on client (log ++ ask ∷ [])) (ops_prefix client log (log ++ ask ∷ []) (ask ∷ [], refl)) in
    grind (arith, quiet cs log kept page key before pre.0 pre.1 at away, kept.backed client some, ops_on-last 0 log ask, append-nil, more, grown)

-- whatever the book is, the entry is added to what the pen comes after
pub adds_moves : (v before : List Entry) (p : Nib) (ask : Entry) (page : ℕ) → page < pages → ask.page ≡ page → p.right ≡ may_write → IsPrefix before v → key_after page before ≡ Some p.key → Backs page before v ask
    → Moves IsKept shown moved page (v, (p, None)) (λ n. either (n == 0) 1 n) (Adds (step page 0 1 ask) (v, (p, None)))
adds_moves v before p ask page few is may begins at backs cs log kept pre away =
    let home = kept.words page few in
    let ds : List Cell = set (begun cs page) p.key (p.value, true) in
    let stay : (j : ℕ) → Home cs j → Home ds j = λ j h. set_home (begun cs page) p.key j p.value (set_home cs page j (used (cell cs page).0) h) in
    let within : p.key < length (begun cs page) = omega (arith, (away may).0, length-set cs page (used (cell cs page).0, true)) in
    let here : Home ds p.key = (omega (arith, within, length-set (begun cs page) p.key (p.value, true)), ap (λ (c : Cell). c.1) (get_or-set_same (begun cs page) p.key (p.value, true) (0, false) within)) in
    let before_pre = prefix_trans before v log begins pre in
    let all = quiet cs log kept page p.key before before_pre.0 before_pre.1 at (away may).1 in
    let apart : (other : ℕ) → other < pages → other ≡ p.key → ⊥ = λ other within same. cc ((kept.words other within).1, ap (λ k. (cell cs k).1) same, (away may).1) in
    let back : (other : ℕ) → other < pages → (cell ds other).0 ≡ 0 → (other ≢ ask.page) × ((cell cs other).0 ≡ 0) = λ other within none.
    let was = still_unused cs page other home.0 (sym (ap (λ (c : Cell). c.0) (get_or-set_other (begun cs page) p.key other (p.value, true) (0, false) (apart other within))) ∙ none) in
    ((λ same. was.0 (same ∙ is)), was.1) in (
      home.0,
      home.1,
      (
        gives,
        ask ∷ [],
        None,
        may,
        kept_more cs ds log ask kept stay back (λ key there. subst (Home ds) (same_Some p.key key (sym all.1 ∙ (ap (λ q. key_after q log) (sym is) ∙ there))) here)
            (backed_more cs log before v page p.key ask kept is before_pre pre at (away may).1 backs),
        inl (refl, refl),
        (λ other other_begins there.
            let q = prefix_trans other v log other_begins pre in
            (ops_on-last page log ask ∙ ap (λ l. l ++ noted page ask) (quiet cs log kept page p.key other q.0 q.1 there (away may).1).0, key_after-last page log ask ∙ key_own page (key_after page log) ask is)),
      ),
    )

all_home : (n k : ℕ) → k < n → Home (replicate n (0, true)) k
all_home n k lt = grind (arith, length-replicate, get_or-replicate)

-- the book as it is opened
pub starts : IsKept (replicate 9 (0, true)) []
starts = record {
  words = λ page few. all_home 9 page few;
  unused = λ page few none. (refl, refl);
  spent = λ before later e key is at. absurd (omega (arith, ap length is, length-append before (e ∷ later)));
  backed = λ client some. omega arith;
}

-- An operation may join the history where its client's page has one more than the history. What was learned is at least what stood on both pages.
pub backs : (page own : ℕ) (before other learned v : List Entry) (ask : Entry) (op : Op) → AreBacked learned → IsPrefix before learned → IsPrefix other learned → IsPrefix learned v → ask.page ≡ page → ask.op ≡ Some op
    → (page ≡ 0 → (own ≡ op.client) × (0 < op.client) × (count_by op.client (ops_on page before) < length (ops_on own other))) → Backs page before v ask
backs page own before other learned v ask op backed before_pre other_pre pre is noted_op turn none client some =
    let there = length_prefix (ops_on client other) (ops_on client learned) (ops_prefix client other learned other_pre) in
    let more = length_prefix (ops_on client learned) (ops_on client v) (ops_prefix client learned v pre) in
    let counted = count_prefix client (ops_on 0 before) (ops_on 0 learned) (ops_prefix 0 before learned before_pre) in
    grind (arith, turn none, count_last client (ops_on 0 before) op, count_own, count_other, backed client some, there, more, counted)
