-- The steps of the writer and of the readers keep the rule.
use Rattle.pref_share.proofs.Common.{arith, ◌≡◌, ◌≢◌, ℕ, List, [], ◌∷◌, ◌++◌, length, set, true, is_some, Some, refl, ap, sym, subst, ◌∙◌, ⊎_elim, Book, Op, Contents, applied, ran, is_next, slots_after}
use Rattle.pref_share.proofs.Common.{Opening, IsLegalFrom, MayFollow, first_contents, contents_at, state_at, Published, stamped, HoldsHistory, Fits, Kept, Knows, Opens, Stays, Reads, AreLetIn}
use mathlib.Core.Option.{some}
use lib.ListN.{get_elem?}
use Rattle.crossbeam_utils.specs.Register.{Admits, TurnsAt, Forks, Merges}
use Rattle.atomic_table.proofs.Lists.{at_set, at_snoc}
use Rattle.pref_core.proofs.LegalLaws.{is_next-from}
use Rattle.pref_share.proofs.HistoryLaws.{ran-append, legal_stands}
use Rattle.pref_share.specs.Book.{ops_of}
use Rattle.pref_share.specs.declared.published.Base.{Base}
use Rattle.pref_share.specs.declared.published.View.{View}
use Rattle.pref_core.specs.Planned.{boxed_op}
use Rattle.pref_share.specs.declared.published.Stamp.{Stamp}
use Rattle.pref_share.specs.Views.{newcomer}

fits_newcomer : (opening : Contents) (book : Book) → Fits opening book newcomer
fits_newcomer opening book = record { has_opening = (λ b e. absurd cc); has_book = (λ b e. absurd cc) }

set_fits : (opening : Contents) (book : Book) (views : List View) (seat : ℕ) (w : View) → Fits opening book w → ((k : ℕ) (v : View) → get_elem? views k ≡ some v → Fits opening book v)
    → (k : ℕ) (v : View) → get_elem? (set views seat w) k ≡ some v → Fits opening book v
set_fits opening book views seat w fit each k v e =
    ⊎_elim (λ (t : (k ≡ seat) × (w ≡ v)). subst (Fits opening book) t.1 fit) (λ (t : (k ≢ seat) × (get_elem? views k ≡ some v)). each k v t.1) (at_set views seat k w v e)

snoc_fits : (opening : Contents) (book : Book) (views : List View) (w : View) → Fits opening book w → ((k : ℕ) (v : View) → get_elem? views k ≡ some v → Fits opening book v)
    → (k : ℕ) (v : View) → get_elem? (views ++ w ∷ []) k ≡ some v → Fits opening book v
snoc_fits opening book views w fit each k v e = ⊎_elim (each k v) (λ (same : w ≡ v). subst (Fits opening book) same fit) (at_snoc views w v k e)

pub admits : Admits Kept newcomer
admits x views k = record { opening = k.opening; book = k.book; stands = k.stands; each = snoc_fits k.opening k.book views newcomer (fits_newcomer k.opening k.book) k.each }

-- one seat changes its view
reviewed : (x : Published) (views : List View) (seat : ℕ) (w : View) (k : Kept x views) → Fits k.opening k.book w → Kept x (set views seat w)
reviewed x views seat w k fit = record { opening = k.opening; book = k.book; stands = k.stands; each = set_fits k.opening k.book views seat w fit k.each }

base_of : Contents → Published → Base
base_of opening x = record { opening = opening; seen = x.seen }

pub opens : (seat : ℕ) (v : View) (x y : Published) → y ≡ x → TurnsAt Kept seat v x y Opens
unfolding base_of
opens seat v x y same views k at =
    let w : View = record { base = Some (base_of k.opening x) } in
    let back : (b : Base) → w.base ≡ Some b → base_of k.opening x ≡ b = λ (b : Base). λ e. cc in
    let fit : Fits k.opening k.book w = record {
      has_opening = (λ b e. sym (ap (λ (t : Base). t.opening) (back b e)));
      has_book = (λ b e. sym (ap (λ (t : Base). t.seen.book) (back b e)) ∙ k.stands.in_book);
    } in (
      w,
      subst (λ (z : Published). Kept z (set views seat w)) (sym same) (reviewed x views seat w k fit),
      (λ empty. record { at = base_of k.opening x; known = refl; has_opening = sym (k.stands.store ∙ ap (ran k.opening) empty); has_book = refl }),
    )

pub stays : (seat : ℕ) (v : View) (x y : Published) (opening : Contents) (book : Book) → Knows opening book v → HoldsHistory opening book y → TurnsAt Kept seat v x y Stays
stays seat v x y opening book knows stands views k at =
    let f = k.each seat v at in
    let still : HoldsHistory k.opening k.book y = grind (arith, f.has_opening knows.at, f.has_book knows.at) in
    (v, record { opening = k.opening; book = k.book; stands = still; each = set_fits k.opening k.book views seat v f k.each }, refl)

pub reads : (seat : ℕ) (v : View) (x : Published) → TurnsAt Kept seat v x x Reads
reads seat v x views k at =
    let f = k.each seat v at in
    (v, reviewed x views seat v k f, (refl, λ opening book knows. grind (arith, f.has_opening knows.at, f.has_book knows.at)))

pub tells : (seat : ℕ) (v : View) → Forks Kept seat v v v
tells seat v x views k at =
    let f = k.each seat v at in
    record { opening = k.opening; book = k.book; stands = k.stands; each = snoc_fits k.opening k.book (set views seat v) v f (set_fits k.opening k.book views seat v f k.each) }

pub hears : (seat : ℕ) (v : View) (other : ℕ) (w : View) → Merges Kept seat v other w w newcomer
hears seat v other w x views k at apart there =
    let n : Fits k.opening k.book w = ⊎_elim (λ (t : (other ≡ seat) × (w ≡ w)). absurd (apart t.0)) (λ (t : (other ≢ seat) × (get_elem? views other ≡ some w)). k.each other w t.1) (at_set views seat other w w there) in
    record { opening = k.opening; book = k.book; stands = k.stands; each = set_fits k.opening k.book (set views seat w) other newcomer (fits_newcomer k.opening k.book) (set_fits k.opening k.book views seat w n k.each) }

let_in_more : (contents : Contents) (xs : List Op) (op : Op) → AreLetIn contents xs → is_next (ran contents xs) op ≡ true → is_some (slots_after (ran contents xs) op) ≡ true → AreLetIn contents (xs ++ op ∷ [])
let_in_more contents [] op let_in next fits = (next, fits, tt)
let_in_more contents (x ∷ xs) op let_in next fits = (let_in.0, let_in.1, let_in_more (applied contents x) xs op let_in.2 next fits)

-- the published store is what its history leaves
pub published_left : (o : Opening) (book : Book) (x : Published) (history : List Op) → HoldsHistory (first_contents o) book x → ops_of x.seen.log ≡ history → x.store ≡ contents_at o history
published_left o book x history stands same = stands.store ∙ ap (contents_at o) same

-- the copy that a planned operation leaves
pub published_next : (o : Opening) (book : Book) (x : Published) (s : Stamp) (op : Op) (history : List Op) → op ≡ boxed_op s.op → IsLegalFrom o history → ops_of x.seen.log ≡ history → HoldsHistory (first_contents o) book x → MayFollow o history op → ops_of s.seen.log ≡ history ++ op ∷ [] → s.len ≡ length (ops_of s.seen.log) → s.seen.book ≡ book
    → HoldsHistory (first_contents o) book (stamped x s)
published_next o book x s op history is legal same stands may ends len in_book =
    let next : is_next (contents_at o history) op ≡ true = is_next-from (contents_at o history) (state_at o history) op (legal_stands o history legal) may.next in
    record {
      legal = subst (AreLetIn (first_contents o)) (sym ends) (let_in_more (first_contents o) history op (subst (AreLetIn (first_contents o)) same stands.legal) next may.fits);
      store = ap (applied x.store) (sym is) ∙ ap (λ (t : Contents). applied t op) (published_left o book x history stands same) ∙ sym (ran-append (first_contents o) history (op ∷ [])) ∙ ap (contents_at o) (sym ends);
      len = len;
      in_book = in_book;
    }

-- a seat whose view stays knows what it knew
pub still_knows : {opening : Contents} {book : Book} {old new : View} → new ≡ old → Knows opening book old → Knows opening book new
still_knows {opening} {book} same knows = subst (Knows opening book) (sym same) knows
