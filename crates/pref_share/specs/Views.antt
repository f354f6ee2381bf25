-- No public contract cites this.
-- The rule of the published store, and what each step of the writer and of a reader shows. (this project)
use Rattle.std.specs.Prelude.{◌≡◌, ℕ, List, [], ◌∷◌, length, Some, None, true, is_some}
use mathlib.Core.Option.{some}
use lib.ListN.{get_elem?}
use Rattle.logbook.specs.Pages.{Book}
use Rattle.pref_core.specs.declared.call.Op.{Op}
use Rattle.pref_core.specs.Slots.{Contents}
use Rattle.pref_core.specs.Operations.{applied, ran, is_next, slots_after}
use Rattle.pref_core.specs.Planned.{boxed_op}
use Rattle.pref_share.specs.Book.{ops_of}
use Rattle.pref_share.specs.declared.published.Base.{Base}
use Rattle.pref_share.specs.declared.published.View.{View}
use Rattle.pref_share.specs.declared.published.Published.{Published}
use Rattle.pref_share.specs.declared.published.Stamp.{Stamp}

-- the published store after a stamp
abbrev pub stamped : Published → Stamp → Published
stamped x stamp = record { store = applied x.store (boxed_op stamp.op); len = stamp.len; seen = stamp.seen }

-- each operation is let in by the store that those before it leave
abbrev pub AreLetIn : Contents → List Op → Type 0
AreLetIn contents [] = Unit {0}
AreLetIn contents (op ∷ ops) = (is_next contents op ≡ true) × (is_some (slots_after contents op) ≡ true) × AreLetIn (applied contents op) ops

-- the store is what its history leaves of this opening, in this book
pub record HoldsHistory (opening : Contents) (book : Book) (x : Published) : Type 0 where
  pub legal : AreLetIn opening (ops_of x.seen.log)
  pub store : x.store ≡ ran opening (ops_of x.seen.log)
  pub len : x.len ≡ length (ops_of x.seen.log)
  pub in_book : x.seen.book ≡ book

-- what a seat knows is this opening and this book
pub record Fits (opening : Contents) (book : Book) (v : View) : Type 0 where
  pub has_opening : (b : Base) → v.base ≡ Some b → b.opening ≡ opening
  pub has_book : (b : Base) → v.base ≡ Some b → b.seen.book ≡ book

-- There is one opening and one book: the published store represents its history there, and each view knows them or nothing.
pub record Kept (x : Published) (views : List View) : Type 0 where
  pub opening : Contents
  pub book : Book
  pub stands : HoldsHistory opening book x
  pub each : (seat : ℕ) (v : View) → get_elem? views seat ≡ some v → Fits opening book v

abbrev pub newcomer : View
newcomer = record { base = None }

-- the seat knows this opening and this book
pub record Knows (opening : Contents) (book : Book) (v : View) : Type 0 where
  pub at : Base
  pub known : v.base ≡ Some at
  pub has_opening : at.opening ≡ opening
  pub has_book : at.seen.book ≡ book

-- where there is no operation yet, the seat comes to know the opening and the book
abbrev pub Opens : View → Published → Published → View → Type 0
Opens v x y w = ops_of x.seen.log ≡ [] → Knows x.store x.seen.book w

-- the view stays
abbrev pub Stays : View → Published → Published → View → Type 0
Stays v x y w = w ≡ v

-- the store represents its history, and the view stays
abbrev pub Reads : View → Published → Published → View → Type 0
Reads v x y w = (w ≡ v) × ((opening : Contents) (book : Book) → Knows opening book v → HoldsHistory opening book y)

abbrev pub hearing : View → View → View
hearing v note = note
