-- The rule of the book of ops, what a step shows, and the history that was reached. (this project)
use Rattle.std.specs.Prelude.{ℕ, ◌≡◌, ◌==◌, ◌<◌, ◌≤◌, true, List, [], ◌∷◌, ◌++◌, length, filter, if◌then◌else◌, Option, None, Some}
use mathlib.Core.List.{IsPrefix}
use Rattle.logbook.specs.Pages.{Cell, cell, Step, View, Book, Named, may_make}
use Rattle.pref_core.specs.declared.call.Op.{Op}
use Rattle.pref_share.specs.declared.entry.Entry.{Entry}

-- the page of the history; that of a client is its number
abbrev pub history_page : ℕ
history_page = 0

-- how many pages there are: that of the history, and one for each of eight clients
abbrev pub pages : ℕ
pages = 9

-- what an entry notes on a page
abbrev pub noted : ℕ → Entry → List Op
noted page e = if e.page == page then (elim e.op [ None ↦ [] | Some op ↦ op ∷ [] ]) else []

abbrev pub ops_on : ℕ → List Entry → List Op
ops_on page [] = []
ops_on page (e ∷ es) = noted page e ++ ops_on page es

-- the history
abbrev pub ops_of : List Entry → List Op
ops_of log = ops_on history_page log

-- how many of the operations are calls of this client
abbrev pub count_by : ℕ → List Op → ℕ
count_by client ops = length (filter (λ op. op.client == client) ops)

abbrev pub key_by : ℕ → Option ℕ → Entry → Option ℕ
key_by page key e = if e.page == page then Some e.key else key

abbrev pub key_from : ℕ → Option ℕ → List Entry → Option ℕ
key_from page key [] = key
key_from page key (e ∷ es) = key_from page (key_by page key e) es

-- the key of the pen that may write the next entry of a page after these, once the page is begun
abbrev pub key_after : ℕ → List Entry → Option ℕ
key_after page log = key_from page None log

abbrev pub Home : List Cell → ℕ → Type 0
Home cells k = (k < length cells) × ((cell cells k).1 ≡ true)

-- the history holds no more calls of a client than stand on the client's page
abbrev pub AreBacked : List Entry → Type 0
AreBacked log = (client : ℕ) → 0 < client → count_by client (ops_of log) ≤ length (ops_on client log)

-- nothing stands on the page
abbrev pub IsBlank : ℕ → List Entry → Type 0
IsBlank page log = (key_after page log ≡ None) × (ops_on page log ≡ [])

-- The word of a page is 0 until the page is begun. A pen that wrote an entry is home
pub record IsKept (cells : List Cell) (log : List Entry) : Type 0 where
  pub words : (page : ℕ) → page < pages → Home cells page
  pub unused : (page : ℕ) → page < pages → (cell cells page).0 ≡ 0 → IsBlank page log
  pub spent : (before later : List Entry) (e : Entry) (key : ℕ) → before ++ e ∷ later ≡ log → key_after e.page before ≡ Some key → Home cells key
  pub backed : AreBacked log

abbrev pub word_of : Book → ℕ → Named
word_of b page = record { tracked = true; key = page; book = b }

-- there is a new pen, which begins the page where its word was 0
abbrev pub Begins : Step Entry → View Entry ℕ → ℕ → View Entry ℕ → Type 0
Begins s v found w = (w.1.0.right ≡ may_make) × (found ≡ 0 → (key_after s.key w.0 ≡ Some w.1.0.key) × (ops_on s.key w.0 ≡ []))

-- what the pen comes after is all that stands on its page
abbrev pub IsWhole : Step Entry → View Entry ℕ → ℕ → View Entry ℕ → Type 0
IsWhole s v found w = (w.1.0 ≡ v.1.0) × AreBacked w.0 × ((before : List Entry) → IsPrefix before v.0 → key_after s.key before ≡ Some v.1.0.key → ops_on s.key w.0 ≡ ops_on s.key before)

-- the entry was added to what the pen comes after
abbrev pub Adds : Step Entry → View Entry ℕ → ℕ → View Entry ℕ → Type 0
Adds s v found w = (before : List Entry) → IsPrefix before v.0 → key_after s.key before ≡ Some v.1.0.key → (ops_on s.key w.0 ≡ ops_on s.key before ++ noted s.key s.ask) × (key_after s.key w.0 ≡ Some s.ask.key)

-- a page, and what stands on it
pub record Page : Type 0 where
  pub number : ℕ
  pub ops : List Op
  pub book : Book

-- The page is this client's, and so many calls stand on it.
pub record IsPageOf (book : Book) (client made : ℕ) (page : Page) : Type 0 where
  pub some : 0 < client
  pub number_is : page.number ≡ client
  pub in_book : page.book ≡ book
  pub counted : length page.ops ≡ made
