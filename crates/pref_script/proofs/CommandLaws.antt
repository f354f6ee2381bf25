-- The commands of a script, one line at a time.
use Rattle.pref_script.proofs.Common.{◌≡◌, ℕ, suc, ◌+◌, ◌<◌, ◌≤◌, Bool, true, false, List, [], ◌∷◌, ◌++◌, length, refl, sym, arith, append_assoc, Result, Ok, Err}
use Rattle.pref_script.proofs.Common.{if◌then◌else◌, list_all, append-nil, is_blank, Event, Command, accepted_events}
use Rattle.pref_script.proofs.Common.{commands_in, commands_of, event_of, raw_lines, without_line_end, refused_line, reply_lines, texts, is_client, unowned_lines, Refusal}
use Rattle.pref_core.specs.declared.event.Reply.TheVariants.{Refused as NotThere}
use Rattle.pref_core.specs.declared.fault.CoreFault.TheVariants.{NoSuchClient}
use Rattle.pref_script.proofs.TextLaws.{texts-append}

-- the events of commands and more commands
pub accepted_events-append : (xs ys : List Command) → accepted_events (xs ++ ys) ≡ accepted_events xs ++ accepted_events ys
unfolding accepted_events
accepted_events-append [] ys = refl
accepted_events-append (command ∷ xs) ys = grind (arith, accepted_events-append xs ys)

-- the event of a line: of one that is not blank, where it is not refused; the number of the line is nothing to it
abbrev pub event_in : Result Event Refusal → Bool → List Event
event_in (Err why) blank = []
event_in (Ok event) true = []
event_in (Ok event) false = event ∷ []

pub events-in : (names : List (List ℕ)) (number : ℕ) (line : List ℕ) → accepted_events (commands_in names number line) ≡ event_in (event_of names line) (list_all is_blank line)
unfolding accepted_events
events-in names number line = grind (arith)

pub events-any_number : (names : List (List ℕ)) (n m : ℕ) (raws : List (List ℕ)) → accepted_events (commands_of names n raws) ≡ accepted_events (commands_of names m raws)
unfolding commands_of
events-any_number names n m [] = refl
events-any_number names n m (raw ∷ more) = grind (arith, accepted_events-append, events-in, events-any_number names (n + 1) (m + 1) more)

pub events-of_lines : (names : List (List ℕ)) (number : ℕ) (raws : List (List ℕ)) → length (accepted_events (commands_of names number raws)) ≤ length raws
unfolding commands_of accepted_events
events-of_lines names number [] = omega arith
events-of_lines names number (raw ∷ more) = grind (arith, events-of_lines names (number + 1) more)

-- a text has no more lines than bytes
pub lines-few : (text : List ℕ) → length (raw_lines text) ≤ length text
unfolding raw_lines
lines-few [] = omega arith
lines-few (byte ∷ rest) = grind (arith, lines-few rest)

-- what is printed for a line that belongs to no client: a line of blanks, an event, and a refused line
module _ (clients width : ℕ) (names : List (List ℕ)) (number : ℕ) (line : List ℕ) where
  pub unowned-blank : (out : List ℕ) → list_all is_blank line ≡ true → out ≡ out ++ unowned_lines clients width (commands_in names number line)
  unfolding texts
  unowned-blank out blank = rw blank (sym (append-nil out))

  pub unowned-event : (old new : List ℕ) (event : Event) → list_all is_blank line ≡ false → event_of names line ≡ Ok event
      → new ≡ old ++ (if is_client clients event.client then [] else reply_lines width event.client (NotThere NoSuchClient)) → new ≡ old ++ unowned_lines clients width (commands_in names number line)
  unfolding texts
  unowned-event old new event some said wrote = grind (arith, append-nil)

  pub unowned-refused : (old new : List ℕ) (why : Refusal) → list_all is_blank line ≡ false → event_of names line ≡ Err why → new ≡ old ++ refused_line number why
      → new ≡ old ++ unowned_lines clients width (commands_in names number line)
  unfolding texts
  unowned-refused old new why some said wrote = grind (arith, append-nil)

  -- an event of one of the clients
  pub unowned-own : (out : List ℕ) (index : ℕ) (event : Event) → event_of names line ≡ Ok event → event.client ≡ suc index → index < clients → out ≡ out ++ unowned_lines clients width (commands_in names number line)
  unowned-own out index event said own inside = grind (arith, unowned-blank out, unowned-event out out event, append-nil out)

-- one line more
pub unowned-more : (clients width : ℕ) (names : List (List ℕ)) (number : ℕ) (left raw tail old new all : List ℕ) → old ++ unowned_lines clients width (commands_of names number (raw_lines left)) ≡ all
    → raw_lines left ≡ raw ∷ raw_lines tail → new ≡ old ++ unowned_lines clients width (commands_in names number (without_line_end raw))
    → new ++ unowned_lines clients width (commands_of names (number + 1) (raw_lines tail)) ≡ all
unfolding commands_of
unowned-more clients width names number left raw tail old new all before cut wrote = grind (arith, texts-append, append_assoc)
