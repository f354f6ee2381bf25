-- A client's part of a script, one command at a time.
use Rattle.pref_script.proofs.Common.{◌≡◌, ◌≢◌, ◌∙◌, ℕ, zero, suc, ◌+◌, ◌<◌, ◌≤◌, ◌^◌, true, false, List, [], ◌∷◌, ◌++◌, length, map, Result, Some, None, Ok, Err, refl, sym}
use Rattle.pref_script.proofs.Common.{ap, arith, subst, append_assoc, inl, inr, string_bytes, list_all, All, append-nil, Event, AcceptsLeft, AllAccepted, PartsFrom, AreParts}
use Rattle.pref_script.proofs.Common.{HasReplied, IsAccepted, IsGiven, AllGiven, IsPart, acts_in, acts_left, accepted_events, act_of, commands_in, commands_of, Refusal}
use Rattle.pref_script.proofs.Common.{is_blank, prefix_len, event_of, client_named, said_in, word_of, raw_lines, without_line_end, reply_lines, texts, clients_lines, unowned_lines, Part}
use Rattle.pref_script.proofs.Common.{cond, drop, drop_all, drop_more, eq-eqb, get_or, map-append, range_with_len, set, vec_len, Act}
use Rattle.std.proofs.lemmas.List.Sums.{count_by-le-length, length-filter}
use Rattle.std.proofs.lemmas.List.Elements.{filter-append}
use Rattle.std.proofs.Common.{Bor}
use Rattle.std.proofs.lemmas.List.{length-map}
use Rattle.pref_core.specs.declared.event.Reply.{Reply}
use Rattle.pref_share.specs.Interleavings.{acts_of}
use Rattle.pref_share.specs.Runs.{Each}
use Rattle.pref_script.specs.ClientParts.{AreAccepted, IsCommandOf, IsWhole, act_in, acts_by, commands_left, event_by}
use Rattle.pref_script.specs.Commands.{event_said}
use Rattle.pref_script.specs.Threads.{acts_of_clients}
use Rattle.pref_script.proofs.CommandLaws.{accepted_events-append, event_in, events-any_number, events-in, events-of_lines, lines-few, unowned-blank, unowned-own}
use Rattle.pref_script.proofs.TextLaws.{texts-append}

-- the event of a line is of the client that it names
pub event-named : (names : List (List ℕ)) (line : List ℕ) (event : Event) → event_of names line ≡ Ok event → client_named line ≡ Some event.client
unfolding act_of said_in client_named
event-named names line event is = grind (arith)

-- a line of blanks names no client
all_blanks : (line : List ℕ) → list_all is_blank line ≡ true → prefix_len is_blank line ≡ length line
all_blanks [] blank = refl
all_blanks (byte ∷ rest) blank = grind (arith, all_blanks rest)

blank-unnamed : (line : List ℕ) → list_all is_blank line ≡ true → client_named line ≡ None
unfolding client_named word_of
blank-unnamed line blank = rw (drop_all (prefix_len is_blank line) line (omega (arith, all_blanks line blank))) refl

-- a line that does not name the client
first-unnamed : (names : List (List ℕ)) (client : ℕ) (line : List ℕ) → client_named line ≢ Some client → acts_of client (accepted_events (commands_in names 0 line)) ≡ []
first-unnamed names client line other = grind (arith, events-in, event-named)

-- one event is an act of its client alone
acts-own : (event : Event) (client : ℕ) → event.client ≡ client → acts_of client (event ∷ []) ≡ event.act ∷ []
acts-own event client e = ap (λ own. map (λ (x : Event). x.act) (cond own (event ∷ []) [])) (eq-eqb event.client client e)

-- the acts of a client in a line that names it are those of its command
acts-event : (client : ℕ) (said : Result Event Refusal) → ((event : Event) → said ≡ Ok event → event.client ≡ client) → acts_of client (event_in said false) ≡ act_in said
acts-event client (Ok event) own = acts-own event client (own event refl)
acts-event client (Err why) own = refl

first-named : (names : List (List ℕ)) (client : ℕ) (line command : List ℕ) → IsCommandOf client line command → acts_of client (accepted_events (commands_in names 0 line)) ≡ act_in (event_by names client command)
first-named names client line command is =
    let own : (event : Event) → event_of names line ≡ Ok event → event.client ≡ client = λ event said. grind (arith, event-named names line event said, is.named) in
    grind (arith, events-in names 0 line, blank-unnamed line, acts-event client (event_of names line) own, is)

-- the acts of the first line come before those of the lines behind it
acts-line : (names : List (List ℕ)) (client : ℕ) (raw : List ℕ) (more : List (List ℕ))
    → acts_in names client (raw ∷ more) ≡ acts_of client (accepted_events (commands_in names 0 (without_line_end raw))) ++ acts_in names client more
unfolding commands_of
acts-line names client raw more = grind (arith, accepted_events-append, events-any_number, filter-append, map-append)

-- one command more
acts-push : (names : List (List ℕ)) (client : ℕ) (commands : List (List ℕ)) (command : List ℕ) → acts_by names client (commands ++ command ∷ []) ≡ acts_by names client commands ++ act_in (event_by names client command)
acts-push names client [] command = append-nil (act_in (event_by names client command))
acts-push names client (first ∷ more) command = grind (arith, acts-push names client more command, append_assoc)

accepted-push : (names : List (List ℕ)) (client : ℕ) (commands : List (List ℕ)) (command : List ℕ) → AreAccepted names client (commands ++ command ∷ [])
    → AreAccepted names client commands × ((event : Event) × (event_by names client command ≡ Ok event))
accepted-push names client [] command all = (tt, all.0)
accepted-push names client (first ∷ more) command all =
    let (before, last) = accepted-push names client more command all.1 in ((all.0, before), last)

-- The part has gone through commands, of which these are the acts.
pub record HasGone (old new : Part) (past : List Act) : Type 0 where
  pub client : new.client ≡ old.client
  pub schema : new.schema.now ≡ old.schema.now
  pub text : string_bytes new.text ≡ string_bytes old.text
  pub acts : acts_left old ≡ past ++ acts_left new
  pub refused : new.refused ≡ false → old.refused ≡ false
  pub accepted : new.refused ≡ false → AcceptsLeft new → AcceptsLeft old

-- one command more: it is an act, or refused
pub gone-act : (old now new : Part) (command : List ℕ) (event : Event) → HasGone old now [] → commands_left now ≡ command ∷ commands_left new → event_by now.schema.now now.client command ≡ Ok event
    → new.client ≡ now.client → new.schema.now ≡ now.schema.now → string_bytes new.text ≡ string_bytes now.text → new.refused ≡ now.refused → HasGone old new (event.act ∷ [])
gone-act old now new command event gone cut said client schema text same = grind (arith)

pub gone-refused : (old now new : Part) (command : List ℕ) (why : Refusal) → HasGone old now [] → commands_left now ≡ command ∷ commands_left new → event_by now.schema.now now.client command ≡ Err why
    → new.client ≡ now.client → new.schema.now ≡ now.schema.now → string_bytes new.text ≡ string_bytes now.text → new.refused ≡ true → HasGone old new []
gone-refused old now new command why gone cut said client schema text refused = grind (arith)

-- the replies to a part stay
pub returned-on : (first old new : Part) (acts : List Act) (replies : List Reply) → HasReplied first old replies → HasGone old new acts → HasReplied first new replies
returned-on first old new acts replies returned gone = grind (arith)

-- the next command of a part, and no command
pub command-next : (part : Part) (command : Bor (List ℕ)) → part.read < vec_len part.commands → command ≡ get_or part.commands.items part.read command
    → commands_left part ≡ command.now ∷ map (λ (c : Bor (List ℕ)). c.now) (drop (part.read + 1) part.commands.items)
command-next part command some is = grind (arith, drop_more)

pub commands-none : (part : Part) → vec_len part.commands ≤ part.read → commands_left part ≡ []
commands-none part none = grind (arith, drop_all)

-- a client has no more acts than its lines have bytes
pub acts-short : (names : List (List ℕ)) (client : ℕ) (text : List ℕ) → length (acts_in names client (raw_lines text)) ≤ length text
acts-short names client text = grind (arith, length-map, length-filter, count_by-le-length, events-of_lines names 0 (raw_lines text), lines-few text)

-- a reply more
pub returned-more : (first old new : Part) (replies : List Reply) (reply : Reply) → HasReplied first old replies → new.client ≡ old.client → new.schema.now ≡ old.schema.now → commands_left new ≡ commands_left old → new.refused ≡ old.refused
    → string_bytes new.text ≡ string_bytes old.text ++ reply_lines (length old.schema.now) old.client reply → HasReplied first new (replies ++ reply ∷ [])
unfolding texts
returned-more first old new replies reply returned client schema left refused wrote = grind (arith, append_assoc, append-nil, texts-append)

-- the parts of clients before they have commands, and one part more
pub are-more : (names raws : List (List ℕ)) (client : ℕ) (parts : List Part) (part : Part) → PartsFrom names raws raws client parts → part.schema.now ≡ names → part.client ≡ client + length parts → commands_left part ≡ [] → part.read ≡ 0
    → string_bytes part.text ≡ [] → PartsFrom names raws raws client (parts ++ part ∷ [])
are-more names raws client [] part are schema number commands read returned = grind (arith)
are-more names raws client (first ∷ more) part are schema number commands read returned = (are.0, are-more names raws (client + 1) more part are.1 schema (omega arith) commands read returned)

-- a line that does not name the client is nothing to its part
part-next : (names raws left : List (List ℕ)) (raw : List ℕ) (client : ℕ) (part : Part) → IsPart names raws (raw ∷ left) client part → client_named (without_line_end raw) ≢ Some client → IsPart names raws left client part
part-next names raws left raw client part is other =
    let accepts : AllAccepted names client left → AllAccepted names client (raw ∷ left) = λ all. (λ named. absurd (other named), all) in
    grind (arith, acts-line names client raw left, first-unnamed names client (without_line_end raw) other)

pub given-nobody : (names raws left : List (List ℕ)) (raw : List ℕ) (client : ℕ) (parts : List Part) → ((index : ℕ) → index < length parts → client_named (without_line_end raw) ≢ Some (client + index))
    → PartsFrom names raws (raw ∷ left) client parts → PartsFrom names raws left client parts
given-nobody names raws left raw client [] nobody are = tt
given-nobody names raws left raw client (part ∷ more) nobody (is, are) = (
  part-next names raws left raw client part is (λ named. nobody 0 (omega arith) (grind (arith, named))),
  given-nobody names raws left raw (client + 1) more (λ index inside named. nobody (suc index) (omega arith) (grind (arith, named))) are,
)

-- the command of a line that names the client is given to its part
commands-push : (old new : Part) (command : Bor (List ℕ)) → old.read ≡ 0 → new.read ≡ old.read → new.commands.items ≡ old.commands.items ++ command ∷ [] → commands_left new ≡ commands_left old ++ command.now ∷ []
commands-push old new command unread same pushed = rw (same, unread, pushed) (map-append (λ (c : Bor (List ℕ)). c.now) old.commands.items (command ∷ []))

part-given : (names raws left : List (List ℕ)) (raw command : List ℕ) (client : ℕ) (old new : Part) → IsPart names raws (raw ∷ left) client old → IsCommandOf client (without_line_end raw) command
    → new.schema.now ≡ old.schema.now → new.client ≡ old.client → commands_left new ≡ commands_left old ++ command ∷ [] → new.read ≡ old.read → string_bytes new.text ≡ string_bytes old.text → IsPart names raws left client new
part-given names raws left raw command client old new was of schema number commands read text = record {
  schema = schema ∙ was.schema;
  number = number ∙ was.number;
  acts = grind (arith, acts-push names client (commands_left old) command, acts-line names client raw left, first-named names client (without_line_end raw) command of, append_assoc);
  accepted = λ here rest.
      let (before, last) = accepted-push names client (commands_left old) command (rw (schema ∙ was.schema, number ∙ was.number, commands) at here) in
      was.accepted (rw (was.schema, was.number) before) (λ _. (last.0, ap (event_said names) of.said ∙ last.1), rest);
  unread = read ∙ was.unread;
  returned = text ∙ was.returned;
}

pub given-here : (names raws left : List (List ℕ)) (raw : List ℕ) (command : Bor (List ℕ)) (client : ℕ) (parts : List Part) (index owner : ℕ) (old new : Part) → index < length parts → old ≡ get_or parts index old → owner ≡ client + index
    → IsCommandOf owner (without_line_end raw) command.now → new.schema.now ≡ old.schema.now → new.client ≡ old.client → new.commands.items ≡ old.commands.items ++ command ∷ [] → new.read ≡ old.read
    → string_bytes new.text ≡ string_bytes old.text → PartsFrom names raws (raw ∷ left) client parts → PartsFrom names raws left client (set parts index new)
given-here names raws left raw command client [] index owner old new inside held spot of schema number pushed read text are = absurd (omega (arith, inside))
given-here names raws left raw command client (part ∷ more) zero owner old new inside held spot of schema number pushed read text (is, are) =
    let was = subst (IsPart names raws (raw ∷ left) client) (sym held) is in
    let here : owner ≡ client = omega arith in (
      part-given names raws left raw command.now client old new was (rw here at of) schema number (commands-push old new command was.unread read pushed) read text,
      given-nobody names raws left raw (client + 1) more (λ index inside named. grind (arith, of.named, named, here)) are,
    )
given-here names raws left raw command client (part ∷ more) (suc index) owner old new inside held spot of schema number pushed read text (is, are) = (
  part-next names raws left raw client part is (λ named. grind (arith, of.named, named, spot)),
  given-here names raws left raw command (client + 1) more index owner old new (omega arith) held (omega arith) of schema number pushed read text are,
)

-- all lines were given to the parts: these are the acts of each
pub part-acts : (names raws : List (List ℕ)) (client : ℕ) (part : Part) → IsPart names raws [] client part → acts_left part ≡ acts_in names client raws
unfolding commands_of accepted_events
part-acts names raws client part is = sym (append-nil (acts_left part)) ∙ is.acts

pub parts-few : (names : List (List ℕ)) (text : List ℕ) (client : ℕ) (parts : List Part) → length text < 2 ^ 63 → PartsFrom names (raw_lines text) [] client parts → All (λ part. length (acts_left part) < 2 ^ 63) parts
parts-few names text client (part ∷ more) short (is, are) zero d within = grind (arith, part-acts names (raw_lines text) client part is, acts-short names client text)
parts-few names text client (part ∷ more) short (is, are) (suc i) d within = parts-few names text (client + 1) more short are i d (omega arith)
parts-few names text client [] short are i d within = absurd (omega (arith, within))

-- their acts
acts-from : (names : List (List ℕ)) (text : List ℕ) (first client : ℕ) (parts : List Part) → PartsFrom names (raw_lines text) [] client parts
    → map (λ client. acts_of client (accepted_events (commands_of names first (raw_lines text)))) (range_with_len client (length parts)) ≡ map acts_left parts
acts-from names text first client [] are = refl
acts-from names text first client (part ∷ more) (is, are) = λ i. (ap (acts_of client) (events-any_number names first 0 (raw_lines text)) ∙ sym (part-acts names (raw_lines text) client part is)) i ∷ acts-from names text first (client + 1) more are i

pub acts-listed : (names : List (List ℕ)) (text : List ℕ) (clients first : ℕ) (parts : List Part) → length parts ≡ clients → AreParts names (raw_lines text) parts → acts_of_clients clients (commands_of names first (raw_lines text)) ≡ map acts_left parts
acts-listed names text clients first parts many are = rw (← many) (acts-from names text first 1 parts are)

-- the texts of done parts, one after the other, are the lines of the replies that they took
pub parts-shown : (names raws : List (List ℕ)) (client : ℕ) (parts done : List Part) (replies : List (List Reply)) → PartsFrom names raws [] client parts → Each HasReplied parts done replies → texts (λ part. string_bytes part.text) done ≡ clients_lines (length names) client replies
unfolding texts clients_lines
parts-shown names raws client [] [] [] are taken = refl
parts-shown names raws client (part ∷ parts) (new ∷ done) (list ∷ replies) (is, are) (has, taken) = grind (arith, is, has, parts-shown names raws (client + 1) parts done replies are taken)
parts-shown names raws client parts done replies are taken = absurd taken

-- no line that names a client whose part is whole was refused
whole-accepts : (names raws : List (List ℕ)) (client : ℕ) (parts done : List Part) (replies : List (List Reply)) → PartsFrom names raws [] client parts → Each HasReplied parts done replies → All IsWhole done
    → (index number : ℕ) → number ≡ client + index → index < length done → AllAccepted names number raws
whole-accepts names raws client [] [] [] are taken whole index number same inside = absurd (omega arith)
whole-accepts names raws client (part ∷ parts) (new ∷ done) (list ∷ replies) (is, are) (has, taken) whole zero number same inside =
    grind (arith, whole 0 new, is.accepted, has.accepted, commands-none new)
whole-accepts names raws client (part ∷ parts) (new ∷ done) (list ∷ replies) (is, are) (has, taken) whole (suc index) number same inside =
    whole-accepts names raws (client + 1) parts done replies are taken (λ i d lt. whole (suc i) d (omega arith)) index number (omega arith) (omega arith)
whole-accepts names raws client parts done replies are taken whole index number same inside = absurd taken

-- a line that was given to a part, and that is not refused, is none of nobody's
unowned-given : (clients width : ℕ) (names : List (List ℕ)) (number : ℕ) (raw : List ℕ) → IsGiven clients raw → ((index : ℕ) → index < clients → IsAccepted names (suc index) (without_line_end raw))
    → unowned_lines clients width (commands_in names number (without_line_end raw)) ≡ []
unowned-given clients width names number raw (inl blank) accept = sym (unowned-blank clients width names number (without_line_end raw) [] blank)
unowned-given clients width names number raw (inr (index, inside, named)) accept =
    let line = without_line_end raw in
    let (event, is) = accept index inside named in
    sym (unowned-own clients width names number line [] index event is (grind (arith, event-named names line event is, named)) inside)

all-given : (clients width : ℕ) (names : List (List ℕ)) (number : ℕ) (raws : List (List ℕ)) → AllGiven clients raws → ((index : ℕ) → index < clients → AllAccepted names (suc index) raws)
    → unowned_lines clients width (commands_of names number raws) ≡ []
unfolding commands_of texts
all-given clients width names number [] given accept = refl
all-given clients width names number (raw ∷ more) given accept =
    grind (arith, unowned-given clients width names number raw given.0 (λ index inside. (accept index inside).0), all-given clients width names (number + 1) more given.1 (λ index inside. (accept index inside).1))

-- no line belongs to nobody, where each was given to a part and all parts are whole
pub unowned-none : (names : List (List ℕ)) (text : List ℕ) (number : ℕ) (parts done : List Part) (replies : List (List Reply)) → AreParts names (raw_lines text) parts → Each HasReplied parts done replies
    → AllGiven (length done) (raw_lines text) → All IsWhole done → unowned_lines (length done) (length names) (commands_of names number (raw_lines text)) ≡ []
unowned-none names text number parts done replies are taken given whole =
    all-given (length done) (length names) names number (raw_lines text) given (λ index inside. whole-accepts names (raw_lines text) 1 parts done replies are taken whole index (suc index) (omega arith) inside)
