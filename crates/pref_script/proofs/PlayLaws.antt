-- Commands that are played one after the other.
use Rattle.pref_script.proofs.Common.{arith, ◌≡◌, ℕ, ℤ, ◌+◌, List, [], ◌∷◌, ◌++◌, length, Ok, Err, OnOk, Result, on_ok_weaker, sym, refl, subst, append_assoc, Limits, System, opened, replies, Event}
use Rattle.pref_script.proofs.Common.{Command, refused, runs, commands_in, commands_of, accepted_events, command_lines, raw_lines, without_line_end, refused_line, reply_lines, Refusal, Act, CoreFault}
use Rattle.pref_core.proofs.RepliesLaws.{does_replies, replied_refused}
use Rattle.pref_core.specs.MachineParts.{reply_of}
use Rattle.pref_core.specs.Systems.{Does, Replies, Running, StandsForSystem}
use Rattle.pref_core.specs.declared.fault.CoreFault.TheVariants.{OutOfMemory}
use Rattle.pref_core.specs.declared.event.Reply.{Reply}
use Rattle.pref_core.specs.declared.event.Reply.TheVariants.{Refused}
use Rattle.pref_script.specs.Playing.{Plays, PrintsAll, printed_from}

-- a refused line
pub plays_refused : (width : ℕ) (running : Running) (number : ℕ) (why : Refusal) (old new : List ℕ) → new ≡ old ++ refused_line number why → Plays width running (refused number why ∷ []) old new running
unfolding command_lines accepted_events
plays_refused width running number why old new added = grind (arith, append_assoc)

-- the same, once its line was pushed
pub plays_refused_line : {E : Type 0} (width : ℕ) (running : Running) (number : ℕ) (why : Refusal) (old new : List ℕ) (pushed : Result (Unit {0}) E) → OnOk pushed (new ≡ old ++ refused_line number why) → OnOk pushed (Plays width running (refused number why ∷ []) old new running)
plays_refused_line width running number why old new pushed added = on_ok_weaker pushed (plays_refused width running number why old new) added

-- an event
pub plays_event : (width : ℕ) (before after : Running) (event : Event) (reply : Reply) (old new : List ℕ) → Replies before event (Ok reply) after → new ≡ old ++ reply_lines width event.client reply
    → Plays width before (runs event ∷ []) old new after
unfolding command_lines accepted_events
plays_event width before after event reply old new answers added = grind (arith, append_assoc)

-- an act that is done by a call of its own, whose result has this reply
plays_returned : (returned : Result Reply CoreFault) (reply : Reply) (width : ℕ) (before after : Running) (event : Event) (act : Act) (old new : List ℕ) → event.act ≡ act → Does before event.client act returned after
    → reply_of returned ≡ Ok reply → new ≡ old ++ reply_lines width event.client reply → Plays width before (runs event ∷ []) old new after
plays_returned returned reply width before after event act old new is does same =
    plays_event width before after event reply old new (does_replies before after event returned _ (subst (λ (a : Act). Does before event.client a returned after) (sym is) does) (sym same))

-- one that is done
pub plays_done : {E : Type 0} (reply : Reply) (width : ℕ) (before after : Running) (event : Event) (act : Act) (old new : List ℕ) (pushed : Result (Unit {0}) E) → event.act ≡ act → Does before event.client act (Ok reply) after
    → OnOk pushed (new ≡ old ++ reply_lines width event.client reply) → OnOk pushed (Plays width before (runs event ∷ []) old new after)
plays_done reply width before after event act old new pushed is does added = on_ok_weaker pushed (plays_returned (Ok reply) reply width before after event act old new is does refl) added

-- one that is refused so
pub plays_failed : {E : Type 0} (fault : CoreFault) (width : ℕ) (before after : Running) (event : Event) (act : Act) (old new : List ℕ) (pushed : Result (Unit {0}) E) → event.act ≡ act → Does before event.client act (Err fault) after
    → OnOk pushed ((fault ≡ OutOfMemory → ⊥) × (new ≡ old ++ reply_lines 0 event.client (Refused fault))) → OnOk pushed (Plays width before (runs event ∷ []) old new after)
plays_failed fault width before after event act old new pushed is does added =
    on_ok_weaker pushed (λ (known, text). plays_returned (Err fault) (Refused fault) width before after event act old new is does (sym (replied_refused fault known)) text) added

-- what was printed so far, and what is printed for the rest from here on, is what is printed for all
pub record PlayingFrom (width : ℕ) (limits : Limits) (system : System) (all : List Command) (text : List ℕ) (now : Running) (rest : List Command) : Type 0 where
  pub next : System
  pub stands : StandsForSystem now next
  pub whole : text ++ printed_from limits width next rest ≡ printed_from limits width system all

pub record Playing (width : ℕ) (first : Running) (all : List Command) (text : List ℕ) (now : Running) (rest : List Command) : Type 0 where
  pub limits : now.limits ≡ first.limits
  pub from : (system : System) → StandsForSystem first system → PlayingFrom width first.limits system all text now rest

-- a line more
pub playing_line : (width : ℕ) (names : List (List ℕ)) (first now after : Running) (all : List Command) (number : ℕ) (left raw tail text new : List ℕ)
    → Playing width first all text now (commands_of names number (raw_lines left)) → raw_lines left ≡ raw ∷ raw_lines tail
    → Plays width now (commands_in names number (without_line_end raw)) text new after → Playing width first all new after (commands_of names (number + 1) (raw_lines tail))
unfolding commands_of
playing_line width names first now after all number left raw tail text new playing cut plays = grind (arith)

-- all that is printed for the commands of a script
pub prints_output : (limits : Limits) (rows : List (List ℤ)) (names : List (List ℕ)) (number first : ℕ) (lines : List (List ℕ)) (running : Running) (text : List ℕ)
    → running.limits ≡ limits → StandsForSystem running (opened limits rows) → PrintsAll (length names) running (commands_of names number lines) text → number ≡ first
    → text ≡ command_lines (length names) (commands_of names first lines) (replies limits rows (accepted_events (commands_of names first lines)))
prints_output limits rows names number first lines running text same stands prints is = grind (arith)
