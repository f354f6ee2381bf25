-- One event more, and its reply.
use Rattle.pref_core.proofs.Common.{◌≡◌, suc, ◌<◌, nat_lt, List, [], ◌∷◌, ◌++◌, length, get_or, drop, take, true, false, Ok, Err, Result, is_err, lt-ltb, refl, sym, ap, ◌∙◌, arith}
use Rattle.pref_core.proofs.Common.{append_assoc, length_push, take_all, drop-cons, Event, Reply, Refused, CoreFault, OutOfMemory, Limits, System, replies_from, step, Does, Replies, Running}
use Rattle.pref_core.proofs.Common.{StandsForSystem, Steps, without_event, AddedReply, AddsReply, reply_of}
use Rattle.std.specs.declared.alloc.AllocError.{AllocError}
use Rattle.pref_core.specs.declared.event.StepFault.{StepFault}

-- What an act returns, as a reply.
pub does_replies : (before after : Running) (event : Event) (returned : Result Reply CoreFault) (result : Result Reply AllocError) → Does before event.client event.act returned after → result ≡ reply_of returned → Replies before event result after
does_replies before after event returned result does is = grind (arith)

pub steps_replies : (before after : Running) (event : Event) (stepped : Result Reply StepFault) (result : Result Reply AllocError) → Steps before event stepped after → result ≡ reply_of (without_event stepped) → Replies before event result after
steps_replies before after event stepped result steps is = does_replies before after event (without_event stepped) result (record { limits = steps.limits; returns = steps.returns }) is

-- the reply to a refusal that is not for want of memory
pub replied_refused : (fault : CoreFault) → (fault ≡ OutOfMemory → ⊥) → Ok (Refused fault) ≡ reply_of (Err fault)
replied_refused fault other = grind (arith)

-- what is returned as a reply is the system's
pub replies_step : (before after : Running) (system : System) (event : Event) (returned : Result Reply AllocError) (reply : Reply) → StandsForSystem before system → Replies before event returned after → returned ≡ Ok reply
    → (reply ≡ (step before.limits system event).reply) × StandsForSystem after (step before.limits system event).next
replies_step before after system event returned reply h replies e = grind (arith)

pub one_reply_more : (limits : Limits) (system : System) (returned : List Reply) (events yielded : List Event) (event : Event) (reply : Reply) (whole : List Reply) → (length yielded < length events) × (event ≡ get_or events (length yielded) event) → reply ≡ (step limits system event).reply
    → returned ++ replies_from limits system (drop (length yielded) events) ≡ whole → (returned ++ reply ∷ []) ++ replies_from limits (step limits system event).next (drop (length (yielded ++ event ∷ [])) events) ≡ whole
one_reply_more limits system returned events yielded event reply whole turn is so_far =
    let n = length yielded in
    let next : suc n ≡ length (yielded ++ event ∷ []) = omega (arith, length_push yielded event) in
    let here : drop n events ≡ event ∷ drop (length (yielded ++ event ∷ [])) events = drop-cons events n event turn.0 ∙ (λ i. sym turn.1 i ∷ drop (next i) events) in
    append_assoc returned (reply ∷ []) _
    ∙ ap (λ (r : Reply). returned ++ r ∷ replies_from limits (step limits system event).next (drop (length (yielded ++ event ∷ [])) events)) is
    ∙ ap (λ l. returned ++ replies_from limits system l) (sym here) ∙ so_far

-- where no memory was wanting, it is added
pub reply_is_added : (before : List Reply) (returned : Result Reply AllocError) (result : Result (Unit {0}) AllocError) (after : List Reply) → AddsReply before returned result after → is_err result ≡ false → AddedReply before returned after
reply_is_added before returned result after adds ok = grind (arith)

-- where memory was wanting, an event is left without one
pub event_is_left : (before : List Reply) (returned : Result Reply AllocError) (result : Result (Unit {0}) AllocError) (after : List Reply) (yielded events : List Event) → AddsReply before returned result after → is_err result ≡ true
    → length before ≡ length yielded → length yielded < length events → nat_lt (length after) (length events) ≡ true
event_is_left before returned result after yielded events adds failed one_each inside = grind (arith, lt-ltb)

-- one reply to each event
replies_count : (limits : Limits) (system : System) (events : List Event) → length (replies_from limits system events) ≡ length events
replies_count limits system [] = refl
replies_count limits system (event ∷ events) = ap suc (replies_count limits (step limits system event).next events)

-- where no event is left without a reply, these are all replies
pub all_replied : (limits : Limits) (system : System) (events : List Event) (returned : List Reply) → returned ≡ take (length returned) (replies_from limits system events) → nat_lt (length returned) (length events) ≡ false → returned ≡ replies_from limits system events
all_replied limits system events returned are_first none_left = grind (arith, take_all, replies_count)
