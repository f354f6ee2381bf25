-- The sequential table along events: one event more, and the clients that an event leaves alone.
use Rattle.pref_share.proofs.Common.{◌≡◌, ℕ, zero, suc, ◌<◌, ◌≤◌, List, [], ◌∷◌, ◌++◌, map, replicate, Option, Some, None, refl, ap, arith, Call}
use Rattle.pref_share.proofs.Common.{Act, Reply}
use Rattle.pref_share.proofs.Common.{seat, idle_clients, Open, Member, System, Step, client_of, counted_with}
use Rattle.pref_share.proofs.Common.{change, finish, scan, step, replies_from, seat-with_seat_other, members-changed}
use Rattle.pref_core.specs.declared.event.Event.{Event}
use Rattle.pref_core.specs.Limits.{Limits}
use Rattle.pref_core.specs.MachineParts.{numbered, step_of}

-- the system after events
abbrev pub system_after : Limits → System → List Event → System
system_after limits system [] = system
system_after limits system (event ∷ events) = system_after limits (step limits system event).next events

pub system_after-more : (limits : Limits) (system : System) (events : List Event) (event : Event) → system_after limits system (events ++ event ∷ []) ≡ (step limits (system_after limits system events) event).next
system_after-more limits system [] event = refl
system_after-more limits system (first ∷ events) event = system_after-more limits (step limits system first).next events event

pub replies_from-more : (limits : Limits) (system : System) (events : List Event) (event : Event) → replies_from limits system (events ++ event ∷ []) ≡ replies_from limits system events ++ (step limits (system_after limits system events) event).reply ∷ []
replies_from-more limits system [] event = refl
replies_from-more limits system (first ∷ events) event = ap (λ l. (step limits system first).reply ∷ l) (replies_from-more limits (step limits system first).next events event)

-- the step leaves this client as it is
abbrev Leaves : ℕ → System → Step → Type 0
Leaves other system after = seat other after.next.members ≡ seat other system.members

numbered_leaves : (other : ℕ) (member : Member) (system : System) (right : Step) → Leaves other system right → Leaves other system (numbered member system right)
numbered_leaves other member system right h = grind (arith)

counted_leaves : (other client : ℕ) (member : Member) (system : System) (query : Option Open) → (other ≡ client → ⊥) → seat other (counted_with query client member system).members ≡ seat other system.members
counted_leaves other client member system query apart = seat-with_seat_other system.members other client (record { calls = suc member.calls; query = query }) apart

change_leaves : (limits : Limits) (system : System) (client other : ℕ) (member : Member) (call : Call) (done : Reply) → (other ≡ client → ⊥) → Leaves other system (change limits system client member call done)
change_leaves limits system client other member call done apart = grind (arith, members-changed, counted_leaves)

scan_leaves : (client other : ℕ) (member : Member) (system : System) (query : Open) → (other ≡ client → ⊥) → Leaves other system (scan client member system query)
scan_leaves client other member system query apart = grind (arith, seat-with_seat_other)

finish_leaves : (client other : ℕ) (member : Member) (system : System) (query : Open) → (other ≡ client → ⊥) → Leaves other system (finish client member system query)
finish_leaves client other member system query apart = grind (arith, counted_leaves)

step_of_leaves : (limits : Limits) (system : System) (client other : ℕ) (member : Member) (act : Act) (query : Option Open) → (other ≡ client → ⊥) → Leaves other system (step_of limits system client member act query)
step_of_leaves limits system client other member act query apart = grind (arith, numbered_leaves, change_leaves, counted_leaves, scan_leaves, finish_leaves)

-- an event leaves all clients but its own as they are
pub step_leaves : (limits : Limits) (system : System) (event : Event) (other : ℕ) → (other ≡ event.client → ⊥) → seat other (step limits system event).next.members ≡ seat other system.members
step_leaves limits system event other apart = grind (arith, step_of_leaves)

-- as it is opened, nobody has made a call
pub opened_clients : (n : ℕ) → map client_of (replicate n (record { calls = 0; query = None })) ≡ idle_clients n
opened_clients zero = refl
opened_clients (suc n) = ap (λ l. (record { calls = 0; at_begin = None }) ∷ l) (opened_clients n)

pub opened_seat : (clients client : ℕ) → 0 < client → client ≤ clients → seat client (replicate {A = Member} clients (record { calls = 0; query = None })) ≡ Some (record { calls = 0; query = None })
opened_seat (suc n) (suc (suc k)) some within = opened_seat n (suc k) (omega arith) (omega arith)
opened_seat clients client some within = grind (arith)
