-- Runs in which the acts of all clients are interleaved, and the replies of the sequential table to them. (this project)
use Rattle.std.specs.Prelude.{◌≡◌, ◌==◌, ℕ, suc, ◌<◌, ◌≤◌, List, map, filter, length, All, Some, slice_get}
use Rattle.pref_core.specs.declared.event.Act.{Act}
use Rattle.pref_core.specs.declared.event.Event.{Event}
use Rattle.pref_core.specs.declared.event.Reply.{Reply}
use Rattle.pref_core.specs.Step.{replies}
use Rattle.pref_share.specs.Openings.{Opening}
use Rattle.pref_share.specs.Runs.{IsJointRun}
use Rattle.pref_share.specs.Standing.{newcomers}

-- an event, and the reply to it
pub record Answered : Type 0 where
  pub event : Event
  pub reply : Reply

-- the events of a run, in order
abbrev pub events_of : List Answered → List Event
events_of run = map (λ answered. answered.event) run

-- the replies of a run
abbrev pub replies_of : List Answered → List Reply
replies_of run = map (λ answered. answered.reply) run

-- the acts of one client, in order
abbrev pub acts_of : ℕ → List Event → List Act
acts_of client events = map (λ event. event.act) (filter (λ event. event.client == client) events)

-- what one client did in a run, and the replies to it
abbrev pub part_of : ℕ → List Answered → List Answered
part_of client run = filter (λ answered. answered.event.client == client) run

-- The run has each act of each client once, in the client's order, with the reply that the client got, and nothing else. There is
-- a list of replies for each list of acts, and the first lists are those of client 1.
pub record IsInterleaving (acts : List (List Act)) (returned : List (List Reply)) (run : List Answered) : Type 0 where
  pub lists : length returned ≡ length acts
  pub acts_in_order : (place : ℕ) (list : List Act) → slice_get acts place ≡ Some list → acts_of (suc place) (events_of run) ≡ list
  pub replies_in_order : (place : ℕ) (list : List Reply) → slice_get returned place ≡ Some list → replies_of (part_of (suc place) run) ≡ list
  pub nobody_else : All (λ answered. (0 < answered.event.client) × (answered.event.client ≤ length acts)) run

-- There is an interleaving of the lists whose replies are those of the sequential table, from the opening on.
pub record IsSequential (o : Opening) (acts : List (List Act)) (returned : List (List Reply)) : Type 0 where
  pub run : List Answered
  pub interleaving : IsInterleaving acts returned run
  pub answers : replies o.limits o.rows (events_of run) ≡ replies_of run

-- A joint run of one act list for each client is one run of the sequential table, for some interleaving of the lists.
abbrev pub JointRunsAreSequential : Type 0
JointRunsAreSequential = (o : Opening) (acts : List (List Act)) (returned : List (List Reply)) → IsJointRun o (newcomers o.limits.clients) acts returned → IsSequential o acts returned
