-- What is reported of clients that ran acts on threads, and why a run is refused. (this project)
use Rattle.std.specs.Prelude.{◌≡◌, ℕ, ◌<◌, Bool, true, false, List, [], ◌∷◌, ◌++◌, length, map, Option, Some, None, ◌⊎◌}
use Rattle.pref_core.specs.declared.call.Op.{Op}
use Rattle.pref_core.specs.declared.event.Act.{Act}
use Rattle.pref_core.specs.declared.event.Reply.{Reply}
use Rattle.pref_core.specs.declared.fault.CoreFault.TheVariants.{OutOfMemory}
use Rattle.pref_share.specs.declared.fault.ShareFault.{ShareFault}
use Rattle.pref_share.specs.declared.fault.ShareFault.TheVariants.{Core, Held}
use Rattle.pref_share.specs.declared.run.Report.{Report}
use Rattle.pref_share.specs.Openings.{Opening, IsLegalFrom}
use Rattle.pref_share.specs.Standing.{Standing, newcomers}
use Rattle.pref_share.specs.Clients.{Sees}
use Rattle.pref_share.specs.Interleavings.{IsSequential}
use Rattle.pref_share.specs.Runs.{Each, IsJointRun, RunsTo, StandsWithin, StopsAt}

-- what is reported of a client: how it stands, the replies to the acts that it did, and why it stopped, where it did not do them all
pub record Reported : Type 0 where
  pub client : Standing
  pub replies : List Reply
  pub stopped : Option ShareFault

-- a report, as contracts see it
abbrev pub reported_in : {J : Type 0} → Report J → Reported
reported_in report = record { client = report.client; replies = report.replies.items; stopped = report.stopped }

-- the gate let the client in to its next act, unless it has none left or is held
abbrev pub WasLetIn : (Bool → Type 0) → List Act → ShareFault → Type 0
WasLetIn said rest (Held client) = Unit {0}
WasLetIn said rest fault = (rest ≡ []) ⊎ said true

-- the client did all its acts, or this is why it stopped, by what the gate said at that turn
abbrev pub Ends : (ℕ → Bool → Type 0) → Standing → List Act → Option ShareFault → Type 0
Ends said s rest None = rest ≡ []
Ends said s rest (Some fault) = StopsAt (λ client. said client false) s rest fault × WasLetIn (said s.number) rest fault

-- The client did the first of these acts with the replies of the report, and has seen no less since. The gate let it in to each of them, and
-- was asked at the turn of the next.
pub record Did (o : Opening) (says : ℕ → ℕ → Bool → Type 0) (s : Standing) (acts : List Act) (report : Reported) : Type 0 where
  pub done : List Act
  pub rest : List Act
  pub in_order : acts ≡ done ++ rest
  pub last : Standing
  pub runs : RunsTo o s done report.replies last
  pub since : Sees o last report.client
  pub let_in : (turn : ℕ) → turn < length done → says s.number turn true
  pub ends : Ends (λ client. says client (length done)) report.client rest report.stopped

-- What came of the acts of all clients, one list for each: there is one legal history of which all have seen a beginning.
pub record AreReports (o : Opening) (says : ℕ → ℕ → Bool → Type 0) (clients : List Standing) (acts : List (List Act)) (reports : List Reported) : Type 0 where
  pub history : List Op
  pub legal : IsLegalFrom o history
  pub each : Each (λ client list report. Did o says client list report × StandsWithin o history report.client) clients acts reports

-- the first fault of these, if there is one
abbrev pub first_fault : List (Option ShareFault) → Option ShareFault
first_fault [] = None
first_fault (None ∷ more) = first_fault more
first_fault (Some fault ∷ more) = Some fault

-- Why a run is refused, which gives no reports then: out of memory; or there are right reports, and this is why the first client stopped that did.
abbrev pub RefusesRun : Opening → (ℕ → ℕ → Bool → Type 0) → List Standing → List (List Act) → ShareFault → Type 0
RefusesRun o says clients acts fault = (fault ≡ Core OutOfMemory) ⊎ ((reports : List Reported) × AreReports o says clients acts reports × (first_fault (map (λ report. report.stopped) reports) ≡ Some fault))

-- What tasks took, whose acts these are, is a joint run, and so that of the sequential table for one interleaving.
pub record RanTasks {T : Type 0} (o : Opening) (took : T → T → List Reply → Type 0) (acts : List (List Act)) (tasks done : List T) : Type 0 where
  pub replies : List (List Reply)
  pub taken : Each took tasks done replies
  pub joint : IsJointRun o (newcomers o.limits.clients) acts replies
  pub sequential : IsSequential o acts replies
