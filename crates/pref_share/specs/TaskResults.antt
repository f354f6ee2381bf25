-- No public contract cites this.
-- What the parts of a run know of its tasks and its reports.
use Rattle.std.specs.Prelude.{ℕ, Bool, List, map}
use Rattle.std.specs.List.{zip}
use Rattle.pref_core.specs.declared.call.Op.{Op}
use Rattle.pref_core.specs.declared.event.Act.{Act}
use Rattle.pref_core.specs.declared.event.Reply.{Reply}
use Rattle.pref_share.specs.declared.run.Job.{Job}
use Rattle.pref_share.specs.declared.run.Report.{Report}
use Rattle.pref_share.specs.declared.run.Worked.{Worked}
use Rattle.pref_share.specs.declared.task.Listed.{Listed}
use Rattle.pref_share.specs.Openings.{Opening, IsLegalFrom}
use Rattle.pref_share.specs.Reports.{Did}
use Rattle.pref_share.specs.Runs.{Each, StandsWithin}
use Rattle.pref_share.specs.Standing.{Standing}

-- each client with its task
abbrev pub jobs_of : {J T : Type 0} → List Standing → List T → List (Job J T)
jobs_of clients tasks = map (λ pair. record { client = pair.0; task = pair.1 }) (zip clients tasks)

-- the client did the first of these acts, and its task took the replies
abbrev pub DidTask : {J T : Type 0} → Opening → (ℕ → ℕ → Bool → Type 0) → (T → List Reply → Type 0) → Standing → List Act → Worked J T → Type 0
DidTask o says took s acts worked = (replies : List Reply) × took worked.task replies × Did o says s acts (record { client = worked.client; replies = replies; stopped = worked.stopped })

-- What came of all tasks, one for each client: there is one legal history of which all have seen a beginning.
pub record AreWorked {J T : Type 0} (o : Opening) (says : ℕ → ℕ → Bool → Type 0) (left : T → List Act) (took : T → T → List Reply → Type 0) (clients : List Standing) (tasks : List T) (all : List (Worked J T)) : Type 0 where
  pub history : List Op
  pub legal : IsLegalFrom o history
  pub each : Each (λ client task worked. DidTask o says (took task) client (left task) worked × StandsWithin o history worked.client) clients tasks all

-- what came of a list of acts, as a report
abbrev pub report_of : {J : Type 0} → Worked J Listed → Report J
report_of worked = record { client = worked.client; replies = worked.task.replies; stopped = worked.stopped }
