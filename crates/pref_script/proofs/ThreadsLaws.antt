-- What a script prints whose clients run on threads.
use Rattle.pref_script.proofs.Common.{◌≡◌, ℕ, ◌+◌, ◌<◌, ◌≤◌, ◌^◌, arith, map, Bool, List, ◌++◌, length, refl, subst, Result, Ok, Err, IfErr, ◌⊎◌, inl, inr, ℤ, string_bytes, All, [], Limits}
use Rattle.pref_script.proofs.Common.{AllGiven, AreParts, HasReplied, acts_left, commands_of, ScriptFault, Sections, sections_of, script_of, script_with, share_fault, raw_lines, table_of}
use Rattle.pref_script.proofs.Common.{texts, Sink, Wrote, ClosesOrStops, HoldsNobody, PrintsOnThreads, always_open, opening_of, unowned_lines, RunFault, Part, Act, CoreFault}
use Rattle.pref_script.proofs.OutputLaws.{script-core-fault, script-ok}
use Rattle.pref_share.specs.Openings.{Opening}
use Rattle.pref_share.specs.Reports.{RanTasks}
use Rattle.pref_share.specs.Standing.{newcomers}
use Rattle.pref_share.specs.declared.fault.ShareFault.{ShareFault}
use Rattle.pref_share.proofs.InterleavingsLaws.{each_lengths}
use Rattle.pref_share.proofs.ReportsLaws.{first_stops}
use Rattle.pref_script.specs.ClientParts.{IsWhole}
use Rattle.pref_script.specs.declared.script.Sections.{Sections as Cut}
use Rattle.pref_script.proofs.PartLaws.{acts-listed, parts-shown, unowned-none}
use Rattle.pref_script.specs.Commands.{Command}
use Rattle.pref_script.specs.Threads.{acts_of_clients}
use Rattle.pref_core.specs.declared.fault.CoreFault.TheVariants as core
use Rattle.pref_share.specs.declared.fault.ShareFault.TheVariants as share
use Rattle.pref_script.specs.declared.fault.RunFault.TheVariants as fault

-- a fault of the script
pub prints-fault : (limits : Limits) (says : ℕ → ℕ → Bool → Type 0) (bytes : List ℕ) (why : RunFault) → ScriptFault why (script_of limits bytes) → PrintsOnThreads limits says bytes (Err why)
prints-fault limits says bytes why h = grind (arith)

-- of the refusals of the table out of memory alone stops clients
memory-alone : (o : Opening) (says : ℕ → ℕ → Bool → Type 0) (acts : List (List Act)) (why : CoreFault) → ClosesOrStops o says acts (share.Core why) → why ≡ core.OutOfMemory
memory-alone o says acts why (inl closed) = absurd (cc)
memory-alone o says acts why (inr (inl memory)) = cc
memory-alone o says acts why (inr (inr (reports, all, first))) =
    let (s, rest, turn, stops) = first_stops o says all.history (newcomers o.limits.clients) acts reports (share.Core why) all.each first in stops.0

-- a gate that is always open holds no client
open-holds-none : (o : Opening) (acts : List (List Act)) (client : ℕ) → ClosesOrStops o always_open acts (share.Held client) → ⊥
open-holds-none o acts client (inl closed) = absurd (cc)
open-holds-none o acts client (inr (inl memory)) = absurd (cc)
open-holds-none o acts client (inr (inr (reports, all, first))) =
    let (s, rest, turn, stops) = first_stops o always_open all.history (newcomers o.limits.clients) acts reports (share.Held client) all.each first in absurd (cc (stops.2))

-- so no run of a script behind it is refused for that
pub holds-nobody : (limits : Limits) (bytes : List ℕ) (sink : Sink) (returned : Result (List ℕ) RunFault) (result : Result (Unit {0}) RunFault) → PrintsOnThreads limits always_open bytes returned → Wrote sink returned result → IfErr result HoldsNobody
holds-nobody limits bytes sink returned (Err (fault.Threads (share.Held client))) prints wrote =
    let (script, is_script, stopped) = subst (PrintsOnThreads limits always_open bytes) wrote.0 prints in
    absurd (open-holds-none (opening_of limits script) (acts_of_clients limits.clients script.commands) client stopped)
holds-nobody limits bytes sink returned result prints wrote = tt

-- the sections of a script, as the code holds them
abbrev sections_in : Cut → Sections
sections_in cut = record { table = cut.table.now; commands = raw_lines cut.commands.now; first = cut.first }

-- the command lines of a script have fewer bytes than the script
pub commands-short : (bytes : List ℕ) (cut : Cut) → sections_of (raw_lines bytes) ≡ Ok (sections_in cut) → cut.first + length cut.commands.now ≤ length bytes + 3 → length bytes < 2 ^ 63 → length cut.commands.now < 2 ^ 63
commands-short bytes cut is few short = grind (arith)

-- A script of these sections and this table, whose clients have these parts.
module _ (limits : Limits) (says : ℕ → ℕ → Bool → Type 0) (bytes : List ℕ) (cut : Cut) (is : sections_of (raw_lines bytes) ≡ Ok (sections_in cut)) (names : List (List ℕ)) (read : List (List ℤ)) (gives : table_of cut.table.now ≡ Ok (names, read)) (parts : List Part) (count : length parts ≡ limits.clients)
    (are : AreParts names (raw_lines cut.commands.now) parts) where
  abbrev commands : List Command
  commands = commands_of names cut.first (raw_lines cut.commands.now)

  listed : acts_of_clients limits.clients commands ≡ map acts_left parts
  listed = acts-listed names cut.commands.now limits.clients cut.first parts count are

  -- the clients were stopped
  prints-stopped : (limits.capacity < length read → ⊥) → (why : ShareFault) → ClosesOrStops (record { limits = limits; rows = read }) says (acts_of_clients limits.clients commands) why → PrintsOnThreads limits says bytes (Err (share_fault why))
  prints-stopped room (share.Core core) stops = rw (memory-alone (record { limits = limits; rows = read }) says (acts_of_clients limits.clients commands) core stops) tt
  prints-stopped room why stops = grind (arith, script-ok limits bytes (sections_in cut) (names, read) is gives room)

  -- the board was not opened, or the clients were stopped
  pub prints-refused : (rows : List (List ℤ)) (why : ShareFault) → rows ≡ read
      → ((limits.capacity < length rows) × (why ≡ share.Core (core.Full (length rows)))) ⊎ ((limits.capacity < length rows → ⊥) × ClosesOrStops (record { limits = limits; rows = rows }) says (map acts_left parts) why)
      → PrintsOnThreads limits says bytes (Err (share_fault why))
  prints-refused rows why same (inl (many, full)) = grind (arith, script-core-fault limits bytes (sections_in cut) (names, read) (core.Full (length read)) is gives (λ _. refl))
  prints-refused rows why same (inr (room, stops)) = prints-stopped (rw same at room) why (rw (same, ← listed) at stops)

  -- no line belongs to nobody, where each was given to a part and all parts are whole
  pub prints-none : (o : Opening) (acts : List (List Act)) (done shown : List Part) → AllGiven limits.clients (raw_lines cut.commands.now) → RanTasks o HasReplied acts parts done → shown ≡ done → All IsWhole shown → unowned_lines (length shown) (length names) commands ≡ []
  prints-none o acts done shown given ran same whole =
      let sizes = each_lengths HasReplied parts done ran.replies ran.taken in
      rw same (unowned-none names cut.commands.now cut.first parts done ran.replies are ran.taken (rw (← count, ← sizes.0) at given) (rw same at whole))

  -- the output of a joint run
  pub prints-joint : (rows : List (List ℤ)) (done shown printed : List Part) (unowned text : List ℕ) → rows ≡ read → (limits.capacity < length rows → ⊥) → RanTasks (record { limits = limits; rows = rows }) HasReplied (map acts_left parts) parts done
      → unowned ≡ unowned_lines (length shown) (length names) commands → shown ≡ done → text ≡ unowned ++ texts (λ part. string_bytes part.text) printed → printed ≡ done → PrintsOnThreads limits says bytes (Ok text)
  prints-joint rows done shown printed unowned text same room ran first all wrote printed_all =
      let run = rw (same, ← listed) at ran in
      let sizes = each_lengths HasReplied parts done run.replies run.taken in (
        script_with (sections_in cut) (names, read),
        script-ok limits bytes (sections_in cut) (names, read) is gives (rw same at room),
        record { replies = run.replies; joint = run.joint; sequential = run.sequential; returned = grind (arith, wrote, printed_all, first, all, sizes, count, parts-shown names (raw_lines cut.commands.now) 1 parts done run.replies are run.taken) },
      )
