-- The names that the proofs of this crate share, passed on from one place. Declares nothing.
pub use Rattle.std.proofs.Common.{◌&&◌, ◌*◌, ◌+◌, ◌++◌, ◌-◌, ◌<◌, ◌==◌, Bool, Err, IfErr, IfOk, List, MatchBool, MatchResult, None, Ok, Option, Result, Some, [], ◌^◌, ap, arith, cond, drop, false}
pub use Rattle.std.proofs.Common.{fold, get_or, inl, inr, is_some, length, map, nat_lt, refl, replicate, rules, set, subst, suc, sym, take, true, zero, ℕ, ◌∙◌, ◌∷◌, ◌≡◌, ◌≢◌, ◌≤◌, ◌⊎◌}
pub use Rattle.std.proofs.Common.{⊎_elim}
pub use Rattle.std.proofs.lemmas.Bool.{eq-eqb, eqb-true, ne_eqb}
pub use Rattle.std.proofs.lemmas.List.{append-nil, append_assoc, get_or-map, length-append, length-map, length-set, map-append}
pub use Rattle.std.proofs.lemmas.List.Elements.{All-from_recursion, All-nil, All-push, filter-append}
pub use Rattle.std.proofs.lemmas.Option.{get_or_from_slice_get, same_Some, slice_get_within}
pub use Rattle.std.specs.Global.{Vec}
pub use Rattle.std.specs.List.{All, AllByRecursion, filter, sum_by}
pub use Rattle.std.specs.Option.{option_map}
pub use Rattle.std.specs.Vec.Iter.{into_iter_items}
pub use Rattle.core.specs.Mem.{manually_drop_value}
pub use Rattle.logbook.specs.Pages.{Book, Cell, Moves, Nib, adds, cell, gives, keeps, may_write, no_nib}
pub use Rattle.pref_core.proofs.StabilityLaws.{seat-with_seat_other, seat-with_seat_same}
pub use Rattle.pref_core.proofs.SystemsLaws.{after_quiet, begun_after-change, client_there, members-changed, state_of-changed, state_of-counted}
pub use Rattle.pref_core.specs.History.{AreLegalOps, IsLegalCall, IsLegalHistory, numbered_of, state_after}
pub use Rattle.pref_core.specs.Operations.{IsLegal, PlansIn, applied, is_next, ran, same_number, slots_after}
pub use Rattle.pref_core.specs.Planned.{op_of}
pub use Rattle.pref_core.specs.Scans.{Answers, IsScanned, NextIsNew, begin, next_block}
pub use Rattle.pref_core.specs.Slots.{Contents, Shows, ShowsBegin, StandsFor}
pub use Rattle.pref_core.specs.State.{Client, Snapshot, State, added, after, begins_row, begun_after, begun_of, calls_of, committed, counted, ended, success_outcome, idle_clients, is_change, missing, needed}
pub use Rattle.pref_core.specs.State.{outcome, refusal, refusal_by_query, refusal_of, seat, with_seat}
pub use Rattle.pref_core.specs.Step.{Member, Open, Step, System, change, changed, client_of, counted_with, finish, one_less, opened, refused, replies, replies_from, scan, scanned_with, snapshot}
pub use Rattle.pref_core.specs.Step.{state_of, step, committed_of}
pub use Rattle.pref_core.specs.declared.call.Call.{Call}
pub use Rattle.pref_core.specs.declared.call.Call.TheVariants.{Abandon as CallAbandon, Begin as CallBegin, Commit as CallCommit, Delete as CallDelete, Finish as CallFinish, Insert as CallInsert}
pub use Rattle.pref_core.specs.declared.call.Call.TheVariants.{Update as CallUpdate}
pub use Rattle.pref_core.specs.declared.call.Op.{Op}
pub use Rattle.pref_core.specs.declared.call.Outcome.TheVariants.{Added, Done, Full, Full as NoRoom, NoSuchRow as NoRow}
pub use Rattle.pref_core.specs.declared.event.Act.{Act}
pub use Rattle.pref_core.specs.declared.event.Act.TheVariants.{Abandon, Begin, Commit, Delete, Finish, Get, Insert, Room, Scan, Scan as ScanAct, Update}
pub use Rattle.pref_core.specs.declared.event.Reply.{Reply}
pub use Rattle.pref_core.specs.declared.fault.CoreFault.{CoreFault}
pub use Rattle.pref_core.specs.declared.fault.CoreFault.TheVariants.{AllScanned, NoQuery, NoSuchRow, NoSuchRow as MissingRow, NotDone, OutOfMemory}
pub use Rattle.pref_share.specs.Clients.{Begins, Changes, Commits, Finishes, HasLeft, IsAnswer, Joins, RefusesCall, RefusesChange, RefusesFinish, Sees, asks_for_memory, own_refusal}
pub use Rattle.pref_share.specs.Book.{IsPageOf, count_by}
pub use Rattle.pref_share.specs.SeenHistory.{Asks, AsksOrNone, GivesNone, IsAppended, IsTurn, JoinsBehind, RefusesToJoin, Stands, outcome_or_refusal, snapshot_at}
pub use Rattle.pref_share.specs.Openings.{IsLegalFrom, LegalIsHistory, MayFollow, Opening, calls_at, contents_at, first_contents, first_state, history_of, state_at}
pub use Rattle.pref_share.specs.Reports.{Did, Ends, Reported, first_fault, reported_in}
pub use Rattle.pref_share.specs.Runs.{Adds, Each, IsJointRun, IsPart, IsStep, Looks, Performs, Runs, RunsTo, StandsWithin, StepsTo, StopsAt, call_of, member_of, nobody, none, open_of, step_by, then}
pub use Rattle.pref_share.specs.ClientReads.{RefusesGet, RefusesScan, Scanned, room_at, row_after}
pub use Rattle.pref_share.specs.TaskResults.{DidTask, report_of}
pub use Rattle.pref_share.specs.Standing.{Asking, Standing, newcomer, newcomers}
pub use Rattle.pref_share.specs.Views.{AreLetIn, Fits, HoldsHistory, Kept, Knows, Opens, Reads, Stays, stamped}
pub use Rattle.pref_share.specs.declared.fault.ShareFault.{ShareFault}
pub use Rattle.pref_share.specs.declared.fault.ShareFault.TheVariants.{Closed, Core, Held}
pub use Rattle.pref_share.specs.declared.published.Published.{Published}
pub use Rattle.pref_share.specs.declared.run.Worked.{Worked}
pub use Rattle.pref_share.specs.declared.task.Listed.{Listed}
pub use denote.Param.Send.{IsSend, sendable, view_send}
pub use mathlib.Core.List.{IsPrefix}
