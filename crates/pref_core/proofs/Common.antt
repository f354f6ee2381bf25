-- The names that the proofs of this crate share, passed on from one place. Declares nothing.
pub use Rattle.std.proofs.Common.{◌%◌, ◌&&◌, ◌*◌, ◌+◌, ◌++◌, ◌-◌, ◌/◌, ◌<◌, ◌==◌, Bool, Bor, Err, IfErr, IfNone, IfSome, List, MatchResult, None, Ok, OnOk, Option, Result, Some, [], ◌^◌, add-one, ap}
pub use Rattle.std.proofs.Common.{append_assoc, ap₂, arith, cond, drop, eqb, false, filter, get_or, inl, inr, is_err, is_some, length, map, nat_eq, nat_le, nat_lt, not, pos, refl, replicate, rules}
pub use Rattle.std.proofs.Common.{set, slice_get, slice_index, slice_set, subst, suc, swap, sym, take, true, unwrap_or, zero, ◌||◌, ℕ, ◌∙◌, ◌∷◌, ◌≡◌, ◌≢◌, ◌≤◌, ◌⊎◌, ⊎_elim}
pub use Rattle.std.proofs.Math.Seq.{drop-cons, map-set_same, take-append_seam}
pub use Rattle.std.proofs.lemmas.Bool.{and_from, and_left, and_parts, and_right, cases_eq, cases_lt, eq-eqb, eqb-false, eqb-true, false_from_ne_true, le-leb, le-ltb, leb-true, lt-leb, lt-ltb}
pub use Rattle.std.proofs.lemmas.Bool.{ltb-false, ltb-true, ne_eqb, not-false, not-true, or_cases, or_from, or_left, or_parts, or_right, true≢false}
pub use Rattle.std.proofs.lemmas.Grind.{common_steps, get_or_default_zero}
pub use Rattle.std.proofs.lemmas.List.{append-nil, drop-map, drop-replicate, drop_all, get_or-append-add, get_or-map, get_or-replicate, get_or-set_other, get_or-set_same, length-append, length-map}
pub use Rattle.std.proofs.lemmas.List.{length-replicate, length-set, length-take-le, length_push, map-append, map-set, same_lists, set-set, take-append-drop, take-map, take_all, take_more}
pub use Rattle.std.proofs.lemmas.List.{with_items_is}
pub use Rattle.std.proofs.lemmas.List.Elements.{All-from_recursion, All-head, filter-append, filter_map-append}
pub use Rattle.std.proofs.lemmas.List.Folds.{list_any-append, sum_by-replicate}
pub use Rattle.std.proofs.lemmas.List.FromFn.{get_or-map-range_with_len, length-map-range_with_len, map-range_with_len_more}
pub use Rattle.std.proofs.lemmas.List.Sorted.{All-permutation, IsPermutation-cons, IsPermutation-keeps, IsPermutation-map, IsPermutation-middle, IsPermutation-refl, IsPermutation-sym}
pub use Rattle.std.proofs.lemmas.List.Sorted.{IsPermutation-trans, length_permutation, list_any-IsPermutation, sum_by-IsPermutation}
pub use Rattle.std.proofs.lemmas.List.Sums.{count_by-le-length, length-filter, sum_by-append, sum_by-cons, sum_by-le, sum_by-set}
pub use Rattle.std.proofs.lemmas.Option.{get_or_from_slice_get, none-some, same_Some, slice_get-get_or, slice_get-map, slice_get_past, slice_get_read, slice_get_within}
pub use Rattle.std.specs.List.{AllByRecursion, AllZip, cons_option, count_by, filter_map, find, list_any, range_with_len, sum_by}
pub use Rattle.std.specs.List.Sorted.{IsPermutation}
pub use Rattle.std.specs.Option.{option_map, option_to_list}
pub use Rattle.std.specs.Vec.{vec_capacity, vec_len, with_items}
pub use Rattle.pref_core.specs.Bounds.{IsBounded}
pub use Rattle.pref_core.specs.Changes.{added_by, begins_any, begun_by, commit_of, ended_by, is_change_count, is_commit, names_again, twice, twice_from}
pub use Rattle.pref_core.specs.ContentsInvariant.{AreFresh, FindsFreed, FitAtOnce, FitsNext, IsFreed, IsKept, IsTracked, KeepSlots, are_free, frees_at, is_open, replaced, row_in, uses_of}
pub use Rattle.pref_core.specs.ContentsInvariant.{with_slots}
pub use Rattle.pref_core.specs.IdChains.{AreIds, AreLinked, AreLinks, AreOpening, IsBefore, IsNode, IsOnWay, LeadsTo, home_of, id_at, ids_of, is_above, opening_link, rank, shown}
pub use Rattle.pref_core.specs.Indexes.{IsIndexOf, IsPlaceOf, Points, PointsAll, adds, given, is_row, placed_rows, row_at, slot_of}
pub use Rattle.pref_core.specs.Laws.{BlocksAreTheSlots, EndsNeedNoMore, NeededFits, NeededFitsSlots, first_blocks}
pub use Rattle.pref_core.specs.LentCalls.{change_of}
pub use Rattle.pref_core.specs.Limits.{AreAllowed, Limits, blocks}
pub use Rattle.pref_core.specs.MachineParts.{AddedReply, AddsReply, AnswersAt, IsInOrder, NextIsNewAt, ScansAt, ScansOne, Queries, abandons, begins as begins_query, call_of_act, called, change_of_act, finishes, is_begin, outcome_of, reply_for}
pub use Rattle.pref_core.specs.MachineParts.{reply_of, step_of}
pub use Rattle.pref_core.specs.Operations.{AppliesIn, IsLegal, IsNext, IsPlan, Plans, PlansIn, applied, begin_after, callers_after, close, close_at, filled, grown, is_free, is_next, outcome_at}
pub use Rattle.pref_core.specs.Operations.{placed, ran, refusal_at, same_number, same_outcome, slots_after, stepped, used}
pub use Rattle.pref_core.specs.Planned.{op_of, op_or_fault}
pub use Rattle.pref_core.specs.Rows.{Row}
pub use Rattle.pref_core.specs.Scans.{IsScanned, NextIsNew, Scan, Scans, begin, levels_for, next_block}
pub use Rattle.pref_core.specs.SlotSets.{IsArranged, IsInverse, MayBecome, free_at, is_free_use, is_kept_by, is_spare, kept_from, moved_order, moved_positions, number_at, number_of, numbered, rotated}
pub use Rattle.pref_core.specs.SlotSets.{use_at, use_of}
pub use Rattle.pref_core.specs.StampedSlots.{StampedSlots}
pub use Rattle.pref_core.specs.Slots.{AreDifferent, Contents, EndsBy, IsWithin, Shows, ShowsBegin, StandsFor, StandsForClient, begins, block_of, caller_begun, caller_calls, is_needed, is_visible}
pub use Rattle.pref_core.specs.Slots.{line, new_version, opening_contents, opening_slots, seen, slot_key, stamps, visible}
pub use Rattle.pref_core.specs.Stability.{IsStable, ends_query, is_end}
pub use Rattle.pref_core.specs.State.{Client, Snapshot, State, added, after, begins_row, begun, begun_after, begun_of, calls_of, changes_of, committed, counted, ended, found_tables, idle_clients}
pub use Rattle.pref_core.specs.State.{is_change, is_formed, missing, needed, needed_after, opening, opening_table, outcome, refusal, refusal_by_query, refusal_of, seat, succeeds, success_outcome}
pub use Rattle.pref_core.specs.State.{with_seat}
pub use Rattle.pref_core.specs.Step.{Member, Open, Step, System, change, changed, client_of, committed_of, counted_with, finish, one_less, opened, refused, replies, replies_from, scan, scanned_with}
pub use Rattle.pref_core.specs.Step.{snapshot, state_of, step}
pub use Rattle.pref_core.specs.Systems.{Does, Follows, Replies, Returns, Running, StandsForMember, StandsForQuery, StandsForSystem, Steps, as_reply, is_refusal, may_want_memory, without_event}
pub use Rattle.pref_core.specs.Table.{IsOrdered, Key, Line, among, different, entries, has, holds_key, keys, line_of, put, same_key, with_rows, without}
pub use Rattle.pref_core.specs.declared.call.Call.{Call}
pub use Rattle.pref_core.specs.declared.call.Call.TheVariants.{Abandon, Begin, Commit, Commit as CallCommit, Delete, Delete as CallDelete, Finish, Insert, Insert as CallInsert, Update}
pub use Rattle.pref_core.specs.declared.call.Call.TheVariants.{Update as CallUpdate}
pub use Rattle.pref_core.specs.declared.call.Op.{Op}
pub use Rattle.pref_core.specs.declared.call.Outcome.{Outcome}
pub use Rattle.pref_core.specs.declared.call.Outcome.TheVariants.{Added, Done, Full, NoSuchRow}
pub use Rattle.pref_core.specs.declared.changes.Change.{Change}
pub use Rattle.pref_core.specs.declared.changes.Change.TheVariants.{Add, Remove, Set}
pub use Rattle.pref_core.specs.declared.event.Act.{Act}
pub use Rattle.pref_core.specs.declared.event.Act.TheVariants.{Abandon as ActAbandon, Begin as ActBegin, Commit as ActCommit, Delete as ActDelete, Finish as ActFinish, Get, Get as ActGet}
pub use Rattle.pref_core.specs.declared.event.Act.TheVariants.{Insert as ActInsert, Room as ActRoom, Scan as ActScan, Update as ActUpdate}
pub use Rattle.pref_core.specs.declared.event.Event.{Event}
pub use Rattle.pref_core.specs.declared.event.Reply.{Reply}
pub use Rattle.pref_core.specs.declared.event.Reply.TheVariants.{Abandoned, Answer, Begun, Committed, Deleted, Found, Inserted, Left, Refused, Room, Room as RoomIs, Updated}
pub use Rattle.pref_core.specs.declared.fault.CoreFault.{CoreFault}
pub use Rattle.pref_core.specs.declared.fault.CoreFault.TheVariants.{AllScanned, ChangeCount, NoQuery, NoSuchClient, NoSuchRow as MissingRow, NotDone, OutOfMemory, QueryOpen, Spent, Twice}
pub use Rattle.pref_core.specs.declared.store.Store.TheInside.{Inside}
pub use Rattle.pref_core.specs.declared.store.caller.Caller.{Caller}
pub use Rattle.pref_core.specs.declared.store.slot_sets.SlotUse.{SlotUse}
pub use Rattle.pref_core.specs.declared.store.slot_sets.SlotUse.TheVariants.{Ended, Free, Live}
pub use Rattle.pref_core.specs.declared.store.version.Version.{Version}
pub use Rattle.pref_sky.specs.Answers.{answer_of}
pub use Rattle.pref_sky.specs.declared.entry.Entry.{Entry}
pub use Rattle.pref_sky.specs.declared.entry.Ranked.{Ranked}
pub use Rattle.pref_term.specs.Question.{Question, cut_of}
pub use lib.Seq.{get_or-append_right, set-get_or, take-add}
