-- The names that the proofs of this crate share, passed on from one place. Declares nothing.
pub use Rattle.std.proofs.Common.{◌*◌, ◌+◌, ◌++◌, ◌-◌, ◌<◌, Bool, Err, List, None, Ok, Option, Result, Some, [], ◌^◌, add-zero, ap, append_assoc, arith, cond, drop, false, get_or, inl, inr, length}
pub use Rattle.std.proofs.Common.{map, nat_lt, option_map, pos, refl, rules, set, string_bytes, subst, suc, sym, take, true, vec_len, zero, ℕ, ℤ, ◌∙◌, ◌∷◌, ◌≡◌, ◌≢◌, ◌≤◌, ◌⊎◌}
pub use Rattle.std.proofs.KnownBytes.{Appends-kept, Appends-trans, Consumes-nil, Consumes-trans, Consumes-whole}
pub use Rattle.std.proofs.Math.Seq.{get_or-append_seam, take-add, take-append-add}
pub use Rattle.std.proofs.lemmas.Bool.{and_left, and_right, cases_lt, eq-eqb, eqb-false, eqb-true, le-leb, le-ltb, lt-leb, ne_eqb, true≢false}
pub use Rattle.std.proofs.lemmas.List.{append-nil, drop-append-le, drop-drop, drop_all, drop_more, get_or-drop, get_or-take, get_or_append_left, get_or_default, length-append, length-drop}
pub use Rattle.std.proofs.lemmas.List.{length-set, length-take, length-take-le, length_push, map-append, take-append-drop, take-append-le, take_all, take_at, take_more, take_more_set, take_rest}
pub use Rattle.std.proofs.lemmas.List.Sums.{fails_before_first, passes_at_first, position_or_len_is, prefix_len_is}
pub use Rattle.std.proofs.lemmas.Result.{IfOk-equal, IfOk-weaker, on_ok_weaker}
pub use Rattle.std.specs.Char.{is_ascii_digit}
pub use Rattle.std.specs.Fmt.{signed_decimal}
pub use Rattle.std.specs.Global.{Global}
pub use Rattle.std.specs.Io.KnownBytes.{Appends, Consumes, IsAtEnd, Keeps}
pub use Rattle.std.specs.List.{All, after_first, before_first, concat, join_with_byte, list_all, list_any, position_or_len, prefix_len, range_with_len, slice_split}
pub use Rattle.std.specs.Prelude.{◌&&◌, ◌==◌, IfErr, IfOk, IfSome, IsOk, OnOk, String, codes, if◌then◌else◌, is_some, nat_le, not}
pub use Rattle.std.specs.Str.{all_ascii_digits, bytes_eq}
pub use Rattle.std.specs.Str.Parse.{digits_value}
pub use Rattle.memchr.specs.Find.{IsFirstByte, Nowhere, Passes, is_byte}
pub use Rattle.pref_core.specs.Limits.{Limits}
pub use Rattle.pref_core.specs.Step.{System, opened, replies}
pub use Rattle.pref_core.specs.declared.event.Act.{Act}
pub use Rattle.pref_core.specs.declared.event.Event.{Event}
pub use Rattle.pref_core.specs.declared.fault.CoreFault.{CoreFault}
pub use Rattle.pref_script.proofs.ExitLaws.{exits}
pub use Rattle.pref_script.specs.ClientParts.{AcceptsLeft, AllAccepted, AllGiven, AreParts, ArePartsUpTo, HasReplied, IsAccepted, IsGiven, IsPart, PartsFrom, acts_in, acts_left}
pub use Rattle.pref_script.specs.Commands.{Command, commands_in, event_of, of_changes, piece_change, refused, runs}
pub use Rattle.pref_script.specs.Forms.{said_by_client}
pub use Rattle.pref_script.specs.HeardScript.{HeardScript, Hears, HearsNone, IsBlock, LacksBlock, OpensLive, ReadsBlock}
pub use Rattle.pref_script.specs.Live.{EndsWithLine, HeardNone, IsHeard, IsTooLong, NoneLeft, RanLive, ShowsFault, StopsEarly, StopsInLine, PrintsNext, Turns}
pub use Rattle.pref_script.specs.LiveTable.{IsOpened, OpeningFault, PrintsLine, names_of, next_number, running_of}
pub use Rattle.pref_script.specs.Output.{Script, ScriptFault, PrintsOutput, in_bytes, output, output_of, script_with}
pub use Rattle.pref_script.specs.Pieces.{are_changes, is_semicolon, pieces_of}
pub use Rattle.pref_script.specs.ReadAhead.{IsLineAt, IsLittle, IsLong, IsWhole, LineFault, NoLineFeed, ReadBehind, ReadOnce, ReadSome, between, is_at_end, unread}
pub use Rattle.pref_script.specs.Reading.{IsDigitsWord, Reads, core_fault, first_refusal, pieces_left, share_fault, table_fault}
pub use Rattle.pref_script.specs.Run.{NothingWritten, Sink, Source, Wrote, WroteAll, WroteBeginning, sink_of, source_of}
pub use Rattle.pref_script.specs.Script.{Sections, block_lines, is_end_line, is_line_feed, is_table_line, sections_of, without_line_end}
pub use Rattle.pref_script.specs.Text.{level_line, level_lines, refused_line, reply_lines, row_text}
pub use Rattle.pref_script.specs.Threads.{ClosesOrStops, HoldsNobody, PrintsOnThreads, always_open, is_client, opening_of, unowned_lines}
pub use Rattle.pref_script.specs.declared.command.Refusal.{Refusal}
pub use Rattle.pref_script.specs.declared.fault.RunFault.{RunFault}
pub use Rattle.pref_script.specs.declared.live_table.LiveTable.{LiveTable}
pub use Rattle.pref_script.specs.declared.parts.Part.{Part}
pub use Rattle.pref_script.specs.declared.read_ahead.ReadAhead.{ReadAhead}
pub use Rattle.pref_table.proofs.NumberFacts.{digits_next, is_numeral-some}
pub use Rattle.pref_table.specs.Number.{after_blanks, is_blank, is_numeral}
pub use Rattle.pref_table.specs.Tables.{Fails, Table}
unfoldable pub use Rattle.pref_script.specs.Commands.{accepted_events, act_of, change_of, commands_of, commit_said}
unfoldable pub use Rattle.pref_script.specs.Forms.{client_named, said_by, said_in, verb_of}
unfoldable pub use Rattle.pref_script.specs.Output.{command_lines, script_of}
unfoldable pub use Rattle.pref_script.specs.Pieces.{change_said_by, change_verb_of, piece_said}
unfoldable pub use Rattle.pref_script.specs.Script.{raw_lines}
unfoldable pub use Rattle.pref_script.specs.Text.{texts}
unfoldable pub use Rattle.pref_script.specs.Threads.{clients_lines}
unfoldable pub use Rattle.pref_script.specs.Words.{after_word, word_number, word_of}
unfoldable pub use Rattle.std.specs.Fmt.{digits}
unfoldable pub use Rattle.pref_table.specs.Number.{number_of}
unfoldable pub use Rattle.pref_table.specs.Numbered.{all_from}
unfoldable pub use Rattle.pref_table.specs.Tables.{table_of, table_of_records, without_marks}
