-- The names that the proofs of this crate share, passed on from one place. Declares nothing.
pub use Rattle.std.proofs.Common.{◌*◌, ◌+◌, ◌++◌, ◌-◌, ◌<◌, Bool, Bor, Err, Global, List, None, Ok, Option, Result, Some, Vec, [], ◌^◌, add-one, add-zero, ap, append_assoc, arith, below_more, drop}
pub use Rattle.std.proofs.Common.{false, get_or, inl, inr, length, map, negsuc, pos, refl, replicate, set, subst, suc, sym, take, true, unwrap_or, w64, zero, ℕ, ℤ, ◌∙◌, ◌∷◌, ◌≡◌, ◌≢◌, ◌≤◌, ◌⊎◌}
pub use Rattle.std.proofs.Math.ListN.{drop_of_length-le}
pub use Rattle.std.proofs.lemmas.Bool.{and_right, cond_both, eq-eqb, eqb-false, eqb-true, false≢true, le-leb, le-ltb, lt-ltb, ltb-false, ltb-true, ne_eqb}
pub use Rattle.std.proofs.lemmas.Int.{to_z-of_z}
pub use Rattle.std.proofs.lemmas.List.{append-nil, drop-drop, drop-replicate, drop-set-lt, drop_more, get_or-drop, get_or-map, get_or-take, get_or_append_left, get_or_default, length-append}
pub use Rattle.std.proofs.lemmas.List.{length-drop, length-map, length-set, length-take, length-take-le, map-append, take-append-drop, take-map, take_all, take_more, take_more_set}
pub use Rattle.std.proofs.lemmas.List.Splits.{length-slice_split, slice_split_first, slice_split_none}
pub use Rattle.std.proofs.lemmas.Option.{get_or_from_slice_get, slice_get-get_or}
pub use Rattle.std.proofs.lemmas.Result.{err_from_is_err_and}
pub use Rattle.std.specs.List.{list_any, onto_first, position, position_or_len, prefix_len, slice_split, suffix_len}
pub use Rattle.std.specs.Prelude.{◌&&◌, ◌==◌, IfSome, if◌then◌else◌, nat_lt, not, slice_get, ◌||◌}
pub use Rattle.std.specs.Str.{all_ascii_digits, bytes_eq}
pub use Rattle.std.specs.Str.Parse.{digits_value, digits_value_after, signed_digits_value, starts_with_minus, without_leading_sign}
pub use Rattle.csv.specs.Machine.{Read, after_end, ends_at_end, ends_with, field_after, fields_after, in_field, is_end, start_field, start_record, step}
pub use Rattle.csv.specs.Reading.{ExplainsRead, ReadRecord, Ready, default_config, error_kind, is_bom, is_flexible, records, source_of, stops_reader}
pub use Rattle.csv.specs.Records.{fields_of}
pub use Rattle.csv.specs.declared.parser.State.{State}
pub use Rattle.pref_table.specs.Lines.{IsCutAtLine, IsLineBefore, IsLineEnd, IsPlainLine, header_names, rows_with}
pub use Rattle.pref_table.specs.Number.{fits_cell, is_blank, is_numeral, signed_by, without_blanks}
pub use Rattle.pref_table.specs.Numbered.{◌>>=◌}
pub use Rattle.pref_table.specs.Plain.{ArePlain, IsPlain}
pub use Rattle.pref_table.specs.Records.{BytesReader, HasLeft, IsNarrow, IsNext, IsWide, ReadsFirst, ReadsNext, state_at}
pub use Rattle.pref_table.specs.Rows.{cell_in, cell_of, is_comma, numbers_row}
pub use Rattle.pref_table.specs.Tables.{Fails, numbered_row}
pub use Rattle.pref_table.specs.declared.fault.TableFault.{TableFault}
unfoldable pub use Rattle.csv.specs.Machine.{next_record}
unfoldable pub use Rattle.csv.specs.Reading.{Reached, records_from, strip_bom}
unfoldable pub use Rattle.csv.specs.Records.{field_at}
unfoldable pub use Rattle.pref_table.specs.Number.{number_of}
unfoldable pub use Rattle.pref_table.specs.Numbered.{all_from}
unfoldable pub use Rattle.pref_table.specs.Rows.{row_of}
unfoldable pub use Rattle.pref_table.specs.Tables.{table_of, table_of_records, without_marks}
