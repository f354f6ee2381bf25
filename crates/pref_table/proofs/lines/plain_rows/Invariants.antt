use Rattle.pref_table.proofs.Common.{◌≡◌, length, [], default_config, records, IsLineEnd, rows_with}
use Rattle.pref_table.proofs.lines.plain_rows.Given as goal

abbrev pub invariant-loop : goal.invariant-loop
invariant-loop l = record {
  count : length l.rows.items ≡ l.counter;
  so_far : rows_with l.width [] (records default_config l.text) ≡ rows_with l.width l.rows.items (records default_config l.left);
  ends : IsLineEnd l.left;
}
