use Rattle.pref_table.proofs.Common.{slice_split, is_comma}
use Rattle.pref_table.proofs.LinesFacts.{records-next_line}
use Rattle.pref_table.proofs.RowsFacts.{row_of-any}
use Rattle.pref_table.proofs.lines.next_row.Goals as goal

pub returns : goal.returns
returns c =
    let cut = c.cut_line.ensures in
    let line = c.cut_line.result.0.now in
    let after = c.cut_line.result.1.now in
    let row = c.in_ok-row.ensures in
    let fields = slice_split is_comma line in
    record {
      fields = fields;
      first = records-next_line c.args.text.now line after c.requires.ends c.in-len1-up.len_at_least cut.parts row.plain cut.ends;
      reads = λ number. row_of-any c.args.width 0 number fields c.in_ok-row.row row.row;
      ends = cut.ends;
    }
