use Rattle.pref_table.proofs.Common.{◌∙◌, ◌+◌, ◌∷◌, [], length, ap, sym, arith, length-append, default_config, records, rows_with}
use Rattle.pref_table.proofs.TablesFacts.{numbered_row-few, rows_with-more}
use Rattle.pref_table.proofs.lines.plain_rows.Goals as goal

pub loop-preserved : goal.loop-preserved
loop-preserved c =
    let kept = c.loop.invariant in
    let rows = c.loop.rows.items in
    let row = c.in-Some.read.row in
    let read = c.in-Some.ensures in
    let left = records default_config c.in-Some.read.left.now in
    let next = rows_with-more c.args.width rows (records default_config c.loop.left.now) left read.fields row read.first
    (numbered_row-few c.args.width (1 + length rows) read.fields (omega (arith, kept.count)) ∙ read.reads (1 + length rows)) in
    let items = c.in_ok-push.ensures.items in
    record {
      count = ap length items ∙ length-append rows (row ∷ []) ∙ ap (λ n. n + 1) kept.count;
      so_far = kept.so_far ∙ next ∙ ap (λ t. rows_with c.args.width t left) (sym items);
      ends = read.ends;
    }
