use Rattle.pref_table.proofs.LinesFacts.{line-cut}
use Rattle.pref_table.proofs.lines.cut_line.Goals as goal

pub returns : goal.returns
returns c =
    let text = c.args.text.now in
    let line = rw c.split_at.ensures.front at c.without_return.ensures in
    rw c.split_at.ensures.back (line-cut text c.without_return.result.now c.memchr.result c.unwrap_or-size.result c.memchr.ensures c.unwrap_or-size.ensures line)
