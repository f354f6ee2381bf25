use Rattle.pref_table.proofs.Common.{fields_of}
use Rattle.pref_table.proofs.NextFacts.{reads-narrow, reads-other}
use Rattle.pref_table.proofs.table.next_record.Goals.{in-Narrow+in-Ok, in_default}
use Rattle.pref_table.proofs.table.next_record.Goals as goal

pub returns-clause-next : goal.returns-clause-next
returns-clause-next c = elim c.match-next.branch [
  | in-Narrow+in-Ok w ↦
      let next = rw w.in-Narrow.is at c.next_in-next.ensures in
      rw (w.from-is, w.in-Narrow.is)
      (reads-narrow c.args.from.now.reader w.read_next.new.from.reader w.in-Ok._found (fields_of w.read_next.new.from.last) c.args.text.now w.in-Narrow.field-0.now c.requires w.in-Ok.ensures.found next)
  | in_default w ↦ rw w.from-is (reads-other c.args.from.now.reader c.args.text.now (fields_of c.args.from.now.last) c.next_in-next.result w.in_default.not-Narrow c.next_in-next.ensures)
]
