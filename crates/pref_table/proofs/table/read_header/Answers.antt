use Rattle.pref_table.proofs.Common.{arith, map, length-map, without_blanks}
use Rattle.pref_table.proofs.NamesFacts.{schema_of-many}
use Rattle.pref_table.proofs.table.read_header.Goals as goal

pub returns-in-Wide-clause-names : goal.returns-in-Wide-clause-names
returns-in-Wide-clause-names c =
    let (fields, more, some, many) = rw c.in-Wide.is at c.in_ok-next_record.ensures.next in
    rw some (schema_of-many (map without_blanks fields) (omega (arith, many, length-map fields without_blanks)))
