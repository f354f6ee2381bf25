use Rattle.prefq_c.proofs.fault.core_refusal.Goals as goal

-- for an edit that must fail: an answer fails at once, a search twice at its limits
pub returns-in-NoSuchRow : goal.returns-in-NoSuchRow
returns-in-NoSuchRow c = rw c.in-NoSuchRow.is (rw c.numbered-in-NoSuchRow.ensures at c.of-in-NoSuchRow.ensures)
