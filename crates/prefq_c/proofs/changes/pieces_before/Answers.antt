use Rattle.std.proofs.lemmas.List.{take_min}
use Rattle.prefq_c.proofs.changes.pieces_before.Goals as goal

-- for an edit that must fail: an answer fails at once, a search twice at its limits
pub returns : goal.returns
returns c = rw (c.min-count.ensures, take_min, c.saturating_sub.ensures)
