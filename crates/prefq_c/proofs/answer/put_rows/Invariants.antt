use Rattle.std.proofs.Common.{◌≡◌, ◌+◌, ◌*◌, ◌++◌, drop, take, length}
unfoldable use Rattle.prefq_c.specs.Numbers.{rows_numbers}
use Rattle.prefq_c.proofs.answer.put_rows.Given as goal

abbrev pub invariant-loop-ranked : goal.invariant-loop-ranked
invariant-loop-ranked l = (length l.numbers ≡ length l.fn.numbers) × (l.at ≡ l.ranked-index * (2 + l.width))
    × (take l.at l.numbers ++ rows_numbers l.width (drop l.ranked-index l.rows) ≡ rows_numbers l.width l.rows)
