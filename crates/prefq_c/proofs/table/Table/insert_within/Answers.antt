use Rattle.std.proofs.Common.{arith, ◌≡◌, ◌≤◌, ◌<◌, ℕ, ℤ, List, Result, Ok, MatchResult, subst, sym}
use Rattle.prefq_c.specs.Acts.{InsertsEach, InsertsWithin, Refuses, insertable, width_of}
use Rattle.prefq_c.specs.Openings.{rows_in}
use Rattle.prefq_c.specs.declared.fault.Fault.{Fault}
use Rattle.prefq_c.specs.declared.table.Table.{Table}
use Rattle.prefq_c.proofs.table.Table.insert_within.Goals as goal

-- rows for all of which there is room are inserted
within : (before after : Table) (room result : Result ℕ Fault) (count width left : ℕ) (numbers : List ℤ) → 0 < count → width ≡ width_of before → room ≡ Ok left → count ≤ left → count ≤ 65536
    → InsertsEach (rows_in (width_of before) count numbers) before result after → InsertsWithin room count width numbers before result after
within before after room result count width left numbers some same told fits few inserts =
    let rows : insertable before room count width numbers ≡ Ok (rows_in (width_of before) count numbers) = grind (arith) in
    subst (λ made. MatchResult made (λ rows. InsertsEach rows before result after) (λ why. Refuses why before result after)) (sym rows) inserts

pub returns : goal.returns
returns c = within c.args.self.now _ _ _ _ _ c.in-Ok.left _ (omega arith) (omega (arith, c.width.ensures.value)) c.in-Ok.is (omega arith) (omega arith) c.insert_rows.ensures
