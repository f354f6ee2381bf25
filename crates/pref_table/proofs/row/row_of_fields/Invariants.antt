use Rattle.pref_table.proofs.Common.{◌≡◌, ℕ, List, length, drop}
use Rattle.std.specs.Iterator.{AlwaysYields}
use Rattle.pref_table.proofs.RowsFacts.{AreRead}
use Rattle.pref_table.proofs.row.row_of_fields.Given as goal

abbrev pub invariant-loop-col : goal.invariant-loop-col
invariant-loop-col g l =
    (texts : List (List ℕ)) → AlwaysYields g.Fields.Iterator.next_gives (λ field. field.now) l.fn.fields texts → l.count ≡ length texts
    → AlwaysYields g.Fields.Iterator.next_gives (λ field. field.now) l.fields (drop l.col texts) × AreRead l.row texts l.col l.cells
