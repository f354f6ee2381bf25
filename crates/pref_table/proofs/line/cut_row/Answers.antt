use Rattle.pref_table.proofs.Common.{Option, List, slice_split, is_comma, length-slice_split, arith}
use Rattle.std.proofs.Common.{rules}
use borrow.Author.Tests.{tests}
use Rattle.std.proofs.lemmas.Iterator.{YieldsList}
use Rattle.std.proofs.lemmas.Iterator.Splits.{YieldsList-from_slice_split}
use Rattle.std.specs.Iterator.{AlwaysYields}
use Rattle.pref_table.proofs.line.cut_row.Goals as goal

runs : {S A B : Type 0} {steps : S → Option A → S → Type 0} {v : A → B} {s : S} {ys : List B} → YieldsList steps v s ys → AlwaysYields steps v s ys
runs yields = yields.runs

pub returns : goal.returns
returns c =
    let split = c.split-fields.ensures in
    c.row_of_fields.ensures (slice_split is_comma c.args.line.now)
    (runs (YieldsList-from_slice_split _ is_comma c.args.line.now split.rest split.done split.closure (λ x b q k. search (rules, tests))))
    (omega (arith, length-slice_split is_comma c.args.line.now))
