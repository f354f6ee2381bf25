use Rattle.pref_sky.proofs.Common.{◌++◌, arith, length-append}
use Rattle.pref_sky.specs.NumberedRows.{numbered}
use Rattle.pref_sky.proofs.NumberedLaws.{all_differ, numbered_before}
use Rattle.pref_sky.proofs.best_of.BestOf.add.Goals as goal

pub invariant_of-self-2 : goal.invariant_of-self-2
invariant_of-self-2 c =
    let before = c.self.invariant.0 in
    let rows = c.args.rows.now in
    (before ++ rows, grind (arith, c.self.invariant.1, c.in_ok-add.ensures.ok (numbered before), all_differ before rows, numbered_before before rows, length-append before rows))
