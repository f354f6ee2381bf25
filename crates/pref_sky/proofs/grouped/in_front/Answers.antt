use Rattle.pref_sky.proofs.Common.{arith, nat_tests}
use Rattle.pref_sky.proofs.GroupedLaws.{first_counted, next_counted}
use Rattle.pref_sky.proofs.grouped.in_front.Goals as goal

pub returns-then-at-eq0-clause-counted : goal.returns-then-at-eq0-clause-counted
returns-then-at-eq0-clause-counted c ordered last = grind (arith, first_counted c.args.columns.now c.args.placed.now ordered)

pub returns-then-not-in_same_group-clause-counted : goal.returns-then-not-in_same_group-clause-counted
returns-then-not-in_same_group-clause-counted c ordered last =
    next_counted c.args.columns.now c.args.placed.now ordered c.args.at c.index-placed-at.result c.index-placed-at-2.result (omega arith) (omega arith) c.index-placed-at.is c.index-placed-at-2.is c.args.last (record { group = c.args.at; level = c.args.at }) (last (omega arith))
    (grind (arith, c.in_same_group.ensures)) (grind (arith, nat_tests, c.in_same_group.ensures))

pub returns-then-before-entry-clause-counted : goal.returns-then-before-entry-clause-counted
returns-then-before-entry-clause-counted c ordered last =
    next_counted c.args.columns.now c.args.placed.now ordered c.args.at c.index-placed-at.result c.index-placed-at-2.result (omega arith) (omega arith) c.index-placed-at.is c.index-placed-at-2.is c.args.last (record { group = c.args.last.group; level = c.args.at }) (last (omega arith))
    (grind (arith, c.in_same_group.ensures)) (grind (arith, nat_tests, c.in_same_group.ensures))

pub returns-clause-counted : goal.returns-clause-counted
returns-clause-counted c ordered last =
    next_counted c.args.columns.now c.args.placed.now ordered c.args.at c.index-placed-at.result c.index-placed-at-2.result (omega arith) (omega arith) c.index-placed-at.is c.index-placed-at-2.is c.args.last c.args.last (last (omega arith))
    (grind (arith, c.in_same_group.ensures)) (grind (arith, nat_tests, c.in_same_group.ensures))
