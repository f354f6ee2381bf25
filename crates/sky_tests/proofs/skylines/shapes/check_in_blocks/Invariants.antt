use Rattle.std.proofs.Common.{◌≡◌, ◌++◌, List, length}
use Rattle.pref_sky.specs.Levels.{entry_order, levels}
use Rattle.pref_sky.specs.declared.entry.Entry.{Entry}
use Rattle.sky_tests.proofs.skylines.shapes.check_in_blocks.Given as goal

-- what is held are the levels of those that came
abbrev pub invariant-each_block : goal.invariant-each_block
invariant-each_block g l = (done : List Entry) × (l.fn.entries ≡ done ++ l.rest) × (l.partial ≡ levels (entry_order (g.D.Dominance.order l.order.0.now)) done l.order.1)

abbrev pub decreases-each_block : goal.decreases-each_block
decreases-each_block g l = length l.rest
