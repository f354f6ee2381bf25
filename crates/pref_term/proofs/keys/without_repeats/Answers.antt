use Rattle.pref_term.proofs.Common.{arith}
use Rattle.pref_term.proofs.ExtensionLaws.{one_new, one_repeated}
use Rattle.pref_term.proofs.keys.without_repeats.Goals as goal

pub loop-key-preserved-in-Continue-1 : goal.loop-key-preserved-in-Continue-1
loop-key-preserved-in-Continue-1 c = grind (arith, one_new, one_repeated)

pub loop-key-preserved-else-not-is_ranked : goal.loop-key-preserved-else-not-is_ranked
loop-key-preserved-else-not-is_ranked c = grind (arith, one_new, one_repeated)

pub loop-key-preserved : goal.loop-key-preserved
loop-key-preserved c = grind (arith, one_new, one_repeated)
