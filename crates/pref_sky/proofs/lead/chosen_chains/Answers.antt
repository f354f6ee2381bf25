use Rattle.pref_sky.proofs.Common.{arith, inr}
use Rattle.pref_sky.proofs.ChosenLaws.{say_the_same}
use Rattle.pref_sky.proofs.lead.chosen_chains.Goals as goal
use Rattle.std.proofs.lemmas.Grind.{common_steps}

pub loop-chain-preserved : goal.loop-chain-preserved
loop-chain-preserved c = grind (arith, common_steps)

pub returns-clause-same : goal.returns-clause-same
returns-clause-same c = inr (say_the_same c.args.entries.now _ c.args.chains.now _ c.loop-chain.chain-index c.loop-chain-test.false c.loop-chain.invariant.chosen)
