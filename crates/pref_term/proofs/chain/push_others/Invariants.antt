use Rattle.pref_term.specs.LeadingChains.{AreBoth}
use Rattle.pref_term.proofs.chain.push_others.Given as goal

-- the others so far stand behind them
abbrev pub invariant-loop-other : goal.invariant-loop-other
invariant-loop-other l = AreBoth l.fn.chains.items l.yielded l.chains.items
