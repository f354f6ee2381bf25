use Rattle.pref_term.proofs.Common.{◌≡◌, ◌++◌, map, take}
use Rattle.pref_term.proofs.chain.each_behind.Given as goal

-- the chains so far stand behind the first
abbrev pub invariant-loop-chain : goal.invariant-loop-chain
invariant-loop-chain l = l.found.items ≡ map (λ other. l.first ++ other) (take l.chain-index l.chains)
