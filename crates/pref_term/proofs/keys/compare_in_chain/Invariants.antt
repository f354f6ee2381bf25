use Rattle.pref_term.proofs.Common.{◌≡◌, drop, by_chain}
use Rattle.pref_term.proofs.keys.compare_in_chain.Given as goal

-- the keys so far see no difference
abbrev pub invariant-loop-key : goal.invariant-loop-key
invariant-loop-key l = by_chain (drop l.key-index l.keys) l.a l.b ≡ by_chain l.keys l.a l.b
