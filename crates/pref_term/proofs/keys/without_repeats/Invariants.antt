use Rattle.pref_term.specs.Extension.{IsShortened}
use Rattle.pref_term.proofs.keys.without_repeats.Given as goal

-- what is left of the keys so far
abbrev pub invariant-loop-key : goal.invariant-loop-key
invariant-loop-key l = IsShortened l.yielded l.kept.items
