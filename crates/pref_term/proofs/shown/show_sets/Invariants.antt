use Rattle.pref_term.proofs.Common.{◌≡◌, ◌++◌, drop, shown_after_commas, shown_set}
use Rattle.pref_term.proofs.shown.show_sets.Given as goal

-- the text so far, and the sets that are left
abbrev pub invariant-loop-set : goal.invariant-loop-set
invariant-loop-set l = l.text.items ++ shown_after_commas shown_set (drop l.set-index l.sets) ≡ l.fn.text.items ++ shown_after_commas shown_set l.sets
