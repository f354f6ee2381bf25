use Rattle.pref_term.proofs.Common.{◌≡◌, ◌++◌, drop, shown_after_commas, shown_diff}
use Rattle.pref_term.proofs.shown.show_differing.Given as goal

-- the text so far, and the names that are left
abbrev pub invariant-loop-col : goal.invariant-loop-col
invariant-loop-col l = l.text.items ++ shown_after_commas (shown_diff l.schema) (drop l.col-index l.columns) ≡ l.fn.text.items ++ shown_after_commas (shown_diff l.schema) l.columns
