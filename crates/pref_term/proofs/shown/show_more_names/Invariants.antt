use Rattle.pref_term.proofs.Common.{◌≡◌, ◌++◌, drop, name_at, shown_after_commas}
use Rattle.pref_term.proofs.shown.show_more_names.Given as goal

-- the text so far, and the names that are left
abbrev pub invariant-loop-col : goal.invariant-loop-col
invariant-loop-col l = l.text.items ++ shown_after_commas (name_at l.schema) (drop l.col-index l.columns) ≡ l.fn.text.items ++ shown_after_commas (name_at l.schema) l.columns
