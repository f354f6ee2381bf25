use Rattle.pref_term.proofs.Common.{arith}
use Rattle.pref_term.proofs.BuiltLemmas.{no_clause}
use Rattle.pref_term.proofs.ask.Ask.of_parts.Goals as goal

-- for an edit that must fail: an answer fails at once, a search twice at its limits
pub returns-then-not-is_clause : goal.returns-then-not-is_clause
returns-then-not-is_clause c = grind (arith, no_clause)
