use Rattle.pref_term.proofs.Common.{Some, sym, ap, ◌∙◌}
use Rattle.pref_term.proofs.AskLemmas.{grouping_fails}
use Rattle.pref_term.proofs.read.ask.grouping.Goals as goal

pub returns-clause-err : goal.returns-clause-err
returns-clause-err c = grouping_fails _ c.in_ok-letters.letters.now _ _ _ _ c.in_ok-letters.ensures.ok (sym c.in-Some-By.ensures ∙ ap Some c.in-Some-By.field-0-is) c.group_columns.ensures.err
