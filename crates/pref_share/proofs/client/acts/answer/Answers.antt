use Rattle.pref_share.proofs.Common.{arith}
use Rattle.pref_share.proofs.ActSteps.{inserted, updated, deleted}
use Rattle.pref_share.proofs.ExitLaws.{exits}
use Rattle.pref_share.proofs.RefusalReplies.{change_refused}
use Rattle.pref_share.proofs.client.acts.answer.Goals as goal

pub returns-in_ok-insert-in-Insert-clause-answered : goal.returns-in_ok-insert-in-Insert-clause-answered
returns-in_ok-insert-in-Insert-clause-answered g c = grind (arith, inserted)

pub returns-in_err-insert-in-Insert-clause-refused : goal.returns-in_err-insert-in-Insert-clause-refused
returns-in_err-insert-in-Insert-clause-refused g c = grind (arith, exits, change_refused)

pub returns-in_ok-update-in-Update-clause-answered : goal.returns-in_ok-update-in-Update-clause-answered
returns-in_ok-update-in-Update-clause-answered g c = grind (arith, updated)

pub returns-in_err-update-in-Update-clause-refused : goal.returns-in_err-update-in-Update-clause-refused
returns-in_err-update-in-Update-clause-refused g c = grind (arith, exits, change_refused)

pub returns-in_ok-delete-in-Delete-clause-answered : goal.returns-in_ok-delete-in-Delete-clause-answered
returns-in_ok-delete-in-Delete-clause-answered g c = grind (arith, deleted)

pub returns-in_err-delete-in-Delete-clause-refused : goal.returns-in_err-delete-in-Delete-clause-refused
returns-in_err-delete-in-Delete-clause-refused g c = grind (arith, exits, change_refused)
