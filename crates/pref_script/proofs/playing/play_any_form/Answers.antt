use Rattle.pref_script.proofs.PlayLaws.{plays_refused}
use Rattle.pref_script.proofs.playing.play_any_form.Goals as goal

pub returns-in_ok-push_refused-in-Err-Refused : goal.returns-in_ok-push_refused-in-Err-Refused
returns-in_ok-push_refused-in-Err-Refused c =
    rw (rw c.in-Err-Refused.field-0-is at c.in-Err-Refused.ensures)
    (plays_refused _ c.args.machine.now c.args.number c.in-Err-Refused.why _ _ (rw c.in-Err-Refused.why-is at c.in_ok-push_refused-in-Err-Refused.ensures))
