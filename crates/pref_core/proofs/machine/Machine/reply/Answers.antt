use Rattle.pref_core.proofs.RepliesLaws.{steps_replies}
use Rattle.pref_core.proofs.machine.Machine.reply.Goals as goal

pub returns : goal.returns
returns c = steps_replies _ _ c.args.event _ _ c.step.ensures c.reply_of.ensures
