use Rattle.pref_core.proofs.ChangeReplies.{plan_refuses}
use Rattle.pref_core.proofs.machine.Machine.plan.Goals as goal

pub returns-clause-refused : goal.returns-clause-refused
returns-clause-refused c = plan_refuses _ _ c.args.client c.args.call.now c.look_up.result c.self.view_is c.look_up.ensures.exact
