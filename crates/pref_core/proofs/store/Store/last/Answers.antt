use Rattle.pref_core.proofs.Common.{common_steps, arith}
use Rattle.pref_core.proofs.OutcomeLaws.{same_calls}
use Rattle.pref_core.proofs.store.Store.last.Goals as goal

pub returns-in-Some-clause-state : goal.returns-in-Some-clause-state
returns-in-Some-clause-state c state h = grind (arith, common_steps, same_calls c.args.self.now state c.args.client h)

pub returns-in-None-clause-state : goal.returns-in-None-clause-state
returns-in-None-clause-state c state h = grind (arith, common_steps, same_calls c.args.self.now state c.args.client h)
