use Rattle.pref_core.proofs.Common.{subst, ap, ◌∙◌, AppliesIn, Op, applied}
use Rattle.pref_core.proofs.store.Store.apply.Goals as goal

pub returns-clause-exact : goal.returns-clause-exact
returns-clause-exact c = c.apply_planned.ensures.exact ∙ ap (applied c.args.self.now) c.planned.ensures

pub returns-clause-state : goal.returns-clause-state
returns-clause-state c state h = subst (λ (op : Op). AppliesIn state c.args.self.now op c.apply_planned.new.self) c.planned.ensures (c.apply_planned.ensures.state state h)
