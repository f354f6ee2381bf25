use Rattle.pref_core.proofs.Common.{◌∙◌, op_of}
use Rattle.pref_core.proofs.FitAtOnceLaws.{next_fits}
use Rattle.pref_core.proofs.store.contents.Contents.is_legal.Goals as goal

pub returns-then-fit_at_once : goal.returns-then-fit_at_once
returns-then-fit_at_once c = c.is_next.ensures ∙ next_fits c.args.self.now (op_of c.args.op.now) (c.fit_at_once.ensures c.if-fit_at_once.true)
