use Rattle.pref_core.proofs.Common.{ap, ◌∙◌, arith, Scan, next_block}
use Rattle.pref_core.proofs.query.Query.read.Goals as goal

pub returns : goal.returns
returns c = (c.in_ok-block.ensures {u = tt} ∙ ap (λ (s : Scan). next_block s c.args.store.now.slots) c.self.view_is, omega (arith, ap (λ (s : Scan). s.left) c.self.view_is))
