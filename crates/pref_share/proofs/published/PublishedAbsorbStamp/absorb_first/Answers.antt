use Rattle.pref_share.proofs.Common.{◌≡◌, ap, ◌∙◌, applied}
use Rattle.pref_core.specs.Planned.{boxed_op}
use Rattle.pref_share.proofs.published.PublishedAbsorbStamp.absorb_first.Goals as goal

pub returns-clause-absorbed : goal.returns-clause-absorbed
returns-clause-absorbed c =
    let before = c.args.self.now.store in
    let store : c.apply_planned.new.self ≡ applied before (boxed_op c.args.operation.now.op) = c.apply_planned.ensures.exact ∙ ap (applied before) c.planned.ensures in
    λ i. record { store = store i; len = c.args.operation.now.len; seen = c.again.ensures i }
