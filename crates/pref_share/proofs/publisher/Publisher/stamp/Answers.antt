use Rattle.pref_share.proofs.Common.{◌∙◌}
use Rattle.pref_share.proofs.HistoryLaws.{left_stands}
use Rattle.pref_share.proofs.publisher.Publisher.stamp.Goals as goal

pub returns : goal.returns
returns g c = c.stamp.ensures ∙ (left_stands g.J.BoardBrand.opening c.args.self.now c.store.result.now c.store.ensures.legal c.store.ensures.left).stamp
