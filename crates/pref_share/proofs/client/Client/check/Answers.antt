use Rattle.pref_share.proofs.StandingLaws.{even}
use Rattle.pref_share.proofs.client.Client.check.Goals as goal

pub returns-clause-within : goal.returns-clause-within
returns-clause-within g c =
    let turn = rw c.self.invariant.3.number_is at c.check.ensures.turn in
    rw (← c.self.view_is) (record { inside = turn.further; alone = even _ _ _ _ _ _ _ c.self.invariant.2 c.self.invariant.3.counted turn })
