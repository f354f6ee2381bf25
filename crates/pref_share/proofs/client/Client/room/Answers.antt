use Rattle.pref_share.proofs.Common.{arith, ◌-◌, length, refl, ap, ◌∙◌, needed, Contents, state_at}
use Rattle.pref_share.proofs.HistoryLaws.{left_stands, legal_capacity}
use Rattle.pref_share.proofs.StandingLaws.{sees, stands_seen}
use Rattle.pref_share.proofs.ViewsLaws.{still_knows}
use Rattle.pref_share.proofs.client.Client.room.Goals as goal

pub returns-clause-room : goal.returns-clause-room
returns-clause-room g c =
    let o = g.J.BoardBrand.opening in
    let now = c.in-Some.now in
    let read = c.in-Some.ensures.found in
    let slots = ap (λ (s : Contents). length s.slots) read.2.2 ∙ legal_capacity o now read.1.fits in
    rw (← c.self.view_is) (sees o _ _ read.0 read.1 refl refl refl, read.2.1 (state_at o now) (left_stands o now _ read.1 read.2.2) ∙ ap (λ n. n - length (needed (state_at o now))) slots)

pub invariant_of-self : goal.invariant_of-self
invariant_of-self g c = grind (arith, still_knows, stands_seen)

pub invariant_of-self-2 : goal.invariant_of-self-2
invariant_of-self-2 g c = grind (arith, still_knows, stands_seen)
