use Rattle.pref_core.proofs.Common.{Ok, is_some, sym, subst, ◌∙◌, ap, ActRoom, Room, seat, Does}
use Rattle.pref_core.proofs.ChangeReplies.{running_of}
use Rattle.pref_core.proofs.EndReplies.{room_does}
use Rattle.pref_core.proofs.machine.Machine.room.Goals as goal

pub returns : goal.returns
returns c =
    let here = ap (λ l. is_some (seat c.args.client l)) (sym c.deref.ensures.value) ∙ sym c.is_client.ensures ∙ c.if-not-is_client.false in
    subst (λ r. Does r c.args.client ActRoom (Ok (Room c.room.result)) r) c.self.view_is
    (room_does (running_of c.self.inside.store c.self.inside.setup c.self.inside.queries.items) c.args.client c.room.result here c.room.ensures)
