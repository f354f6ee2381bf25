use Rattle.pref_core.proofs.Common.{Some, None, is_some, sym, subst, ◌∙◌, ap, ActGet, seat, Does}
use Rattle.pref_core.proofs.ChangeReplies.{running_of}
use Rattle.pref_core.proofs.EndReplies.{found_or_missing, get_does}
use Rattle.pref_core.proofs.machine.Machine.get.Goals as goal

pub returns-in-Some : goal.returns-in-Some
returns-in-Some c =
    let here = ap (λ l. is_some (seat c.args.client l)) (sym c.deref.ensures.value) ∙ sym c.is_client.ensures ∙ c.if-not-is_client.false in
    subst (λ r. Does r c.args.client (ActGet c.args.id) (found_or_missing c.args.id (Some c.in-Some.row)) r) c.self.view_is
    (get_does (running_of c.self.inside.store c.self.inside.setup c.self.inside.queries.items) c.args.client c.args.id (Some c.in-Some.row) here c.in-Some.ensures)

pub returns-in-None : goal.returns-in-None
returns-in-None c =
    let here = ap (λ l. is_some (seat c.args.client l)) (sym c.deref.ensures.value) ∙ sym c.is_client.ensures ∙ c.if-not-is_client.false in
    subst (λ r. Does r c.args.client (ActGet c.args.id) (found_or_missing c.args.id None) r) c.self.view_is
    (get_does (running_of c.self.inside.store c.self.inside.setup c.self.inside.queries.items) c.args.client c.args.id None here c.in-None.ensures)
