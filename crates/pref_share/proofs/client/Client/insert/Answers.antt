use Rattle.pref_share.proofs.Common.{◌≡◌, ◌∙◌, sym, subst, ap, Added, success_outcome, CallInsert, Changes}
use Rattle.pref_core.specs.declared.call.Call.{Call}
use Rattle.pref_core.specs.declared.call.Outcome.{Outcome}
use Rattle.pref_share.specs.SeenHistory.{first_added_id}
use Rattle.pref_share.proofs.client.Client.insert.Goals as goal

pub returns-clause-inserted : goal.returns-clause-inserted
returns-clause-inserted g c =
    let o = g.J.BoardBrand.opening in
    let (next_id, success) = c.in_ok-outcome.ensures.success_outcome in
    let returned : c.in_ok-outcome.outcome ≡ Added next_id = success ∙ ap (success_outcome next_id) c.insert.ensures in
    let id : Added next_id ≡ Added c.first_added_id.result = ap Added (sym (c.first_added_id.ensures ∙ ap first_added_id returned)) in
    subst (λ (x : Outcome). Changes o c.args.self.now (CallInsert c.args.row) x c.change.new.self) (returned ∙ id)
    (subst (λ (call : Call). Changes o c.args.self.now call c.in_ok-outcome.outcome c.change.new.self) c.insert.ensures c.in_ok-outcome.ensures.changed)

-- an insert that was made is not refused
pub returns-clause-refused : goal.returns-clause-refused
returns-clause-refused g c = tt
