use Rattle.pref_share.proofs.Common.{◌≡◌, ◌∙◌, ℕ, List, ap, arith, length, subst, success_outcome, committed_of}
use Rattle.pref_share.proofs.Common.{CallCommit, Opening, Standing, Changes, Commits}
use Rattle.pref_core.specs.declared.call.Call.{Call}
use Rattle.pref_core.specs.declared.call.Outcome.{Outcome}
use Rattle.pref_core.specs.declared.changes.Change.{Change}
use Rattle.pref_core.specs.declared.event.Committed.{Committed}
use Rattle.pref_share.proofs.client.Client.commit.Goals as goal

-- the reply to a commit that joined, by the id that its first row would have got
commits : (o : Opening) (old new : Standing) (commit : List Change) (next_id : ℕ) (reply : Committed) → reply ≡ committed_of next_id commit
    → Changes o old (CallCommit commit) (success_outcome next_id (CallCommit commit)) new → Commits o old commit reply new
commits o old new commit next_id reply is changes = grind (arith)

pub returns-clause-committed : goal.returns-clause-committed
returns-clause-committed g c =
    let o = g.J.BoardBrand.opening in
    let (next_id, success) = c.in_ok-outcome.ensures.success_outcome in
    let returned : c.in_ok-outcome.outcome ≡ success_outcome next_id (CallCommit c.args.commit) = success ∙ ap (success_outcome next_id) c.commit-2.ensures in
    let reply = c.committed_of.ensures next_id c.args.commit (c.change_count-changes.ensures ∙ ap length c.commit.ensures) returned in
    commits o c.args.self.now c.change.new.self c.args.commit next_id c.committed_of.result reply
    (subst (λ (x : Outcome). Changes o c.args.self.now (CallCommit c.args.commit) x c.change.new.self) returned
    (subst (λ (call : Call). Changes o c.args.self.now call c.in_ok-outcome.outcome c.change.new.self) c.commit-2.ensures c.in_ok-outcome.ensures.changed))
