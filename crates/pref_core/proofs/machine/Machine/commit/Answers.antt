use Rattle.pref_core.proofs.Common.{Some, sym, ap, ◌∙◌, Committed, ActCommit, Running, committed_of}
use Rattle.pref_core.proofs.MachineActs.{valued}
use Rattle.pref_core.proofs.machine.Machine.commit.Goals as goal

pub returns : goal.returns
returns c =
    let done = sym (c.committed_of-done.ensures ∙ ap (λ n. committed_of n c.args.commit.now) (c.next_id.ensures ∙ ap (λ (r : Running). r.contents.next_id) c.self.view_is)) in
    valued c.args.self.now c.args.client (ActCommit c.args.commit.now) Committed c.committed_of-done.result c.change.result _ c.change.new.self c.and.ensures
    (c.change.ensures (ActCommit c.args.commit.now) (Committed c.committed_of-done.result) (λ i. Some (sym c.commit.ensures i, Committed (done i))))
