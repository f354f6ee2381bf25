use Rattle.pref_core.proofs.Common.{and_right, ◌≡◌, true, OnOk, sym, ◌∙◌, subst, Contents, IsKept, PointsAll, placed_rows, op_of, changes_of, is_change, succeeds, is_next}
use Rattle.std.proofs.lemmas.Result.{on_ok_weaker}
use Rattle.pref_core.proofs.IndexLaws.{indexed, indexed_still}
use Rattle.pref_core.proofs.store.Store.reindex.Goals as goal

pub follow-requires-clause-next : goal.follow-requires-clause-next
follow-requires-clause-next c = subst (λ (s : Contents). is_next s (op_of c.args.op.now) ≡ true) (sym c.self.view_is) c.requires.plan.next

pub returns-then-succeeds-clause-after : goal.returns-then-succeeds-clause-after
returns-then-succeeds-clause-after c =
    let now = c.args.self.now in
    let op = op_of c.args.op.now in
    let kept = subst IsKept c.self.view_is c.self.invariant in
    let placed = subst (λ (s : Contents). OnOk c.follow.result (PointsAll c.args.index.now (placed_rows s.next_id (changes_of op.call) op.slots) c.follow.new.self)) c.self.view_is c.follow.ensures.placed in
    on_ok_weaker c.follow.result (indexed now kept.stands.within op c.args.index.now c.follow.new.self c.requires.plan.next c.requires.plan.fits (sym c.succeeds.ensures ∙ c.if-succeeds.true) c.requires.index) placed

pub returns-else-succeeds-clause-after : goal.returns-else-succeeds-clause-after
returns-else-succeeds-clause-after c =
    let op = op_of c.args.op.now in
    indexed_still c.args.self.now op c.args.index.now c.requires.plan.next c.requires.plan.fits (and_right (is_change op.call) (succeeds op.outcome) (sym c.succeeds.ensures ∙ c.if-succeeds.false)) c.requires.index
