use Rattle.pref_core.proofs.Common.{and_right, ◌&&◌, Some, sym, ap, ◌∙◌, Contents, is_change, succeeds, op_of}
use Rattle.pref_core.proofs.FilledLaws.{slots_still}
use Rattle.pref_core.proofs.store.contents.Contents.step.Goals.{then-is_change+then-succeeds, else-is_change, else-is_change-via-then-is_change+else-succeeds, else-is_change-via-else-is_change}
use Rattle.pref_core.proofs.store.contents.Contents.step.Goals as goal

pub returns-clause-slots : goal.returns-clause-slots
returns-clause-slots c = elim c.if-is_change.branch [
  | then-is_change+then-succeeds w ↦ w.commit.ensures.slots ∙ ap (λ (s : Contents). Some s.slots) (sym w.self-is)
  | else-is_change w ↦
      slots_still c.args.self.now (op_of c.args.op.now)
      (elim w.else-is_change.branch [
        | else-is_change-via-then-is_change+else-succeeds v ↦ and_right (is_change c.args.op.now.call.now) (succeeds c.args.op.now.outcome) (sym v.succeeds.ensures ∙ v.if-succeeds.false)
        | else-is_change-via-else-is_change v ↦ ap (λ b. b && succeeds c.args.op.now.outcome) (sym c.is_change.ensures ∙ v.if-is_change.false)
      ]) c.requires.fits ∙ ap (λ (s : Contents). Some s.slots) (sym w.self-is)
] ∙ ap (λ (s : Contents). Some s.slots) (sym c.count.ensures)
