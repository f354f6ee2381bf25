use Rattle.pref_core.proofs.Common.{◌≡◌, ◌&&◌, Bool, nat_eq, length, true, false, refl, sym, ap, ◌∙◌, ne_eqb, is_change, succeeds, op_of}
use Rattle.pref_core.proofs.OutcomeLaws.{IsAllowed-from}
use Rattle.pref_core.proofs.ChosenSlots.{missing_quiet}
use Rattle.pref_core.proofs.FilledLaws.{fits_begun, fits_other, fits_quiet}
use Rattle.pref_core.proofs.store.contents.Contents.fits.Goals.{in_default-via-in-Ok+then-is_change+else-succeeds, in_default-via-in-Ok+else-is_change, in_default-via-in_default}
use Rattle.pref_core.proofs.store.contents.Contents.fits.Goals as goal

pub returns-then-as_slice-begun : goal.returns-then-as_slice-begun
returns-then-as_slice-begun c =
    c.are_free.ensures
    ∙ fits_begun c.args.self.now (op_of c.args.op.now) (sym c.is_change.ensures ∙ c.if-is_change.true) (sym c.succeeds.ensures ∙ c.if-succeeds.true)
    (ap length (sym c.as_slice.ensures.same) ∙ c.if-as_slice-begun.true ∙ c.begun.ensures.count c.args.self.now.next_id)

pub returns-else-as_slice-begun : goal.returns-else-as_slice-begun
returns-else-as_slice-begun c =
    ne_eqb _ _ c.if-as_slice-begun.false
    ∙ sym (fits_other c.args.self.now (op_of c.args.op.now) (sym c.is_change.ensures ∙ c.if-is_change.true) (sym c.succeeds.ensures ∙ c.if-succeeds.true)
    (λ e. c.if-as_slice-begun.false (ap length c.as_slice.ensures.same ∙ e ∙ sym (c.begun.ensures.count c.args.self.now.next_id))))

pub returns-in_default : goal.returns-in_default
returns-in_default c = fits_quiet c.args.self.now (op_of c.args.op.now) c.is_empty.result quiet (c.is_empty.ensures ∙ ap (λ l. nat_eq (length l) 0) c.as_slice-in_default.ensures.same)
  where
    none : (a b : Bool) → b ≡ false → (a && b) ≡ false
    none true b e = e
    none false b e = refl

    quiet : (is_change c.args.op.now.call.now && succeeds c.args.op.now.outcome) ≡ false
    quiet = elim c.in_default.branch [
      | in_default-via-in-Ok+then-is_change+else-succeeds w ↦ none (is_change c.args.op.now.call.now) (succeeds c.args.op.now.outcome) (sym w.succeeds.ensures ∙ w.if-succeeds.false)
      | in_default-via-in-Ok+else-is_change w ↦ ap (λ b. b && succeeds c.args.op.now.outcome) (sym w.is_change.ensures ∙ w.if-is_change.false)
      | in_default-via-in_default w ↦ missing_quiet c.args.self.now (op_of c.args.op.now) c.args.freed.now c.requires.freed w.in_default.not-Ok (IsAllowed-from c.args.self.now (op_of c.args.op.now) c.requires.next).outcome
    ]
