use Rattle.pref_script.proofs.Common.{◌∙◌, ap, arith, option_map, refl, sym, of_changes}
use Rattle.pref_script.proofs.CommitLaws.{pieces_all, pieces_kept, pieces_none, pieces_past, pieces_refused}
use Rattle.pref_script.proofs.commits.read_commit.Goals as goal

pub loop-left-init : goal.loop-left-init
loop-left-init c = pieces_none c.args.schema.now c.args.text.now _ refl

pub returns-in-Err : goal.returns-in-Err
returns-in-Err c = rw c.refusal_before.ensures (pieces_refused _ _ _ _ _ _ _ (option_map (λ rest. rest.now) c.cut_piece.result.1) (rw c.in-Some.is at c.loop-left.invariant) c.cut_piece.ensures c.in-Some-piece_form.ensures _ c.in-Err.ensures)

pub loop-left-preserved-then-count-lt-KEPT : goal.loop-left-preserved-then-count-lt-KEPT
loop-left-preserved-then-count-lt-KEPT c = pieces_kept _ _ _ _ _ _ _ _ (rw c.in-Some.is at c.loop-left.invariant) c.cut_piece.ensures c.in-Some-piece_form.ensures _ c.if-count-lt-KEPT.true c.in-Ok.ensures

pub loop-left-preserved : goal.loop-left-preserved
loop-left-preserved c = grind (arith, pieces_past)

pub returns-in-Ok-of : goal.returns-in-Ok-of
returns-in-Ok-of c = pieces_all _ _ _ _ (rw c.in_default.is at c.loop-left.invariant) ∙ ap of_changes (sym c.of.ensures ∙ c.in-Ok-of.is)

pub returns-in-Err-of : goal.returns-in-Err-of
returns-in-Err-of c = pieces_all _ _ _ _ (rw c.in_default.is at c.loop-left.invariant) ∙ ap of_changes (sym c.of.ensures ∙ c.in-Err-of.is)
