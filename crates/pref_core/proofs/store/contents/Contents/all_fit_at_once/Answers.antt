use Rattle.pref_core.proofs.Common.{sym, ◌∙◌, arith, eqb-true, change_of}
use Rattle.pref_core.proofs.FitAtOnceLaws.{fits_all, fits_change}
use Rattle.pref_core.proofs.store.contents.Contents.all_fit_at_once.Goals as goal

pub loop-at-preserved : goal.loop-at-preserved
loop-at-preserved c =
    fits_change c.args.self.now c.args.call.now c.args.slots.now c.loop-at.at c.loop-at.used c.in-Some.after (change_of c.change.result) c.requires.kept c.count-at-end.ensures.formed c.change.ensures c.in-Some.ensures c.loop-at.invariant

pub returns-then-is_change : goal.returns-then-is_change
returns-then-is_change c all =
    fits_all c.args.self.now c.args.call.now c.args.slots.now c.loop-at.at c.loop-at.used (sym c.is_change.ensures ∙ c.if-is_change.true) c.count-at-end.ensures.formed (omega arith) (sym (eqb-true _ _ all)) c.loop-at.invariant
