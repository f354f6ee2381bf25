use Rattle.pref_core.proofs.Common.{sym, ◌∙◌, subst, FitAtOnce, change_of}
use Rattle.pref_core.proofs.FitAtOnceLaws.{fits_lone}
use Rattle.pref_core.proofs.store.contents.Contents.fit_at_once.Goals as goal

pub returns-in-Some : goal.returns-in-Some
returns-in-Some c all =
    let lone = c.in-Some.ensures in
    subst (FitAtOnce c.args.self.now c.args.call.now) c.as_slice-slots.ensures.same
    (fits_lone c.args.self.now c.args.call.now c.as_slice-slots.result.now (change_of c.in-Some.change) c.used_after.result c.requires.kept lone.succeeds lone.formed lone.change c.used_after.ensures (sym c.eq.ensures ∙ all))
