use Rattle.pref_core.proofs.Common.{[], ◌∷◌, take, sym, subst, ended_by, changes_of, change_of}
use Rattle.pref_core.proofs.ChangesLaws.{ended_so_far}
use Rattle.pref_core.proofs.FilledLaws.{EndedUpTo, ended_none, ended_more}
use Rattle.pref_core.proofs.store.contents.Contents.end_rows.Goals as goal

pub loop-at-init : goal.loop-at-init
loop-at-init c = ended_none c.args.self.now

pub loop-at-preserved : goal.loop-at-preserved
loop-at-preserved c =
    let change = change_of c.change.result in
    let done = ended_by (take c.loop-at.at (changes_of c.args.call.now)) in
    subst (EndedUpTo c.args.self.now c.end_one.new.self) (sym (ended_so_far (changes_of c.args.call.now) c.loop-at.at change c.change.ensures))
    (ended_more c.args.self.now c.loop-at.self c.end_one.new.self done (ended_by (change ∷ [])) c.loop-at.invariant c.end_one.ensures)
