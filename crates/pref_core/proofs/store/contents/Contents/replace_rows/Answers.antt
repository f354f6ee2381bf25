use Rattle.pref_core.proofs.Common.{◌+◌, drop, sym, subst, KeepSlots, replaced, changes_of, change_of}
use Rattle.pref_core.proofs.ChangesLaws.{drop_at}
use Rattle.pref_core.proofs.ReplacedLaws.{ReplacedUpTo, replaced_one, sets_row}
use Rattle.pref_core.proofs.store.contents.Contents.replace_rows.Goals.{In-Set, in-Set, in_default}
use Rattle.pref_core.proofs.store.contents.Contents.replace_rows.Goals as goal

pub loop-at-preserved : goal.loop-at-preserved
loop-at-preserved c =
    let start = c.args.self.now in
    let now = c.loop-at.self in
    let changes = changes_of c.args.op.now.call.now in
    let places = c.as_slice-slots.result.now in
    let at = c.loop-at.at in
    let all = replaced start.stamp changes c.args.op.now.slots start.slots in
    elim c.match-change.branch [
      | in-Set w ↦
          subst (λ s. ReplacedUpTo start s (drop (at + 1) changes) (drop (at + 1) places) all) (sym w.self-is)
          (replaced_one start now w.replace.new.self changes places at w.in-Set.id w.in-Set.row.now all w.in-Set.ensures c.loop-at.invariant w.replace.ensures)
      | in_default w ↦ absurd (sets_row now.stamp now.slots c.change.result (drop (at + 1) changes) (drop at places) (subst (λ l. KeepSlots now.stamp now.slots l (drop at places)) (drop_at changes at (change_of c.change.result) c.change.ensures) c.loop-at.invariant.keep) w.in_default.not-Set)
    ]
