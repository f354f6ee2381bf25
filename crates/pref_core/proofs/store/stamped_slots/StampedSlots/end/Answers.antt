use Rattle.pref_core.proofs.Common.{◌≡◌, Some, set, ap₂, sym, ◌∙◌, get_or_from_slice_get, none-some, same_Some}
use Rattle.pref_core.specs.StampedSlots.{StampedSlots}
use Rattle.pref_core.specs.declared.store.version.Version.{Version}
use Rattle.pref_core.proofs.store.stamped_slots.StampedSlots.end.Goals.{in-Some, in_default}
use Rattle.pref_core.proofs.store.stamped_slots.StampedSlots.end.Goals as goal

-- for an edit that must fail: an answer fails at once, a search twice at its limits
pub returns : goal.returns
returns c = λ version there.
    let read : c.index_mut.result.now ≡ Some version = c.index_mut.ensures.value ∙ get_or_from_slice_get c.self.inside.slots.items c.args.place (Some version) c.index_mut.result.now (rw (sym c.self.view_is) at there) in
    elim c.match-index_mut.branch [
      | in-Some w ↦ rw w.self-inside-is (ap₂ (λ (s : StampedSlots) (v : Version). record { slots = set s.slots c.args.place (Some (record v { death = Some s.stamp })); stamp = s.stamp }) c.self.view_is (same_Some _ _ (sym w.in-Some.is ∙ read)))
      | in_default w ↦ absurd (none-some _ (sym w.in_default.is ∙ read))
    ]
