use Rattle.pref_core.proofs.Common.{length, sym, subst, ap, ◌∙◌, arith, get_or_default_zero, ids_of, AreLinks, ◌^◌, IsBefore, home_of, id_at, slice_index}
use Rattle.pref_core.proofs.IdChainsLaws.{links_added}
use Rattle.pref_core.proofs.store.id_chains.IdChains.add.Goals as goal

pub returns : goal.returns
returns c =
    let slots = c.args.slots.now in
    let links = subst (AreLinks (length slots.slots) (ids_of slots.stamp slots.slots)) (sym c.self.view_is) c.requires.links in
    let same = ap length c.deref.ensures.value in
    let inside = c.before-node.ensures.inside in
    links_added slots.stamp c.args.id slots.slots c.self.inside.next.items c.args.place c.before-node.result c.index.result.now links c.requires.ids c.requires.place c.requires.empty c.requires.absent
    (subst (λ l. IsBefore (2 ^ 64) (length slots.slots) (home_of (length slots.slots)) (id_at (ids_of slots.stamp slots.slots))
    (slice_index l) c.args.id c.before-node.result) c.deref.ensures.value c.before-node.ensures.before) (omega arith)
    (c.index.ensures ∙ get_or_default_zero c.self.inside.next.items c.before-node.result _ (omega arith))
