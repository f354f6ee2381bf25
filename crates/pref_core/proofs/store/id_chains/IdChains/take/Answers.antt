use Rattle.pref_core.proofs.Common.{length, sym, ap, subst, ◌∙◌, arith, get_or_default_zero, ids_of, AreLinks, ◌^◌, IsBefore, home_of, id_at, slice_index}
use Rattle.pref_core.proofs.IdChainsLaws.{row_shown, links_removed, within_at}
use Rattle.pref_core.proofs.store.id_chains.IdChains.take.Goals as goal

pub returns-clause-some : goal.returns-clause-some
returns-clause-some c =
    let slots = c.args.slots.now in
    let links = subst (AreLinks (length slots.slots) (ids_of slots.stamp slots.slots)) (sym c.self.view_is) c.requires.links in
    let same = ap length c.deref.ensures.value in
    let there = sym c.stands_at.ensures ∙ c.if-not-stands_at.false in
    let room = within_at slots.stamp slots.slots c.index-place.result.now c.args.id (row_shown slots.stamp c.args.id slots.slots c.index-place.result.now there) in
    let inside = c.before-node.ensures.inside in
    let long = links.long in
    links_removed slots.stamp c.args.id slots.slots c.self.inside.next.items c.index-place.result.now c.before-node.result c.index.result.now links c.requires.ids there
    (subst (λ l. IsBefore (2 ^ 64) (length slots.slots) (home_of (length slots.slots)) (id_at (ids_of slots.stamp slots.slots))
    (slice_index l) c.args.id c.before-node.result) c.deref.ensures.value c.before-node.ensures.before) (omega arith)
    (c.index.ensures ∙ get_or_default_zero c.self.inside.next.items c.index-place.result.now _ (omega arith))
