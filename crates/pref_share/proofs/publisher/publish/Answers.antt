use Rattle.pref_share.proofs.Common.{sym, subst, Published, HoldsHistory, first_contents}
use Rattle.pref_share.proofs.ViewsLaws.{stays}
use Rattle.pref_share.proofs.publisher.publish.Goals as goal

pub publish_as-writer-requires : goal.publish_as-writer-requires
publish_as-writer-requires g c next is =
    let x = c.args.writer.desk.shown.value in
    stays _ _ x next (first_contents g.J.BoardBrand.opening) g.J.BoardBrand.book c.requires.knows (subst (λ (y : Published). HoldsHistory (first_contents g.J.BoardBrand.opening) g.J.BoardBrand.book y) (sym is) c.requires.stands)
