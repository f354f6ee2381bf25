use Rattle.pref_share.proofs.Common.{sym, subst, Published, first_contents, HoldsHistory}
use Rattle.pref_share.proofs.ViewsLaws.{reads}
use Rattle.pref_share.proofs.client.reads.enter.Goals as goal

pub enter_as-requires : goal.enter_as-requires
enter_as-requires g c x = reads _ _ x

pub history_of-requires-clause-stands : goal.history_of-requires-clause-stands
history_of-requires-clause-stands g c =
    subst (λ (y : Published). HoldsHistory (first_contents g.J.BoardBrand.opening) g.J.BoardBrand.book y) (sym c.get.ensures) (c.in_ok-reading.ensures.1.1 (first_contents g.J.BoardBrand.opening) g.J.BoardBrand.book c.requires.knows)
