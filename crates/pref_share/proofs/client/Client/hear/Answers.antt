use Rattle.pref_share.proofs.Common.{refl}
use Rattle.pref_share.proofs.PrefixLaws.{prefix_self}
use Rattle.pref_share.proofs.StandingLaws.{sees, stands_seen}
use Rattle.pref_share.proofs.client.Client.hear.Goals as goal

pub invariant_of-self : goal.invariant_of-self
invariant_of-self g c = (c.self.invariant.0, c.self.invariant.1, stands_seen g.J.BoardBrand.opening _ _ _ _ _ c.self.invariant.2 c.if-begins.ensures.cases c.if-begins.ensures.legal.1, c.self.invariant.3)

pub returns-then-begins-clause-sees : goal.returns-then-begins-clause-sees
returns-then-begins-clause-sees g c = rw (← c.self.view_is) (sees g.J.BoardBrand.opening _ _ c.if-begins.ensures.cases c.if-begins.ensures.legal.1 refl refl refl)

pub returns-then-begins-clause-heard : goal.returns-then-begins-clause-heard
returns-then-begins-clause-heard g c = rw (← c.word.view_is) (prefix_self c.word.inside.seen)

pub returns-else-begins-clause-sees : goal.returns-else-begins-clause-sees
returns-else-begins-clause-sees g c = rw (← c.self.view_is) (sees g.J.BoardBrand.opening _ _ (prefix_self c.self.inside.seen) c.if-begins.ensures.legal.0 refl refl refl)

pub returns-else-begins-clause-heard : goal.returns-else-begins-clause-heard
returns-else-begins-clause-heard g c = rw (← c.word.view_is, ← c.self.view_is) c.if-begins.ensures.cases
