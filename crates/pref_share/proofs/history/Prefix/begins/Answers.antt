use Rattle.pref_share.proofs.Common.{ap, subst, refl, IsPrefix}
use lib.Dec.{leb}
use Rattle.pref_share.specs.Book.{ops_of}
use Rattle.pref_share.proofs.PageSteps.{ops_prefix}
use Rattle.pref_share.proofs.PrefixLaws.{compared}
use Rattle.pref_share.proofs.history.Prefix.begins.Goals as goal

pub returns-clause-cases : goal.returns-clause-cases
returns-clause-cases g c =
    let both = c.learn.new.self.log in
    let this = ops_prefix 0 _ _ (subst (λ l. IsPrefix l both) (ap (λ s. s.log) c.again-both.ensures) c.learn.ensures.2) in
    rw (← c.self.view_is, ← c.other.view_is)
    (compared (ops_of c.self.inside.seen.log) (ops_of c.other.inside.seen.log) (ops_of both) c.self.inside.len c.other.inside.len c.self.invariant.0 c.other.invariant.0 this (ops_prefix 0 _ _ c.learn.ensures.3) (leb c.self.inside.len c.other.inside.len) refl)
