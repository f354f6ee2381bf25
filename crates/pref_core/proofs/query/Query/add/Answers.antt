use Rattle.pref_core.proofs.Common.{subst, sym, refl, ap, arith, ◌++◌, map, Scan}
use Rattle.pref_sky.specs.Levels.{HaveDifferentIds, entry_of}
use Rattle.pref_core.proofs.query.Query.add.Goals as goal

-- for an edit that must fail: an answer fails at once, a search twice at its limits
pub add-requires-clause-ids : goal.add-requires-clause-ids
add-requires-clause-ids c = subst (λ (s : Scan). HaveDifferentIds (map entry_of s.partial ++ c.args.shown.now)) (sym c.self.view_is) c.requires.new

pub returns : goal.returns
returns c =
    let added = rw c.cut-cut.ensures.cut at (c.in_ok-add.ensures {u = tt}).ok in
    (refl, rw (sym c.self.view_is) (record { ask = refl; stamp = refl; size = refl; done = refl; left = omega (arith, c.requires.some, ap (λ (s : Scan). s.left) c.self.view_is); partial = added }))
