use Rattle.pref_sky.proofs.Common.{arith, ◌≡◌, ◌++◌, HaveDifferentIds, List, Ranked, entry_of, map, subst, sym}
use Rattle.pref_sky.proofs.partial.Partial.add.Goals as goal

pub hold_anew-requires-clause-ids : goal.hold_anew-requires-clause-ids
hold_anew-requires-clause-ids g c =
    let same : c.in_default.self-inside.held ≡ c.self.inside.held = grind (arith) in
    rw same (subst (λ (l : List Ranked). HaveDifferentIds (map entry_of l ++ c.args.entries.now)) (sym c.self.view_is) c.requires.ids)
