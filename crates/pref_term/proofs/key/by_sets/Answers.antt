use Rattle.pref_term.proofs.Common.{◌≡◌, ℤ, arith, find, w64, rules, tests, to_z, of_z, to_z-of_z, ◌∙◌}
use Rattle.std.specs.Option.{option_map}
use Rattle.std.proofs.lemmas.Iterator.{YieldsList-from_slice}
use Rattle.std.proofs.lemmas.Iterator.Search.{find_from_yields_List}
use Rattle.pref_term.proofs.KeyLaws.{first_decides, holds_one}
use Rattle.pref_term.proofs.key.by_sets.Goals.{After-find-first}
use Rattle.pref_term.proofs.key.by_sets.Goals as goal

module _ (c : After-find-first) where
  abbrev a : ℤ
  a = to_z w64 (of_z w64 c.args.a)

  abbrev b : ℤ
  b = to_z w64 (of_z w64 c.args.b)

  given : to_z w64 (of_z w64 c.args.a) ≡ c.args.a
  given = to_z-of_z w64 c.args.a (search rules)

  given_second : to_z w64 (of_z w64 c.args.b) ≡ c.args.b
  given_second = to_z-of_z w64 c.args.b (search rules)

  found : option_map (λ set. set.now) c.find-first.result ≡ find (holds_one c.args.a c.args.b) c.args.sets.now
  found =
      find_from_yields_List (holds_one a b) _ _ c.find-first.result c.find-first.ensures.ran (YieldsList-from_slice _ c.iter.ensures.rest) (λ x y q k. search (rules, tests))
      ∙ (λ i. find (holds_one (given i) (given_second i)) c.args.sets.now)

pub returns-in-Some : goal.returns-in-Some
returns-in-Some c =
    let d = (goal.at.returns-in-Some c).After-find-first in
    grind (arith, found d, given d, given_second d, first_decides c.args.sets.now c.args.a c.args.b)

pub returns-in-None : goal.returns-in-None
returns-in-None c =
    let d = (goal.at.returns-in-None c).After-find-first in
    grind (arith, found d, given d, given_second d, first_decides c.args.sets.now c.args.a c.args.b)
