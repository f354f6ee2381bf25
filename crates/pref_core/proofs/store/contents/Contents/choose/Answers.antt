use Rattle.pref_core.proofs.Common.{◌≡◌, ap, ◌∙◌, uses_of, common_steps, arith}
use Rattle.pref_core.proofs.store.contents.Contents.choose.Goals.{After-any_free_but}
use Rattle.pref_core.proofs.store.contents.Contents.choose.Goals as goal

uses : (c : After-any_free_but) → c.self.inside.places ≡ uses_of c.args.self.now
uses c = c.self.invariant.listed ∙ ap uses_of c.self.view_is

pub returns-clause-found : goal.returns-clause-found
returns-clause-found c = grind (arith, common_steps, uses c, c.any_free_but.ensures.found)

pub returns-clause-none : goal.returns-clause-none
returns-clause-none c = grind (arith, common_steps, uses c, c.any_free_but.ensures.none, c.in_default.ensures.none, c.as_slice.ensures.same)
