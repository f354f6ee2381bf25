use Rattle.pref_core.proofs.Common.{ap, sym, inr, ◌∙◌, uses_of, free_at}
use Rattle.pref_core.proofs.store.contents.Contents.slot_to_try.Goals as goal

pub returns-in-Some : goal.returns-in-Some
returns-in-Some c = inr (ap (λ z. free_at z c.in-Some.place) (sym (c.self.invariant.listed ∙ ap uses_of c.self.view_is)) ∙ c.in-Some.ensures.found.0)
