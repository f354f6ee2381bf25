use Rattle.pref_share.proofs.Common.{Option, Some, List, arith, ap, first_fault, map, ◌≡◌, ◌∙◌, ◌∷◌, append_assoc, inl, sym}
use Rattle.std.proofs.lemmas.Grind.{common_steps}
use Rattle.pref_share.specs.declared.fault.ShareFault.{ShareFault}
use Rattle.pref_share.proofs.run.tasks_of.Goals as goal

pub loop-worked-preserved : goal.loop-worked-preserved
loop-worked-preserved g c = grind (arith, common_steps, append_assoc)

is_first : (stopped : Option ShareFault) (others : List (Option ShareFault)) (fault : ShareFault) → stopped ≡ Some fault → first_fault (stopped ∷ others) ≡ Some fault
is_first stopped others fault is = rw is

-- for an edit that must fail: an answer fails at once, a search twice at its limits
pub returns-in-Some-stopped-clause-first : goal.returns-in-Some-stopped-clause-first
returns-in-Some-stopped-clause-first g c =
    inl (sym c.loop-worked.invariant.stopped ∙ ap (λ all. first_fault (map (λ worked. worked.stopped) all)) c.in-Some.ensures.steps.0 ∙ is_first _ _ c.in-Some-stopped.fault c.in-Some-stopped.is)
