use Rattle.pref_core.proofs.Common.{◌≡◌, ◌<◌, true, sym, subst, ◌∙◌, arith, common_steps, lt-ltb, begins_row, changes_of}
use Rattle.pref_core.proofs.ChangesLaws.{begins_some}
use Rattle.pref_core.proofs.ChosenSlots.{outcome_missing}
use Rattle.pref_core.proofs.store.contents.Contents.outcome.Goals as goal

pub returns-then-needed-capacity : goal.returns-then-needed-capacity
returns-then-needed-capacity c =
    let begins : begins_row c.args.call.now ≡ true = sym (begins_some 0 (changes_of c.args.call.now)) ∙ lt-ltb 0 _ (subst (λ n. 0 < n) (c.begun.ensures.count 0) c.if-begun-gt0.true) in
    grind (arith, common_steps)

-- for an edit that must fail: an answer fails at once, a search twice at its limits
pub returns-in-Err : goal.returns-in-Err
returns-in-Err c = sym (outcome_missing c.args.self.now c.args.call.now c.in-Err.id (sym (c.if-not-is_change.ensures {u = tt})) (rw c.in-Err.is at c.requires))
