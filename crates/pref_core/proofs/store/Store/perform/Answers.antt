use Rattle.pref_core.proofs.Common.{◌≡◌, true, sym, ap, ◌∙◌, subst, AppliesIn, is_next, applied, op_of}
use Rattle.pref_core.proofs.UsesAfterQuery.{kept_stepped, stepped_is}
use Rattle.pref_core.proofs.LegalLaws.{applies_in}
use Rattle.pref_core.proofs.store.Store.perform.Goals.{After-step}
use Rattle.pref_core.proofs.store.Store.perform.Goals as goal

next : (c : After-step) → is_next c.self.inside.contents (op_of c.args.op.now) ≡ true
next c = ap (λ s. is_next s (op_of c.args.op.now)) c.self.view_is ∙ c.requires.next

exact : (c : After-step) → c.step.new.self ≡ applied c.args.self.now (op_of c.args.op.now)
exact c = stepped_is c.self.inside.contents (op_of c.args.op.now) c.step.new.self.slots c.step.new.self (next c) c.step.ensures.slots c.step.ensures.rest ∙ ap (λ s. applied s (op_of c.args.op.now)) c.self.view_is

pub step-requires-clause-next : goal.step-requires-clause-next
step-requires-clause-next c = ap (λ s. is_next s (op_of c.args.op.now)) c.self.view_is ∙ c.requires.next

pub invariant_of-self : goal.invariant_of-self
invariant_of-self c = kept_stepped c.self.inside.contents (op_of c.args.op.now) c.step.new.self.slots c.step.new.self c.self.invariant (next c) c.step.ensures.slots c.step.ensures.rest

pub returns-clause-state : goal.returns-clause-state
returns-clause-state c state h = subst (AppliesIn state c.args.self.now (op_of c.args.op.now)) (sym (exact c)) (applies_in c.args.self.now state (op_of c.args.op.now) h)
