use Rattle.pref_core.proofs.Common.{◌≡◌, ◌&&◌, true, false, is_some, refl, sym, ◌∙◌, subst, and_parts, Contents, AppliesIn, is_next, applied, slots_after, op_of}
use Rattle.pref_core.proofs.LegalLaws.{applied_nothing, applies_in}
use Rattle.pref_core.proofs.store.Store.apply_planned.Goals.{Else-is_legal}
use Rattle.pref_core.proofs.store.Store.apply_planned.Goals as goal

pub perform-requires : goal.perform-requires
perform-requires c =
    let op = op_of c.args.op.now in
    let legal = subst (λ (s : Contents). (is_next s op && is_some (slots_after s op)) ≡ true) c.self.view_is (sym c.is_legal.ensures ∙ c.if-is_legal.true) in
    let parts = and_parts (is_next c.args.self.now op) (is_some (slots_after c.args.self.now op)) legal in
    record { by = refl; what = refl; next = parts.0; fits = parts.1 }

exact : (c : Else-is_legal) → c.args.self.now ≡ applied c.args.self.now (op_of c.args.op.now)
exact c =
    let op = op_of c.args.op.now in sym (applied_nothing c.args.self.now op
    (subst (λ (s : Contents). (is_next s op && is_some (slots_after s op)) ≡ false) c.self.view_is (sym c.is_legal.ensures ∙ c.if-is_legal.false)))

pub returns-else-is_legal-clause-exact : goal.returns-else-is_legal-clause-exact
returns-else-is_legal-clause-exact c = exact c

pub returns-else-is_legal-clause-state : goal.returns-else-is_legal-clause-state
returns-else-is_legal-clause-state c state h = subst (AppliesIn state c.args.self.now (op_of c.args.op.now)) (sym (exact c)) (applies_in c.args.self.now state (op_of c.args.op.now) h)
