use Rattle.pref_sky.proofs.Common.{◌&&◌, ◌∙◌, ℕ, [], ap, arith, cases_Bool, entry_at, get_or_read, inl, inr, own_order, sym}
use Rattle.pref_sky.proofs.StepLaws.{found_step, none_kept, none_over, over_by_member}
use Rattle.pref_sky.specs.Leads.{mark_of, rule_of}
use Rattle.pref_term.specs.Signatures.{is_within}
use Rattle.pref_sky.proofs.level.Level.dominates.Goals as goal

pub returns-then-has_step_over-clause-dominated : goal.returns-then-has_step_over-clause-dominated
returns-then-has_step_over-clause-dominated c sweeps of_class n stands near =
    let here = get_or_read c.args.entries.now c.args.place c.index-entries-place.result c.requires.inside c.index-entries-place.is (record { id = 0; row = [] }) in
    let found = c.if-has_step_over.true in
    found
    ∙ sym (found_step _ _ _ _ c.args.entries.now sweeps.swept (rule_of c.args.lead.now) _ c.args.class c.args.place n c.args.self.now stands c.requires.inside _ _ here c.has_step_over.ensures found)

pub returns-else-has_step_over-clause-dominated : goal.returns-else-has_step_over-clause-dominated
returns-else-has_step_over-clause-dominated c sweeps of_class n stands near =
    let over = own_order c.args.order.now in
    let all = c.args.entries.now in
    let rule = rule_of c.args.lead.now in
    let mark = mark_of c.args.lead.now in
    let e = entry_at all c.args.place in
    let kept = c.args.self.now in
    let inside = c.requires.inside in
    let here = get_or_read all c.args.place c.index-entries-place.result inside c.index-entries-place.is (record { id = 0; row = [] }) in
    elim (cases_Bool c.has_kept_over.result) [
      | inl found ↦
          let x = c.has_kept_over.ensures.found found in
          found ∙ sym (over_by_member over _ _ _ all sweeps.swept c.args.place n x.0.place c.args.place (stands.kept_within x.0 x.1).0 (omega (arith, inside)) x.2)
      | inr none ↦
          none
          ∙ sym (none_over over _ _ _ all sweeps.swept rule mark c.args.class c.args.place n kept stands inside sweeps.signed of_class _ _ here c.has_step_over.ensures c.if-has_step_over.false
          (λ same. none_kept over _ _ _ all sweeps.swept rule mark c.args.class c.args.place n kept stands inside sweeps.signed of_class sweeps.held near
          (λ x m. ap (λ (s : ℕ). is_within x.signature s && over (entry_at all x.place) e) (sym c.requires.signature) ∙ c.has_kept_over.ensures.none none same x m)))
    ]
