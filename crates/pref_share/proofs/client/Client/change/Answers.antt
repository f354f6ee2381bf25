use Rattle.pref_share.proofs.Common.{◌≡◌, suc, ◌+◌, length, None, refl, sym, subst, ap, ◌∙◌, arith, Standing, own_refusal, Core, IsPageOf}
use Rattle.pref_share.proofs.RefusalReplies.{passed_on}
use Rattle.pref_share.proofs.StandingLaws.{joins, only_memory, stands_changed, change_returned, success_returned}
use Rattle.pref_share.proofs.client.Client.change.Given.{Over}
use Rattle.pref_share.proofs.client.Client.change.Goals.{In_default}
use Rattle.pref_share.proofs.client.Client.change.Goals as goal

-- the call is let in by the client's own counter and query
accepted : (g : Over) (c : In_default g) → own_refusal (record { number = c.self.inside.number; counter = c.self.inside.counter; seen = c.self.inside.seen; query = c.self.inside.asking }) c.args.call ≡ None
accepted g c = subst (λ (x : Standing). own_refusal x c.args.call ≡ None) (sym c.self.view_is) (ap (own_refusal c.args.self.now) (sym c.lend.ensures) ∙ sym c.refusal.ensures ∙ c.in_default.is)

pub invariant_of-self-2 : goal.invariant_of-self-2
invariant_of-self-2 g c =
    let counted = c.self.invariant.3.counted in
    let made : suc (length c.self.inside.page.ops) ≡ c.self.inside.counter + 1 = omega arith in (
      c.self.invariant.0,
      c.self.invariant.1,
      stands_changed g.J.BoardBrand.opening _ _ c.args.call c.in_ok-seen.field-0 c.self.invariant.2 counted c.in_ok-seen.ensures.joined _ c.requires.change (omega arith),
      subst (λ n. IsPageOf g.J.BoardBrand.book c.self.inside.number n c.join.new.page) made c.in_ok-seen.ensures.page,
    )

pub returns : goal.returns
returns g c =
    let o = g.J.BoardBrand.opening in
    let s = c.self.inside in
    let j = c.in_ok-seen.field-0 in
    let new : Standing = record { number = s.number; counter = s.counter + 1; seen = j.seen; query = s.asking } in
    let call = joins o _ _ c.args.call j c.self.invariant.2 c.self.invariant.3.counted c.in_ok-seen.ensures.joined new (accepted g (goal.at.returns g c).In_default) refl (omega arith) refl in
    let told = change_returned o _ _ c.args.call _ c.outcome_or_refusal.result c.outcome_or_refusal.ensures call refl in
    rw (← c.self.view_is)
    (record { changed = told.0; success_outcome = success_returned o _ _ c.args.call _ c.outcome_or_refusal.result c.outcome_or_refusal.ensures call c.requires.change; refused = told.1 })

pub returns-in_err-seen-clause-refused : goal.returns-in_err-seen-clause-refused
returns-in_err-seen-clause-refused g c =
    let o = g.J.BoardBrand.opening in
    let fault = c.in_err-seen.field-0.0 in
    let let_in = accepted g (goal.at.returns-in_err-seen-clause-refused g c).In_default in
    let memory = only_memory o _ _ c.args.call fault c.self.invariant.2 c.self.invariant.3.counted let_in c.in_err-seen.ensures.refused in
    rw (← c.self.view_is) (passed_on c.from_residual.result (Core fault) _ c.from_residual.ensures.1 (rw memory.0 (memory.1, let_in, refl)))
