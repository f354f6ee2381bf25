use Rattle.pref_share.proofs.Common.{◌≡◌, suc, ◌+◌, length, Option, Some, None, refl, sym, subst, ap, ◌∙◌, arith, begin, own_refusal, state_at, Asking, Standing, IsPageOf, Joins, Stands}
use Rattle.pref_core.specs.Limits.{blocks}
use Rattle.pref_core.specs.declared.call.Call.TheVariants.{Begin}
use Rattle.pref_core.specs.declared.call.Outcome.{Outcome}
use Rattle.pref_share.proofs.StandingLaws.{joins, only_memory, stands_begun}
use Rattle.pref_share.proofs.client.Client.begin.Given.{Over}
use Rattle.pref_share.proofs.client.Client.begin.Goals.{In_default}
use Rattle.pref_share.proofs.client.Client.begin.Goals as goal

-- a begin is let in by the client's own counter and query
accepted : (g : Over) (c : In_default g) → own_refusal (record { number = c.self.inside.number; counter = c.self.inside.counter; seen = c.self.inside.seen; query = c.self.inside.asking }) Begin ≡ None
accepted g c = subst (λ (x : Standing). own_refusal x Begin ≡ None) (sym c.self.view_is) (ap (own_refusal c.args.self.now) (sym c.begin.ensures) ∙ sym c.refusal.ensures ∙ c.in_default.is)

pub unreachable-requires : goal.unreachable-requires
unreachable-requires g c =
    let let_in = accepted g (goal.at.unreachable-requires g c).In_default in
    let refused = rw c.begin-2.ensures at c.in_default-join.ensures.refused in
    let memory = only_memory g.J.BoardBrand.opening _ _ Begin c.in_default-join.field-0 c.self.invariant.2 c.self.invariant.3.counted let_in refused in
    cc (memory.1)

pub invariant_of-self : goal.invariant_of-self
invariant_of-self g c =
    let o = g.J.BoardBrand.opening in
    let s = c.self.inside in
    let j = c.in-Ok.field-0 in
    let counted : length s.page.ops ≡ s.counter = c.self.invariant.3.counted in
    let made : suc (length s.page.ops) ≡ s.counter + 1 = omega arith in
    let scan : c.begin-query.result ≡ begin c.args.ask j.stamp o.limits = c.begin-query.ensures ∙ ap (begin c.args.ask j.stamp) c.self.invariant.1 in
    let asking : Some (record { scan = c.begin-query.result; at_begin = c.again-begun.result }) ≡ Some (record { scan = begin c.args.ask j.stamp o.limits; at_begin = j.seen }) = λ i. Some (record { scan = scan i; at_begin = c.again-begun.ensures.same i }) in (
      c.self.invariant.0,
      c.self.invariant.1,
      subst (λ (q : Option Asking). Stands o s.number (s.counter + 1) j.seen q) (sym asking) (stands_begun o _ _ _ j c.self.invariant.2 counted c.in-Ok.ensures.joined _ c.args.ask c.begin-2.ensures (omega arith)),
      subst (λ n. IsPageOf g.J.BoardBrand.book s.number n c.join.new.page) made c.in-Ok.ensures.page,
    )

pub returns-clause-begun : goal.returns-clause-begun
returns-clause-begun g c =
    let o = g.J.BoardBrand.opening in
    let s = c.self.inside in
    let j = c.in-Ok.field-0 in
    let old : Standing = record { number = s.number; counter = s.counter; seen = s.seen; query = s.asking } in
    let new : Standing = record { number = s.number; counter = s.counter + 1; seen = j.seen; query = Some (record { scan = c.begin-query.result; at_begin = c.again-begun.result }) } in
    let let_in = accepted g (goal.at.returns-clause-begun g c).In_default in
    let behind = rw c.begin-2.ensures at c.in-Ok.ensures.joined in
    let scan : c.begin-query.result ≡ begin c.args.ask (state_at o j.seen).commits o.limits = c.begin-query.ensures ∙ (λ i. begin c.args.ask (behind.commits i) (c.self.invariant.1 i)) in
    let call : Joins o old Begin j.outcome new = joins o old _ Begin j c.self.invariant.2 c.self.invariant.3.counted behind new let_in refl (omega arith) refl in
    rw (← c.self.view_is) (record {
      joins = subst (λ (returned : Outcome). Joins o old Begin returned new) call.reply call;
      query = (λ i. Some (record { scan = scan i; at_begin = c.again-begun.ensures.same i }));
      left_is = c.blocks-2.ensures.value ∙ ap blocks c.self.invariant.1;
    })
