use Rattle.pref_share.proofs.Common.{◌≡◌, ◌⊎◌, ◌∙◌, List, Some, true, added, ap, length, nat_lt, refusal, subst, suc, sym, IsAppended, IsPageOf, Op, OutOfMemory, state_at}
use Rattle.pref_share.proofs.RefusalReplies.{passed_on}
use Rattle.pref_share.specs.Book.{Page}
use Rattle.pref_share.proofs.client.calls.join.Goals as goal

pub join-requires-clause-page : goal.join-requires-clause-page
join-requires-clause-page g c = subst (λ (p : Page). IsPageOf g.J.BoardBrand.book c.args.client (length p.ops) p) (sym c.check.ensures.same.1) c.requires.page

pub join-requires-clause-few : goal.join-requires-clause-few
join-requires-clause-few g c = rw (c.check.ensures.same.0, c.check.ensures.same.1) (rw c.requires.page.number_is at c.check.ensures.turn).few

pub returns-clause-page : goal.returns-clause-page
returns-clause-page g c = subst (λ (p : Page). IsPageOf g.J.BoardBrand.book c.args.client (suc (length p.ops)) c.join.new.page) c.check.ensures.same.1 c.in_ok-outcome.ensures.page

pub returns-clause-joined : goal.returns-clause-joined
returns-clause-joined g c =
    let whole = sym c.whole.ensures.same in
    let joined = subst (λ (l : List Op). IsAppended g.J.BoardBrand.opening c.check.new.self c.args.client c.args.call c.in_ok-outcome.outcome l) whole c.in_ok-outcome.ensures.joined in
    record {
      before = c.deref_mut-publisher.result.now;
      turn = rw c.requires.page.number_is at c.check.ensures.turn;
      appended = subst (λ (l : List Op). IsAppended g.J.BoardBrand.opening l c.args.client c.args.call c.in_ok-outcome.outcome c.whole.result) c.check.ensures.same.0 joined;
      commits = c.stamp.ensures ∙ ap (λ (l : List Op). (state_at g.J.BoardBrand.opening l).commits) whole;
    }

pub returns-in_err-outcome-clause-refused : goal.returns-in_err-outcome-clause-refused
returns-in_err-outcome-clause-refused g c =
    let fault = c.in_err-outcome.field-0.0 in
    let why = subst (λ (l : List Op). (refusal (state_at g.J.BoardBrand.opening l) c.args.client c.args.call ≡ Some fault) ⊎ ((fault ≡ OutOfMemory) × (nat_lt 0 (added c.args.call) ≡ true))) c.check.ensures.same.0 c.in_err-outcome.ensures.refused in
    passed_on c.from_residual.result fault _ c.from_residual.ensures.1 (record { before = c.deref_mut-publisher.result.now; turn = rw c.requires.page.number_is at c.check.ensures.turn; why = why })
