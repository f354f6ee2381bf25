use Rattle.pref_share.proofs.Common.{nat_lt, Some, true, ◌⊎◌, inl, ◌≡◌, ◌∷◌, List, [], length, drop, fold, sym, subst, ◌∙◌, ap, refl, manually_drop_value, Op, op_of, added, refusal, applied, Contents}
use Rattle.pref_share.proofs.Common.{first_contents, MayFollow, contents_at, state_at, Published, stamped, HoldsHistory}
use Rattle.pref_share.proofs.Common.{IsAppended, OutOfMemory, length-append, ◌+◌, Bool, ℕ, Option, None, cond, arith, inr, is_change, missing, ended, begins_row, ◌&&◌, outcome, Added, Done, NoRow, NoRoom}
use Rattle.pref_core.specs.State.{needed_after}
use Rattle.pref_core.specs.declared.call.Outcome.{Outcome}
use Rattle.pref_core.specs.Planned.{boxed_op}
use Rattle.pref_core.specs.Indexes.{IsIndexOf, adds}
use Rattle.pref_share.specs.declared.published.Stamp.{Stamp}
use Rattle.pref_share.specs.Book.{ops_of, ops_on}
use Rattle.pref_share.proofs.CallCounts.{few_ops}
use Rattle.pref_share.proofs.HistoryLaws.{legal-more, legal_is_history, ran-append, planned, unplanned}
use Rattle.pref_share.proofs.ViewsLaws.{published_left, published_next}
use Rattle.std.proofs.lemmas.Result.{err_from_is_err_and}
use Rattle.pref_share.proofs.publisher.Publisher.join.Given.{Over}
use Rattle.pref_share.proofs.publisher.Publisher.join.Goals.{After-entries, After-published_store-store, In-Ok}
use Rattle.pref_share.proofs.publisher.Publisher.join.Goals as goal

-- the published store is what the history leaves
store_left : (g : Over) (c : After-published_store-store g) → c.published_store-store.result.now ≡ contents_at g.J.BoardBrand.opening c.self.inside.page.ops
store_left g c = rw (c.published_store-store.ensures, c.deref.ensures) (published_left g.J.BoardBrand.opening g.J.BoardBrand.book (manually_drop_value c.self.inside.writer).desk.shown.value c.self.inside.page.ops c.self.invariant.5 c.self.invariant.4)

-- what was planned is the call of the arguments, and may follow the history
plan : (g : Over) (c : In-Ok g) → c.published_store-store.result.now ≡ contents_at g.J.BoardBrand.opening c.self.inside.page.ops
    → (c.in-Ok.op.client ≡ c.args.client) × (c.in-Ok.op.call.now ≡ c.args.call) × MayFollow g.J.BoardBrand.opening c.self.inside.page.ops (op_of c.in-Ok.op)
plan g c left =
    let (by, what, may) = planned g.J.BoardBrand.opening c.self.inside.page.ops c.published_store-store.result.now c.args.client c.lend-lent.result (op_of c.in-Ok.op) c.self.invariant.2 left c.in-Ok.ensures.state in
    (by, what ∙ c.lend-lent.ensures, may)

-- a call whose outcome is that it added a row adds one
adds_rows : (change : Bool) (lost : Option ℕ) (full some : Bool) (size next_id : ℕ) → adds (cond change (elim lost as (λ _. Outcome) [ Some id ↦ NoRow id | None ↦ cond full (NoRoom size) (cond some (Added next_id) Done) ]) Done) ≡ true → some ≡ true
adds_rows change lost full some size next_id e = grind (arith)

-- a call that joined is not refused
pub returns-clause-refused : goal.returns-clause-refused
returns-clause-refused g c = tt

pub returns-clause-same : goal.returns-clause-same
returns-clause-same g c = tt

pub returns-in-Err-clause-refused : goal.returns-in-Err-clause-refused
returns-in-Err-clause-refused g c =
    let o = g.J.BoardBrand.opening in
    let left = store_left g (goal.at.returns-in-Err-clause-refused g c).After-published_store-store in
    subst (λ (l : List Op). (refusal (state_at o l) c.args.client c.args.call ≡ Some c.in-Err.fault) ⊎ ((c.in-Err.fault ≡ OutOfMemory) × (nat_lt 0 (added c.args.call) ≡ true))) c.self.view_is
    (inl (ap (refusal (state_at o c.self.inside.page.ops) c.args.client) (sym c.lend-lent.ensures) ∙ unplanned o c.self.inside.page.ops c.published_store-store.result.now c.args.client c.lend-lent.result c.in-Err.fault c.self.invariant.2 left c.in-Err.ensures.state))

-- the stamp of the call
abbrev stamp_of : (g : Over) → After-entries g → Stamp
stamp_of g c = record {
  op = record { client = c.in-Ok.op.client; number = c.in-Ok.op.number; call = c.args.call; slots = c.in-Ok.op.slots; outcome = c.in-Ok.op.outcome };
  len = c.published.result.now.len + 1;
  seen = c.entries.result;
}

-- it shows the history with the call, and leaves the published store as what that history leaves
stamps : (g : Over) (c : After-entries g) → c.in-Ok.op.call.now ≡ c.args.call → MayFollow g.J.BoardBrand.opening c.self.inside.page.ops (op_of c.in-Ok.op)
    → (ops_of c.entries.result.log ≡ c.add.new.self.ops) × HoldsHistory (first_contents g.J.BoardBrand.opening) g.J.BoardBrand.book (stamped (manually_drop_value c.self.inside.writer).desk.shown.value (stamp_of g c))
stamps g c what may =
    let op = c.in-Ok.op in
    let stamp = stamp_of g c in
    let boxed : op_of op ≡ boxed_op stamp.op = λ i. record { client = op.client; number = op.number; call = what i; slots = op.slots; outcome = op.outcome } in
    let log : ops_of stamp.seen.log ≡ c.add.new.self.ops = ap (λ n. ops_on n c.entries.result.log) (sym (c.add.ensures.same.0 ∙ c.self.invariant.0)) ∙ c.entries.ensures.all in
    let len : stamp.len ≡ length (ops_of stamp.seen.log) = omega (arith, ap (λ (p : Published). p.len) (c.published.ensures ∙ ap (λ w. w.desk.shown.value) c.deref-2.ensures), c.self.invariant.5.len, ap length c.self.invariant.4, ap length log, ap length c.add.ensures.added, length-append c.self.inside.page.ops (op_of op ∷ [])) in
    (log, published_next g.J.BoardBrand.opening g.J.BoardBrand.book _ stamp (op_of op) c.self.inside.page.ops boxed c.self.invariant.2 c.self.invariant.4 c.self.invariant.5 may (log ∙ c.add.ensures.added) len (c.entries.ensures.book ∙ c.add.ensures.same.1 ∙ c.self.invariant.1))

pub replace_with-requires : goal.replace_with-requires
replace_with-requires g c =
    let at = goal.at.replace_with-requires g c in
    let plan = plan g at.In-Ok (store_left g at.After-published_store-store) in
    rw (c.deref_mut-2.ensures.value, c.append.ensures.desk, c.append.ensures.pending, c.deref_mut.ensures.value, c.self.invariant.7) (c.self.invariant.6, (stamps g at.After-entries plan.1 plan.2).1)

pub invariant_of-self-2 : goal.invariant_of-self-2
invariant_of-self-2 g c =
    let o = g.J.BoardBrand.opening in
    let at = goal.at.invariant_of-self-2 g c in
    let left = store_left g at.After-published_store-store in
    let x = (manually_drop_value c.self.inside.writer).desk.shown.value in
    let op = c.in-Ok.op in
    let stamp = stamp_of g at.After-entries in
    let plan = plan g at.In-Ok left in
    let (log, stands) = stamps g at.After-entries plan.1 plan.2 in
    let folded : fold stamped c.deref_mut-2.result.now.desk.shown.value (drop c.deref_mut-2.result.now.behind c.deref_mut-2.result.now.log.items) ≡ stamped x stamp =
    rw (c.deref_mut-2.ensures.value, c.append.ensures.desk, c.append.ensures.pending, c.deref_mut.ensures.value, c.self.invariant.7) refl in
    let shown : c.replace_with.new.dest.desk.shown.value ≡ stamped x stamp = c.replace_with.ensures.1 ∙ folded in
    let store : applied c.published_store-store.result.now (op_of op) ≡ contents_at o c.add.new.self.ops =
    ap (λ (s : Contents). applied s (op_of op)) left ∙ sym (ran-append (first_contents o) c.self.inside.page.ops (op_of op ∷ [])) ∙ ap (contents_at o) (sym c.add.ensures.added) in (
      c.add.ensures.same.0 ∙ c.self.invariant.0,
      c.add.ensures.same.1 ∙ c.self.invariant.1,
      rw c.add.ensures.added (legal-more o c.self.inside.page.ops (op_of op) c.self.invariant.2 plan.2),
      subst (λ (s : Contents). IsIndexOf s c.reindex.new.index) store c.in_ok-reindex.ensures.after,
      ap (λ (p : Published). ops_of p.seen.log) shown ∙ log,
      subst (HoldsHistory (first_contents o) g.J.BoardBrand.book) (sym shown) stands,
      rw (c.replace_with.ensures.0, c.deref_mut-2.ensures.value, c.append.ensures.desk, c.deref_mut.ensures.value) c.self.invariant.6,
      c.replace_with.ensures.2,
    )

pub returns-clause-joined : goal.returns-clause-joined
returns-clause-joined g c =
    let o = g.J.BoardBrand.opening in
    let plan = plan g (goal.at.returns-clause-joined g c).In-Ok (store_left g (goal.at.returns-clause-joined g c).After-published_store-store) in
    subst (λ (l : List Op). IsAppended o l c.args.client c.args.call c.in-Ok.op.outcome c.add.new.self.ops) c.self.view_is
    (record { op = op_of c.in-Ok.op; by = plan.0; what = plan.1; outcome = refl; may = plan.2; ends = c.add.ensures.added })

pub returns-in_err-reindex-clause-refused : goal.returns-in_err-reindex-clause-refused
returns-in_err-reindex-clause-refused g c =
    let o = g.J.BoardBrand.opening in
    let plan = plan g (goal.at.returns-in_err-reindex-clause-refused g c).In-Ok (store_left g (goal.at.returns-in_err-reindex-clause-refused g c).After-published_store-store) in
    let state = state_at o c.self.inside.page.ops in
    let capacity = length (contents_at o c.self.inside.page.ops).slots in
    let call = c.args.call in
    let is : c.in-Ok.op.outcome ≡ outcome capacity state call = plan.2.next.outcome ∙ ap (outcome capacity state) plan.1 in
    let some = adds_rows (is_change call) (missing (ended call) state.table) (begins_row call && nat_lt capacity (needed_after state call)) (nat_lt 0 (added call)) (needed_after state call) state.next_id (ap adds (sym is) ∙ c.in_err-reindex.ensures.refused) in
    let p = err_from_is_err_and c.from_residual.result c.from_residual.ensures.1 in
    rw (p.1, p.2) (inr (refl, some))

pub overflow_add-len : goal.overflow_add-len
overflow_add-len g c =
    let o = g.J.BoardBrand.opening in
    let legal = c.self.invariant.2 in
    let few = few_ops o.limits.capacity o.limits.clients _ c.self.inside.page.ops refl legal.allowed.clients.1 (legal_is_history o c.self.inside.page.ops legal) in
    omega (arith, few, ap (λ (p : Published). p.len) (c.published.ensures ∙ ap (λ w. w.desk.shown.value) c.deref-2.ensures), c.self.invariant.5.len, ap length c.self.invariant.4)
