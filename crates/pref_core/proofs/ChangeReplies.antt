-- What a machine returns at each act is the system's reply: refusals of calls, and changes.
use Rattle.pref_core.proofs.Common.{◌≡◌, ℕ, ◌^◌, true, false, cond, nat_lt, List, Option, Some, None, is_some, Ok, Err, Result, inl, inr, refl, sym, ap, ◌∙◌, subst, option_map, Call}
use Rattle.pref_core.proofs.Common.{Outcome, Op, CoreFault, NoSuchClient, OutOfMemory, Spent, Act, Reply, Limits, added, is_change, seat, refusal, refusal_of}
use Rattle.pref_core.proofs.Common.{Open, Member, System, Step, snapshot, state_of, refused, counted_with, changed, change, step, Contents, adds, may_want_memory}
use Rattle.pref_core.proofs.Common.{IsPlan, Plans, applied, Scan, Running, StandsForSystem, Does, is_refusal, Returns, reply_for, step_of, call_of_act, change_of_act, IfErr, op_or_fault, same_Some, arith}
use Rattle.pref_core.specs.declared.call.planned.Planned.{Planned}
use Rattle.pref_core.specs.MachineParts.{numbered}
use Rattle.pref_core.proofs.LegalLaws.{plans_in}
use Rattle.pref_core.proofs.IndexLaws.{adds_planned}
use Rattle.pref_core.proofs.SystemsLaws.{refusal_there, refusal_nobody, IsPlanned, IsPlanned-from, changed_stands}

abbrev pub running_of : Contents → Limits → List (Option Scan) → Running
running_of contents limits scans = record { contents = contents; limits = limits; scans = scans }

-- a refusal that changes nothing
pub refused_returns : (running : Running) (system : System) (right : Step) (act : Act) (fault : CoreFault) → StandsForSystem running system → right ≡ refused fault system → Returns running right act (Err fault) running
refused_returns running system right act fault h is = subst (λ r. Returns running r act (Err fault) running) (sym is) (inl (refl, h))

-- nobody is refused whatever it does
pub nobody_steps : (limits : Limits) (system : System) (client : ℕ) (act : Act) → seat client system.members ≡ None → step limits system (record { client = client; act = act }) ≡ refused NoSuchClient system
nobody_steps limits system client act at = ap (λ (o : Option Member). elim o as (λ x. Step) [ None ↦ refused NoSuchClient system | Some member ↦ step_of limits system client member act member.query ]) at

pub somebody_steps : (limits : Limits) (system : System) (client : ℕ) (act : Act) (member : Member) → seat client system.members ≡ Some member → step limits system (record { client = client; act = act }) ≡ step_of limits system client member act member.query
somebody_steps limits system client act member at = ap (λ (o : Option Member). elim o as (λ x. Step) [ None ↦ refused NoSuchClient system | Some member ↦ step_of limits system client member act member.query ]) at

pub let_in_steps : (member : Member) (system : System) (right : Step) → nat_lt member.calls (2 ^ 56) ≡ true → numbered member system right ≡ right
let_in_steps member system right h = ap (λ b. cond b right (refused Spent system)) h

-- An act is refused as its call is planned.
own_refused : (limits : Limits) (system : System) (client : ℕ) (member : Member) (act : Act) (call : Call) (fault : CoreFault) (q : Option Open) → call_of_act act ≡ Some call
    → refusal_of (Some member.calls) (is_some (option_map snapshot q)) call ≡ Some fault → step_of limits system client member act q ≡ refused fault system
own_refused limits system client member act call fault q is e = grind (arith)

pub refused_does : (old : Running) (client : ℕ) (act : Act) (call : Call) (fault : CoreFault) → call_of_act act ≡ Some call → Plans old.contents client call (Err fault) → Does old client act (Err fault) old
refused_does old client act call fault is plan = record {
  limits = refl;
  returns = λ system h. refused_returns old system _ act fault h (go system (plans_in old.contents (state_of system) client call (Err fault) h.store plan) (seat client system.members) refl);
}
  where
    go : (system : System) → refusal (state_of system) client call ≡ Some fault → (o : Option Member) → seat client system.members ≡ o
        → elim o as (λ x. Step) [ None ↦ refused NoSuchClient system | Some member ↦ step_of old.limits system client member act member.query ] ≡ refused fault system
    go system returned None at = ap (λ f. refused f system) (same_Some NoSuchClient fault (sym (refusal_nobody system client call at) ∙ returned))
    go system returned (Some member) at = own_refused old.limits system client member act call fault member.query is (sym (refusal_there system client member call at) ∙ returned)

-- .. and so are all acts that its plan refuses
pub plan_refuses : (inside old : Running) (client : ℕ) (call : Call) (result : Result Planned CoreFault) → inside ≡ old → Plans inside.contents client call (op_or_fault result)
    → IfErr result (λ (fault : CoreFault). (act : Act) → call_of_act act ≡ Some call → Does old client act (Err fault) old)
plan_refuses inside old client call (Ok op) same plans = tt
plan_refuses inside old client call (Err fault) same plans = λ act is. subst (λ r. Does r client act (Err fault) r) same (refused_does inside client act call fault is plans)

-- an op's plan, by its own client and call
pub own_plan : (inside old : Running) (client : ℕ) (call : Call) (op : Op) → inside ≡ old → IsPlan old.contents client call op → IsPlan inside.contents op.client op.call op
own_plan inside old client call op same plan = subst (λ (r : Running). IsPlan r.contents op.client op.call op) (sym same) (record { by = refl; what = refl; next = plan.next; fits = plan.fits })

-- What comes of a planned change.
change_steps : (limits : Limits) (system : System) (client : ℕ) (member : Member) (act : Act) (call : Call) (done : Reply) (q : Option Open) → change_of_act system.next_id act ≡ Some (call, done)
    → step_of limits system client member act q ≡ numbered member system (change limits system client member call done)
change_steps limits system client member act call done q is = grind (arith)

change_is : (old : Running) (system : System) (client : ℕ) (act : Act) (call : Call) (op : Op) (done : Reply) → change_of_act old.contents.next_id act ≡ Some (call, done) → StandsForSystem old system → (planned : IsPlanned old system client call op)
    → step old.limits system (record { client = client; act = act }) ≡ changed op.outcome done call (counted_with planned.let_in.who.query client planned.let_in.who system)
change_is old system client act call op done is h planned = grind (arith, somebody_steps, change_steps, let_in_steps)

pub is_its_call : (next_id : ℕ) (act : Act) (call : Call) (done : Reply) → change_of_act next_id act ≡ Some (call, done) → call_of_act act ≡ Some call
is_its_call next_id act call done is = grind (arith)

no_refusal : (next_id : ℕ) (act : Act) (call : Call) (done : Reply) → change_of_act next_id act ≡ Some (call, done) → is_refusal done ≡ false
no_refusal next_id act call done is = grind (arith)

pub change_does : (old : Running) (client : ℕ) (act : Act) (call : Call) (op : Op) (done : Reply) → is_change call ≡ true → change_of_act old.contents.next_id act ≡ Some (call, done) → IsPlan old.contents client call op
    → Does old client act (reply_for op.outcome done) (running_of (applied old.contents op) old.limits old.scans)
change_does old client act call op done c is plan = record {
  limits = refl;
  returns = λ system h.
      let planned = IsPlanned-from old system client call op h plan in
      subst (λ r. Returns old r act (reply_for op.outcome done) (running_of (applied old.contents op) old.limits old.scans)) (sym (change_is old system client act call op done is h planned))
      (by_outcome _ op.outcome (no_refusal old.contents.next_id act call done is) (changed_stands old system client call op done c planned));
}
  where
    by_outcome : (counted : System) (o : Outcome) → is_refusal done ≡ false → StandsForSystem (running_of (applied old.contents op) old.limits old.scans) (changed o done call counted).next
        → Returns old (changed o done call counted) act (reply_for o done) (running_of (applied old.contents op) old.limits old.scans)
    by_outcome counted o quiet s = grind (arith)

-- .. or for which there is no memory
pub change_unmade : (old : Running) (client : ℕ) (act : Act) (call : Call) (op : Op) (done : Reply) → change_of_act old.contents.next_id act ≡ Some (call, done) → IsPlan old.contents client call op → adds op.outcome ≡ true → Does old client act (Err OutOfMemory) old
change_unmade old client act call op done is plan adding = record {
  limits = refl;
  returns = λ system h.
      let reply_is = ap (λ (right : Step). is_refusal right.reply) (change_is old system client act call op done is h (IsPlanned-from old system client call op h plan)) in
      inr (refl, wants (subst (λ k. nat_lt 0 (added k) ≡ true) plan.what (adds_planned old.contents op plan.next adding)), reply_is ∙ not_refused _ op.outcome (no_refusal old.contents.next_id act call done is) adding, refl);
}
  where
    wants : nat_lt 0 (added call) ≡ true → may_want_memory act ≡ true
    wants some = grind (arith)

    not_refused : (counted : System) (o : Outcome) → is_refusal done ≡ false → adds o ≡ true → is_refusal (changed o done call counted).reply ≡ false
    not_refused counted o quiet adding = grind (arith)
