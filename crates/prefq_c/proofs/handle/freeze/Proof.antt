-- `freeze` keeps the pointer of the box.
use Rattle.std.specs.Prelude.{Some}
use Rattle.std.proofs.Common.{◌≡◌, List, [], ◌∷◌, ◌++◌, refl, sym, ap, ◌∙◌, subst}
use mir.Syntax.{dnil, tcons, tnil, impl, method}
use mir.Raw.{raw as bare}
use mir.Val.{Val, vptr, vstruct, vcons, vnil}
use base.Fraction.{full_share}
use base.Logic.{SProp, ent, emp, never, id⊢, fst∗}
use base.Fml.{ftrue, flft}
use prog.Wp.{WpFn}
use types.Logic.{sem}
use types.Kit.{‵, raw, ◌⊛◌, some, later, ◌$◌, ◌∵◌, !, qed, by, move, keep, drop, split, join, fsplit, fjoin, fpack, pick, suffices, use0, use1, await, feq_i, feq_l}
use types.Run.{of_opd, no_more, and_then, returns, enter}
use types.ByLocal.{alloc_all, pass_all, free_all, look_at, get, sets, lands_as}
use types.Part.{agg}
use contract.Monad.{fact, fact_i}
use contract.BorrowLft.{◌⊑◌, ⊑_static}
use contract.Lifetimes.{Lfts}
use contract.Running.{tables}
use denote.Exit.{no, yes}
use denote.RattleType.{RattleType, Valss, owns}
use denote.Struct.Struct.{within}
use denote.Struct.Owning.{shape}
use denote.Signature.{plain}
use denote.Builtin.{RawPtr}
use denote.RawPtr.{Ptr, block_ptr, null_ptr, ptr_val, in_a_block}
use denote.Steps.{nothing, only}
use denote.Param.{arg, param, layout}
use denote.Param.Laws.{Laws, arg_laws}
use denote.Param.NoDrop as NoDrop
use denote.Triple.Clauses.{Lasts, lasts, at_exit}
use denote.Triple.Carry as Carry
use denote.Triple.Walked as Walked
use denote.Triple.Clauses as Clauses
use denote.Param.Mute as Mute
use denote.Param.{layouts}
use denote.Param.Laws.{param_laws}
use borrow.Fn.Glue as Glue
use borrow.Fn.Impl as Impl
use borrow.Fn.Kinds as Kinds
use borrow.Fn.Run as FnRun
use borrow.Kind.Owned as Owned
use Rattle.prefq_c.proofs.prefq_c++table++Table+Destruct.drop.Kinds as drop_kinds
use Rattle.prefq_c.proofs.prefq_c++table++Table+Destruct.drop.Met as drop_met
use Rattle.prefq_c.proofs.prefq_c++table++Table+Destruct.drop.Reads as drop_reads
use Rattle.prefq_c.proofs.prefq_c++table++Table+Destruct.drop.Symbol as drop_symbol
use denote.Triple.Spec.{triple_of}
use denote.Triple.Call.{calls_at}
use denote.Triple.Walked.{Stays, stay_dropped, walk_of, Goes-dropped}
use Rattle.core.proofs.alloc.Calls.{token}
use Rattle.core.proofs.atomic.Steps.{fm}
use Rattle.std_alloc.specs.Box.Ownership.{box_owns}
use Rattle.std_alloc.proofs.BoxSteps.Form as box
use Rattle.std_alloc.proofs.BoxSteps.Steps.{box_out, box_in}
use Rattle.std.proofs.raw_atomic.Walks.{proved_at, leaves}
use Rattle.std.specs.contracts.alloc.Global as Global
use Rattle.std.proofs.alloc.Global.TheLaws as GL
use Rattle.std.specs.contracts.impls.GlobalAllocator.TheImpl as TheImpl
use Rattle.std.proofs.impls.GlobalAllocator.TheImpl.Met as allocator
use Rattle.prefq_c.specs.contracts.table.Table as Table
use Rattle.std_alloc.specs.contracts.boxed.Box as Box
use Rattle.prefq_c.specs.contracts.handle.Handle as Handle
use Rattle.prefq_c.proofs.table.Table.TheLaws as TL
use Rattle.std_alloc.specs.contracts.boxed.Box.into_raw as callee
use Rattle.std_alloc.proofs.boxed.Box.into_raw.Met.{met}
use Rattle.prefq_c.specs.contracts.handle.freeze.{ended, clauses}
use Rattle.prefq_c.specs.contracts.handle.freeze.Key.{name as #self}
use Rattle.prefq_c.proofs.handle.freeze.Statement.{statement}
use Rattle.prefq_c.proofs.handle.freeze.Code as code
use Rattle.prefq_c.proofs.Destruct++none.drop.Code as none_code

pub freeze_spec : {M : Type 1} → statement M
unfolding none_code.code
freeze_spec {M = M} 𝓤 𝓛 𝓜 𝓡 wired =
    let H = 𝓛.H in let 𝓣 = tables 𝓤 H 𝓜 𝓡 𝓡.env in let En = ended in let c = clauses 𝓛 𝓜.mem 𝓡.returns in
    let X : RattleType = arg (bare (layout Table.the_row)) no Table.the_row in let LX : Laws X = arg_laws (bare (layout Table.the_row)) no Table.the_row TL.the_row_laws refl in
    let A : RattleType = arg (bare (layout Global.the_row)) no Global.the_row in let LA : Laws A = arg_laws (bare (layout Global.the_row)) no Global.the_row GL.the_row_laws refl in
    let none = impl ("prefq_c::Destruct++none::drop" ∷ []) (tcons (layout A) tnil) dnil in let drops = impl ("prefq_c::prefq_c++table++Table+Destruct::drop" ∷ []) tnil dnil in
    let E : box.Bx = record { row = X; laws = LX; al = record { row = A; laws = LA; g = TheImpl.ghosts; d = TheImpl.dict; drops = none } } in
    let Bc : RattleType = Box.the_row Table.the_row Global.the_row TheImpl.ghosts in let Hd : RattleType = Handle.the_row in let fn = code.function in
    let hs : Stays En.signature.params En.kept = (stay_dropped (plain (λ _. Bc)) yes, tt) in
    proved_at 𝓛 En hs c 𝓜 𝓡 (Goes-dropped 𝓛 0 (plain (λ _. Bc)) yes (λ κs x f. refl), tt) #self fn (code.unfolded 𝓤 H 𝓜 𝓡 wired) (λ z are.
    let v : Bc.Denot = z.0.3.0 in let a : A.Denot = v.alloc in let x : X.Denot = v.value in
    let Post : Val → SProp 𝓤 = (walk_of 𝓛 En hs c).post z in let Run : List Val → SProp 𝓤 = λ ws. WpFn 𝓤 H 𝓣.C 𝓣.Λ fn ws Post in
    let Parts = triple_of 𝓛 (callee.signature X A TheImpl.ghosts TheImpl.dict none drops) (callee.spec X A TheImpl.ghosts TheImpl.dict none drops 𝓛 𝓜.mem 𝓡.returns) in let Ce = callee.ended X A TheImpl.ghosts TheImpl.dict none drops in
    let known = met 𝓤 𝓛 𝓜 𝓡 (code.calls-std_alloc::boxed::Box::into_raw 𝓡.env wired) X A LX LA TheImpl.ghosts TheImpl.dict none drops
    (allocator.passed 𝓡.env (code.calls-std_heap::GlobalAllocator::allocate 𝓡.env wired) (code.calls-std_heap::GlobalAllocator::deallocate 𝓡.env wired) (code.calls-std_heap::GlobalAllocator::grow 𝓡.env wired) (code.calls-std_heap::GlobalAllocator::shrink 𝓡.env wired) M 𝓤 𝓛 𝓜 𝓡)
    (NoDrop.glues "prefq_c::Destruct++none::drop" 𝓡.env (code.calls-prefq_c::Destruct++none::drop 𝓡.env wired) A LA M 𝓤 𝓛 𝓜 𝓡)
    (Glue.glue_by X LX record { M = M; 𝓤 = 𝓤; 𝓛 = 𝓛; 𝓜 = 𝓜; 𝓡 = 𝓡 } drops 𝓡.env
    (λ κs a. Clauses.Lasts (Kinds.ended_of 0 drop_kinds.ps drop_kinds.r) tt a) (λ κs a. Clauses.lasts (Kinds.ended_of 0 drop_kinds.ps drop_kinds.r) tt a)
    (λ κs a x ws. Walked.Fit (Kinds.ended_of 0 drop_kinds.ps drop_kinds.r) (Kinds.stays drop_kinds.ps) tt a ws × drop_reads.Learnt tt a x (Clauses.at_exit (Kinds.ended_of 0 drop_kinds.ps drop_kinds.r) tt a ws))
    (λ κs a. Carry.AllWithin 1 (κs.0, tt) (X.lives, tt) × Unit {0}) 0 tt (λ κs a h. ((h, tt), tt))
    (Impl.via_longer 𝓛 (FnRun.Over 𝓛 𝓜 𝓡 𝓡.env) 1
    (Owned.p_owned (param 0 X) refl no (Mute.Mute-seen λ x. tt) (λ M 𝓤 𝓛. (param_laws 0 X LX).lawful 𝓛) ∷ []) Kinds.r_unit
    (λ κs a. Clauses.Lasts (Kinds.ended_of 0 drop_kinds.ps drop_kinds.r) tt a) (λ κs a. Clauses.lasts (Kinds.ended_of 0 drop_kinds.ps drop_kinds.r) tt a)
    (λ κs a x ws. Walked.Fit (Kinds.ended_of 0 drop_kinds.ps drop_kinds.r) (Kinds.stays drop_kinds.ps) tt a ws × drop_reads.Learnt tt a x (Clauses.at_exit (Kinds.ended_of 0 drop_kinds.ps drop_kinds.r) tt a ws))
    (λ κs a. Carry.AllWithin 1 (κs.0, tt) (X.lives, tt) × Unit {0})
    (method drops 0 (layouts [] tt)) 0 tt (λ κs. tt) (λ κs a. drop_reads.Asked tt a) (λ κs a p. (tt, tt))
    λ κs bd within a vss qs. Impl.method_Known 0 drop_kinds.ps drop_kinds.r drop_reads.requires drop_reads.ensures drop_reads.Asked drop_reads.Learnt drop_reads.known
    record { M = M; 𝓤 = 𝓤; 𝓛 = 𝓛; 𝓜 = 𝓜; 𝓡 = 𝓡 } drop_symbol.name (method drops 0 (layouts [] tt))
    (drop_symbol.as_method 𝓡.env (code.calls-prefq_c::prefq_c++table++Table+Destruct::drop 𝓡.env wired) (method drops 0 (layouts [] tt)) refl)
    (drop_met.met 𝓤 𝓛 𝓜 𝓡 (code.calls-prefq_c::prefq_c++table++Table+Destruct::drop 𝓡.env wired)) ((tt, qs, tt, a, vss), tt))) in
    let t = ‵ (flft [] full_share) in let κs : Lfts 2 = ([], ([], tt)) in let inA = [] ⊑ A.lives in let inX = [] ⊑ X.lives in
    qed 𝓛 ((‵ ftrue ⊛ ‵ (owns (Bc ∷ []) z.0.3 z.0.4)) ∷ ‵ ftrue ∷ []) ∵ split ! $ move ! (1 ∷ []) $ fsplit ! $
    box_out E ! v z.0.4.0 (λ b o hv e ws fa. box_in E ! v b o x e refl $ keep ! (0 ∷ []) $
    let w : Val = box.word E hv b o in let typed = box.box_typed E hv b o fa in let y : Parts.Ghost = ((κs, (full_share, (full_share, tt)), tt, (v, tt), (w ∷ [], tt)), tt) in
    suffices ! (Run (w ∷ [])) (subst (λ (us : List Val). ent 𝓤 (Run (w ∷ [])) (Run us)) (sym (λ i. ws i ++ [])) (id⊢ 𝓤 (Run (w ∷ [])))) $
    -- [the box]
    enter ! 𝓣.C 𝓣.Λ fn (w ∷ []) Post $ alloc_all ! (λ l. pass_all ! refl (typed, tt) $ sets ! (of_opd ! (get ! refl)) refl typed $
    nothing ! $ move ! (1 ∷ 0 ∷ []) $ fjoin ! $
    nothing ! $ use0 𝓛 t (𝓛.lfts.lft-nil full_share) $ join ! $ use0 𝓛 t (𝓛.lfts.lft-nil full_share) $ join ! $ join ! $
    nothing ! $ use0 𝓛 (raw (fact 𝓤 inA)) (fact_i 𝓤 inA (emp 𝓤) (⊑_static [])) $ join ! $ use0 𝓛 (raw (fact 𝓤 inX)) (fact_i 𝓤 inX (emp 𝓤) (⊑_static [])) $ join ! $ move ! (1 ∷ 0 ∷ []) $ join ! $ use1 𝓛 (raw (Parts.pre y)) (id⊢ 𝓤 _) $
    calls_at ! (fm 𝓛 𝓜 𝓡) Parts known y (and_then ! (get ! refl) (no_more !)) (λ u.
    use1 𝓛 (later (some (λ (r : Ptr). ((t ⊛ t ⊛ ‵ ftrue) ⊛ ‵ (RawPtr.own_val r (u ∷ []))) ⊛ some (λ (ws : Lasts Ce κs (v, tt)). ‵ (lasts Ce κs (v, tt) ws) ⊛ ‵ (box_owns (token E.al a) (box.R E) r x))))) (id⊢ 𝓤 _) $
    await ! tt $ pick ! (λ r. split ! $ move ! (1 ∷ []) $ pick ! (λ _. split ! $ drop ! $
    in_a_block ! r (λ p. box_owns (token E.al a) (box.R E) p x) (fst∗ 𝓤 (never 𝓤) (sem 𝓛 (token E.al a (bare (box.τ E)) null_ptr))) (λ b' o' e'.
    move ! (1 ∷ []) $ split ! $ drop ! $ feq_l ! (λ eu. let out : Val = vstruct (vcons (vptr b' o') vnil) in let made : Hd.Denot = record { at = block_ptr b' o'; value = Some x } in
    lands_as ! (ap only (eu ∙ ap (λ (π : Ptr). ptr_val π ∷ []) e')) refl (tt, tt) $ sets ! (of_opd ! (get ! refl)) refl (tt, tt) $ sets ! (agg ! (and_then ! (get ! refl) (no_more !))) refl (tt, (tt, tt)) $
    nothing ! $ feq_i ! (List Val) (vptr b' o' ∷ []) (vptr b' o' ∷ []) refl $ fjoin ! $ feq_i ! (List Val) (out ∷ []) (out ∷ []) refl $ fjoin ! $
    fpack ! (Valss (RawPtr ∷ [])) (within (shape Handle.the_type) (block_ptr b' o', tt) (out ∷ [])) (vptr b' o' ∷ [], tt) $ fjoin ! $
    use0 𝓛 (raw (fact 𝓤 (Some x ≡ Some x))) (fact_i 𝓤 (Some x ≡ Some x) (emp 𝓤) refl) $ nothing ! $ nothing ! $ fjoin ! $ nothing ! $
    returns ! (look_at ! 0 refl) $ free_all ! refl $ keep ! (0 ∷ 1 ∷ 3 ∷ 2 ∷ []) $ by ! (leaves 𝓛 En hs c z out made (tt, tt) (tt, tt))))))))))
