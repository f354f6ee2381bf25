-- `thaw` makes the box of the pointer again.
use Rattle.std.specs.Prelude.{Option, None, Some, IsSome}
use Rattle.prefq_c.specs.Held.{held}
use Rattle.std.proofs.Common.{arith, ◌≡◌, List, [], ◌∷◌, ◌++◌, refl, sym, ap, ◌∙◌, subst}
use mir.Syntax.{dnil, tcons, tnil, impl}
use mir.Raw.{raw as bare}
use mir.Val.{Val, vptr, vstruct, vcons, vnil, of_list, has_ty, WT}
use lib.Dec.{T}
use base.Fraction.{full_share}
use base.Logic.{SProp, ent, emp, never, id⊢, fst∗}
use base.Fml.{ftrue, flft}
use prog.Wp.{WpFn}
use types.Logic.{sem}
use types.Kit.{‵, raw, ◌⊛◌, some, later, at_ret, ◌$◌, ◌∵◌, !, qed, by, move, keep, drop, split, split3, join, fsplit, fjoin, fjoin3, fpick, pick, suffices, use0, use1, await, rewrite, feq_i, feq_l}
use types.Run.{stop, fld, of_opd, no_more, and_then, first, blocks, exec, returns, enter}
use types.ByLocal.{alloc_all, pass_all, free_all, look_at, get, get_in, sets, lands_last, is, env}
use types.Part.{sub, whole}
use contract.Monad.{fact, fact_i}
use contract.BorrowLft.{◌⊑◌, ⊑_static}
use contract.Lifetimes.{Lfts}
use contract.Running.{tables}
use denote.Exit.{no, yes}
use denote.RattleType.{RattleType, owns}
use denote.Signature.{plain}
use denote.RawPtr.{Ptr, block_ptr, null_ptr, ptr_val, in_a_block}
use denote.Steps.{nothing, only, heard}
use denote.Param.{arg, layout}
use denote.Param.Laws.{Laws, arg_laws}
use denote.Param.NoDrop as NoDrop
use denote.Triple.Clauses.{Lasts, lasts}
use denote.Triple.Spec.{triple_of}
use denote.Triple.Call.{calls_at_last}
use denote.Triple.Walked.{Stays, stay_dropped, walk_of, Goes-dropped}
use Rattle.core.proofs.alloc.Calls.{token, handle_tells}
use Rattle.core.proofs.atomic.Steps.{fm, tail}
use Rattle.std_alloc.specs.Box.Ownership.{box_owns}
use Rattle.std_alloc.proofs.BoxSteps.Form as box
use Rattle.std_alloc.proofs.BoxSteps.Steps.{box_out, box_in}
use Rattle.std.proofs.raw_atomic.Walks.{proved_at, leaves}
use Rattle.std.specs.contracts.alloc.Global as Global
use Rattle.std.proofs.alloc.Global.TheLaws as GL
use Rattle.std.specs.contracts.impls.GlobalAllocator.TheImpl as TheImpl
use Rattle.std.proofs.impls.GlobalAllocator.TheImpl.Met as allocator
use Rattle.prefq_c.specs.contracts.table.Table as Table
use Rattle.prefq_c.specs.contracts.handle.Handle as Handle
use Rattle.prefq_c.proofs.table.Table.TheLaws as TL
use Rattle.std_alloc.specs.contracts.boxed.Box.from_raw as callee
use Rattle.std_alloc.proofs.boxed.Box.from_raw.Met.{met}
use Rattle.prefq_c.specs.contracts.handle.thaw.{ended, clauses}
use Rattle.prefq_c.specs.contracts.handle.thaw.Key.{name as #self}
use Rattle.prefq_c.proofs.handle.thaw.Statement.{statement}
use Rattle.prefq_c.proofs.handle.thaw.Code as code
use Rattle.prefq_c.proofs.Destruct++none.drop.Code as none_code

some_of : {X : Type 0} (o : Option X) → IsSome o → (x : X) × (o ≡ Some x)
some_of (Some x) given = (x, refl)
some_of None given = grind arith

pub thaw_spec : {M : Type 1} → statement M
unfolding none_code.code
thaw_spec {M = M} 𝓤 𝓛 𝓜 𝓡 wired =
    let H = 𝓛.H in let 𝓣 = tables 𝓤 H 𝓜 𝓡 𝓡.env in let En = ended in let c = clauses 𝓛 𝓜.mem 𝓡.returns in
    let X : RattleType = arg (bare (layout Table.the_row)) no Table.the_row in let LX : Laws X = arg_laws (bare (layout Table.the_row)) no Table.the_row TL.the_row_laws refl in
    let A : RattleType = arg (bare (layout Global.the_row)) no Global.the_row in let LA : Laws A = arg_laws (bare (layout Global.the_row)) no Global.the_row GL.the_row_laws refl in
    let none = impl ("prefq_c::Destruct++none::drop" ∷ []) (tcons (layout A) tnil) dnil in
    let E : box.Bx = record { row = X; laws = LX; al = record { row = A; laws = LA; g = TheImpl.ghosts; d = TheImpl.dict; drops = none } } in
    let G : RattleType = Global.the_row in let Hd : RattleType = Handle.the_row in let fn = code.function in
    let hs : Stays En.signature.params En.kept = (stay_dropped (plain (λ _. G)) yes, (stay_dropped (plain (λ _. Hd)) yes, tt)) in
    proved_at 𝓛 En hs c 𝓜 𝓡 (Goes-dropped 𝓛 0 (plain (λ _. G)) yes (λ κs x f. refl), (Goes-dropped 𝓛 0 (plain (λ _. Hd)) yes (λ κs x f. refl), tt)) #self fn (code.unfolded 𝓤 H 𝓜 𝓡 wired) (λ z are.
    let a : G.Denot = z.0.3.0 in let v : Hd.Denot = z.0.3.1.0 in let p : Ptr = v.at in let B : RattleType = box.B E in
    let Post : Val → SProp 𝓤 = (walk_of 𝓛 En hs c).post z in let Run : List Val → SProp 𝓤 = λ ws. WpFn 𝓤 H 𝓣.C 𝓣.Λ fn ws Post in
    let Made = triple_of 𝓛 (callee.signature X A TheImpl.ghosts TheImpl.dict none) (callee.spec X A TheImpl.ghosts TheImpl.dict none 𝓛 𝓜.mem 𝓡.returns) in let Ce = callee.ended X A TheImpl.ghosts TheImpl.dict none in
    let known = met 𝓤 𝓛 𝓜 𝓡 (code.calls-std_alloc::boxed::Box::from_raw 𝓡.env wired) X A LX LA TheImpl.ghosts TheImpl.dict none
    (allocator.passed 𝓡.env (code.calls-std_heap::GlobalAllocator::allocate 𝓡.env wired) (code.calls-std_heap::GlobalAllocator::deallocate 𝓡.env wired) (code.calls-std_heap::GlobalAllocator::grow 𝓡.env wired) (code.calls-std_heap::GlobalAllocator::shrink 𝓡.env wired) M 𝓤 𝓛 𝓜 𝓡)
    (NoDrop.glues "prefq_c::Destruct++none::drop" 𝓡.env (code.calls-prefq_c::Destruct++none::drop 𝓡.env wired) A LA M 𝓤 𝓛 𝓜 𝓡) in
    let t = ‵ (flft [] full_share) in
    qed 𝓛 ((‵ ftrue ⊛ ‵ (owns (G ∷ Hd ∷ []) z.0.3 z.0.4)) ∷ raw (fact 𝓤 (IsSome v.value)) ∷ []) ∵ move ! (1 ∷ []) $ heard ! (IsSome v.value) (λ is_some. let found : (x : box.X E) × (v.value ≡ Some x) = some_of v.value is_some in let x : box.X E = found.0 in split ! $ move ! (1 ∷ []) $ fsplit ! $ move ! (1 ∷ []) $ fsplit ! $ fsplit ! $
    fpick ! (λ vss. fsplit ! $ feq_l ! (λ ev. fsplit ! $ feq_l ! (λ ep. drop ! $ rewrite ! 0 (λ (held_value : Option (box.X E)). ‵ (held Table.the_row p held_value)) found.1 refl $
    in_a_block ! p (λ q. box_owns (token E.al a) (box.R E) q x) (fst∗ 𝓤 (never 𝓤) (sem 𝓛 (token E.al a (bare (box.τ E)) null_ptr))) (λ b o e. move ! (2 ∷ []) $ handle_tells E.al ! a z.0.4.0 (λ hv ea fa.
    let w : Val = vstruct (vcons (vptr b o) vnil) in let us : List Val = hv ∷ w ∷ [] in let q : Ptr = block_ptr b o in
    let eh : z.0.4.1.0 ≡ w ∷ [] = ev ∙ (λ j. vstruct (of_list ((ep ∙ ap (λ (π : Ptr). ptr_val π ∷ []) e) j ++ [])) ∷ []) in
    suffices ! (Run us) (subst (λ (ws : List Val). ent 𝓤 (Run us) (Run ws)) (sym (λ i. ea i ++ (eh i ++ []))) (id⊢ 𝓤 (Run us))) $ keep ! (1 ∷ 0 ∷ []) $
    -- [the box in memory; the handle of its allocator]
    enter ! 𝓣.C 𝓣.Λ fn us Post $ alloc_all ! (λ l. pass_all ! refl (fa, ((tt, (tt, tt)), tt)) $ let Ev = env fn.locals l in
    sets ! (of_opd ! (get_in ! (fld ! refl (stop !)) (sub ! 0 refl (whole !)))) refl (tt, tt) $
    first ! $ blocks ! $ sets ! (of_opd ! (get ! refl)) refl (tt, tt) $
    let κs : Lfts 2 = ([], ([], tt)) in let inA = [] ⊑ A.lives in let inX = [] ⊑ X.lives in let y : Made.Ghost = ((κs, (full_share, (full_share, tt)), tt, (a, (q, tt)), (hv ∷ [], (vptr b o ∷ [], tt))), x) in
    nothing ! $ use0 𝓛 t (𝓛.lfts.lft-nil full_share) $ join ! $ use0 𝓛 t (𝓛.lfts.lft-nil full_share) $ join ! $ move ! (1 ∷ 2 ∷ 0 ∷ []) $
    use0 𝓛 (raw (fact 𝓤 inA)) (fact_i 𝓤 inA (emp 𝓤) (⊑_static [])) $ join ! $ use0 𝓛 (raw (fact 𝓤 inX)) (fact_i 𝓤 inX (emp 𝓤) (⊑_static [])) $ join ! $
    nothing ! $ feq_i ! (List Val) (vptr b o ∷ []) (ptr_val q ∷ []) refl $ move ! (3 ∷ 0 ∷ 1 ∷ []) $ fjoin3 ! $ move ! (2 ∷ 0 ∷ []) $ join ! $ join ! $ use1 𝓛 (raw (Made.pre y)) (id⊢ 𝓤 _) $
    calls_at_last ! (fm 𝓛 𝓜 𝓡) Made known y (and_then ! (get ! refl) (and_then ! (get ! refl) (no_more !))) (λ u.
    use1 𝓛 (later (some (λ (r : B.Denot). ((t ⊛ t ⊛ ‵ ftrue) ⊛ ‵ (B.own_val r (u ∷ []))) ⊛ some (λ (ws : Lasts Ce κs (a, (q, tt))). ‵ (lasts Ce κs (a, (q, tt)) ws) ⊛ (raw (fact 𝓤 (r.value ≡ x)) ⊛ raw (fact 𝓤 (r.alloc ≡ a))))))) (id⊢ 𝓤 _) $
    await ! tt $ pick ! (λ r. split ! $ move ! (1 ∷ []) $ pick ! (λ _. split3 ! $ drop ! $ move ! (1 ∷ []) $ drop ! $ heard ! (r.value ≡ x) (λ same. split ! $ move ! (1 ∷ []) $
    box_out E ! r (u ∷ []) (λ b' o' hw e' eu fw. box_in E ! r b' o' r.value e' refl $ let w' : Val = box.word E hw b' o' in let typed' = box.box_typed E hw b' o' fw in let is_word : u ≡ w' = ap only eu in
    lands_last ! refl (subst (λ (s : Val). T (has_ty (box.box_ty E) s) × WT s) (sym is_word) typed') $ exec ! 𝓣.C 𝓣.Λ Ev (tail (tail fn.body)) (at_ret Ev Post) $ sets ! (is ! (of_opd ! (get ! refl)) is_word) refl typed' $
    use0 𝓛 (raw (fact 𝓤 (v.value ≡ Some r.value))) (fact_i 𝓤 (v.value ≡ Some r.value) (emp 𝓤) (found.1 ∙ ap Some (sym same))) $ nothing ! $ nothing ! $ fjoin ! $ nothing ! $ fjoin ! $ nothing ! $
    returns ! (look_at ! 0 refl) $ free_all ! refl $ keep ! (0 ∷ 1 ∷ 3 ∷ 2 ∷ []) $ by ! (leaves 𝓛 En hs c z w' r (tt, (tt, tt)) (tt, (tt, tt))))))))))))))))
