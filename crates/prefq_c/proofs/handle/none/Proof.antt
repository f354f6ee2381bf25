-- A handle of nothing.
use Rattle.std.specs.Prelude.{None}
use Rattle.std.proofs.Common.{arith, ◌<◌, ◌^◌, ◌≡◌, List, [], ◌∷◌, refl}
use mir.Val.{Val, vstruct, vcons, vnil}
use base.Logic.{SProp, emp}
use base.Fml.{ftrue}
use types.Kit.{‵, raw, ◌⊛◌, ◌$◌, ◌∵◌, !, qed, by, keep, fjoin, fpack, use0, feq_i}
use types.Run.{no_more, and_then, lit, returns, enter}
use types.ByLocal.{alloc_all, pass_all, free_all, look_at, sets}
use types.Part.{agg}
use contract.Monad.{fact, fact_i}
use contract.Running.{tables}
use denote.RattleType.{RattleType, Valss, owns}
use denote.Struct.Struct.{within}
use denote.Struct.Owning.{shape}
use denote.Builtin.{RawPtr}
use denote.RawPtr.{null_ptr, ptr_val}
use denote.Steps.{nothing, only}
use denote.Triple.Walked.{Stays, walk_of}
use Rattle.std.proofs.raw_atomic.Walks.{proved_at, leaves}
use Rattle.prefq_c.specs.contracts.handle.Handle as Handle
use Rattle.prefq_c.specs.contracts.handle.none.{ended, clauses}
use Rattle.prefq_c.specs.contracts.handle.none.Key.{name as #self}
use Rattle.prefq_c.proofs.handle.none.Statement.{statement}
use Rattle.prefq_c.proofs.handle.none.Code as code

pub none_spec : {M : Type 1} → statement M
none_spec {M = M} 𝓤 𝓛 𝓜 𝓡 wired =
    let H = 𝓛.H in let 𝓣 = tables 𝓤 H 𝓜 𝓡 𝓡.env in let En = ended in let c = clauses 𝓛 𝓜.mem 𝓡.returns in let fn = code.function in let Hd : RattleType = Handle.the_row in
    let hs : Stays En.signature.params En.kept = tt in
    proved_at 𝓛 En hs c 𝓜 𝓡 tt #self fn (code.unfolded 𝓤 H 𝓜 𝓡 wired) (λ z are.
    let small : 0 < 2 ^ 64 = omega arith in let Post : Val → SProp 𝓤 = (walk_of 𝓛 En hs c).post z in let out : Val = vstruct (vcons (only (ptr_val null_ptr ∷ [])) vnil) in let made : Hd.Denot = record { at = null_ptr; value = None } in
    qed 𝓛 ((‵ ftrue ⊛ ‵ (owns [] z.0.3 z.0.4)) ∷ ‵ ftrue ∷ []) ∵ keep ! [] $
    enter ! 𝓣.C 𝓣.Λ fn [] Post $ alloc_all ! (λ l. pass_all ! refl tt $ sets ! (agg ! (and_then ! (lit ! tt) (no_more !))) refl (tt, (record { fits = small }, tt)) $
    nothing ! $ nothing ! $ feq_i ! (List Val) (ptr_val null_ptr ∷ []) (ptr_val null_ptr ∷ []) refl $ fjoin ! $ feq_i ! (List Val) (out ∷ []) (out ∷ []) refl $ fjoin ! $
    fpack ! (Valss (RawPtr ∷ [])) (within (shape Handle.the_type) (null_ptr, tt) (out ∷ [])) (ptr_val null_ptr ∷ [], tt) $ fjoin ! $
    use0 𝓛 (raw (fact 𝓤 (made.value ≡ None))) (fact_i 𝓤 (made.value ≡ None) (emp 𝓤) refl) $ nothing ! $ nothing ! $
    returns ! (look_at ! 0 refl) $ free_all ! refl $ keep ! (0 ∷ 1 ∷ 3 ∷ 2 ∷ []) $ by ! (leaves 𝓛 En hs c z out made tt tt)))
