-- What a refusal of a client's call is as the reply to an act.
use Rattle.pref_share.proofs.Common.{arith, ◌≡◌, ℕ, true, Some, None, Result, Ok, Err, IfErr, refl, sym, subst, Call, NoRow}
use Rattle.pref_share.proofs.Common.{NoRoom, Act, Scan, Finish, Get, NoSuchRow, OutOfMemory, is_change, ShareFault}
use Rattle.pref_share.proofs.Common.{Core, Closed, Opening, IsLegalFrom, Standing, asks_for_memory, RefusesCall, RefusesChange, RefusesFinish, RefusesScan}
use Rattle.pref_share.proofs.Common.{RefusesGet, Performs, call_of, None}
use Rattle.std.specs.Prelude.{IsErrAnd}
use Rattle.pref_core.specs.declared.fault.CoreFault.TheVariants.{Full}
use Rattle.pref_core.specs.Systems.{may_want_memory}
use Rattle.pref_share.specs.Runs.{reply_or_stop}
use Rattle.pref_share.proofs.ActSteps.{sees_same, refused_by_itself, refused_change, not_done, got, no_query, all_scanned}

-- a call that asks for memory is an act that may
wants_memory : (act : Act) (call : Call) → call_of act ≡ Some call → asks_for_memory call ≡ true → may_want_memory act ≡ true
wants_memory act call e h = grind (arith)

pub change_refused : (o : Opening) (s t : Standing) (act : Act) (call : Call) (fault : ShareFault) → IsLegalFrom o s.seen → is_change call ≡ true → call_of act ≡ Some call → RefusesChange o s call fault t → Performs o s act (reply_or_stop fault) t
change_refused o s t act call (Core (NoSuchRow id)) l c a h = refused_change o s t act call (NoRow id) (NoSuchRow id) h c a (λ done x. refl)
change_refused o s t act call (Core (Full needed)) l c a h = refused_change o s t act call (NoRoom needed) (Full needed) h c a (λ done x. refl)
change_refused o s t act call (Core OutOfMemory) l c a h = (sees_same o s t l h.2, (refl, wants_memory act call a h.0))
change_refused o s t act call (Core fault) l c a h = refused_by_itself o s t act call fault (sees_same o s t l h.1) a h.0
change_refused o s t act call fault l c a h = absurd h

pub quiet_refused : (o : Opening) (s t : Standing) (act : Act) (call : Call) (fault : ShareFault) → IsLegalFrom o s.seen → call_of act ≡ Some call → RefusesCall o s call fault t → Performs o s act (reply_or_stop fault) t
quiet_refused o s t act call fault l a h = grind (arith, sees_same, refused_by_itself)

pub finish_refused : (o : Opening) (s t : Standing) (fault : ShareFault) → IsLegalFrom o s.seen → RefusesFinish o s fault t → Performs o s Finish (reply_or_stop fault) t
finish_refused o s t fault l h = grind (arith, not_done, sees_same, refused_by_itself)

pub scan_refused : (o : Opening) (s t : Standing) (fault : ShareFault) → IsLegalFrom o s.seen → RefusesScan o s fault t → Performs o s Scan (reply_or_stop fault) t
scan_refused o s t fault l h = grind (arith, no_query, all_scanned, sees_same)

pub get_refused : (o : Opening) (s t : Standing) (id : ℕ) (fault : ShareFault) → IsLegalFrom o s.seen → RefusesGet o s id fault t → Performs o s (Get id) (reply_or_stop fault) t
get_refused o s t id (Core core) l h = subst (λ x. Performs o s (Get id) (reply_or_stop (Core x)) t) (sym h.0) (got o s t id None h.1 h.2)
get_refused o s t id Closed l h = (sees_same o s t l h, refl)
get_refused o s t id fault l h = absurd h

-- what holds of a fault holds of the error by which it is passed on
pub passed_on : {T E : Type 0} (result : Result T E) (fault : E) (P : E → Type 0) → IsErrAnd result (λ passed. passed ≡ fault) → P fault → IfErr result P
passed_on (Ok done) fault P same h = tt
passed_on (Err passed) fault P same h = subst P (sym same) h
