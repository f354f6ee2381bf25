use Rattle.pref_core.proofs.Common.{◌≡◌, length, arith, refl, sym, subst, Contents, StandsFor, opening_contents, opening}
use Rattle.pref_core.proofs.OpeningLaws.{opened_stands}
use Rattle.pref_core.proofs.store.Store.new.Goals as goal

pub returns-clause-state : goal.returns-clause-state
returns-clause-state c =
    let setup = c.args.setup.now in
    let rows = c.args.rows.now in
    subst (λ (s : Contents). StandsFor s (opening setup.clients rows) × (length s.slots ≡ setup.capacity)) (sym c.in_ok-contents.ensures.opening)
    (opened_stands setup.clients setup.capacity rows (opening_contents setup rows) (omega arith) refl refl refl refl)
