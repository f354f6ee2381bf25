-- Ops that are legal one after the other are a legal history.
use Rattle.pref_core.proofs.Common.{[], ◌∷◌, map, length, refl, ◌∙◌, subst, after, StandsFor, applied, ran}
use Rattle.pref_core.specs.History.{IsLegalHistory, state_after, numbered_of, OpsAreHistory}
use Rattle.pref_core.proofs.LegalLaws.{applied_stands}
use Rattle.pref_core.proofs.VisibleAfterOp.{length-ran}

pub ops_are_history : OpsAreHistory
ops_are_history contents state [] h legal = (tt, h, refl)
ops_are_history contents state (op ∷ ops) h legal =
    let size = length-ran (op ∷ []) contents in
    let next = after (length contents.slots) state op.client op.call in
    let rest = ops_are_history (applied contents op) next ops (applied_stands contents state op h legal.0) legal.1 in (
      (
        record { accepted = legal.0.next.accepted; next = legal.0.next.number; returned = legal.0.next.outcome; formed = legal.0.next.formed },
        subst (λ n. IsLegalHistory n next (map numbered_of ops)) size rest.0,
      ),
      subst (λ n. StandsFor (ran (applied contents op) ops) (state_after n next (map numbered_of ops))) size rest.1,
      rest.2 ∙ size,
    )
