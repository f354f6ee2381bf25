use Rattle.pref_term.proofs.Common.{ap, false, ◌∙◌, subst, All, IfOk-weaker, arith, List, leading, Question, Key}
use Rattle.pref_term.specs.Signatures.{IsBy}
use Rattle.pref_term.proofs.KeyLaws.{leading_in_row}
use Rattle.pref_term.proofs.SignatureLaws.{suiting_cuts}
use Rattle.pref_term.proofs.ask.Ask.scales.Goals as goal

pub scales_for-requires : goal.scales_for-requires
scales_for-requires c = grind (arith, c.deref.ensures.value, c.self.invariant.1, c.self.invariant.0.columns.preference, leading_in_row)

pub returns : goal.returns
returns c =
    let q = c.args.self.now in
    let keys = c.deref.ensures.value ∙ (c.self.invariant.1 ∙ ap (λ (s : Question). leading s.preference false) c.self.view_is) in
    IfOk-weaker c.scales_for.result _ _ (λ scales by. suiting_cuts q scales (subst (λ (ks : List Key). All (IsBy ks) scales) keys by)) c.scales_for.ensures
