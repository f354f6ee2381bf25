use Rattle.pref_term.proofs.Common.{◌∙◌, ap, All-same, List, subst, sym}
use Rattle.std.proofs.Common.{Global, Vec}
use Rattle.std.proofs.lemmas.List.Elements.{All-push}
use Rattle.std.specs.Prelude.{Contains}
use Rattle.pref_term.specs.Signatures.{IsBy}
use Rattle.pref_term.specs.declared.signature.scale.Scale.{Scale}
use Rattle.pref_term.proofs.signature.choose.push_key.Goals.{then-len-gt1+in_ok-marks+in_ok-key+in_ok-push, else-len-gt1}
use Rattle.pref_term.proofs.signature.choose.push_key.Goals as goal

pub returns-clause-by : goal.returns-clause-by
returns-clause-by c keys there before =
    let items : Vec Scale Global → List Scale = λ v. v.items in
    elim c.if-len-gt1.branch [
      | then-len-gt1+in_ok-marks+in_ok-key+in_ok-push w ↦
          let scale : Scale = w.of.result in
          let by : IsBy keys scale = record { key = subst (Contains keys) (sym (w.of.ensures ∙ w.in_ok-key.ensures {u = tt})) there } in
          All-same (IsBy keys) _ _ (ap items w.scales-is ∙ (w.in_ok-push.ensures {u = tt}).items) (All-push (IsBy keys) c.args.scales.now.items scale before by)
      | else-len-gt1 w ↦ All-same (IsBy keys) _ _ (ap items w.scales-is) before
    ]
