use Rattle.pref_script.proofs.Common.{◌∙◌, arith, exits}
use Rattle.pref_script.proofs.OutputLaws.{script-sections-fault, script-table-fault}
use Rattle.pref_script.proofs.PartLaws.{parts-few}
use Rattle.pref_script.proofs.ThreadsLaws.{commands-short, prints-fault, prints-joint, prints-none, prints-refused}
use Rattle.pref_script.proofs.threads.run_threads.Goals as goal

pub returns-in_err-sections : goal.returns-in_err-sections
returns-in_err-sections g c =
    rw (exits c.from_residual.result c.from_residual.ensures.1) (prints-fault c.args.setup (g.G.Gate.says c.args.gate.now) c.args.bytes.now _ (script-sections-fault c.args.setup c.args.bytes.now _ c.in_err-sections.ensures.sections))

pub returns-in_err-schema : goal.returns-in_err-schema
returns-in_err-schema g c =
    rw (exits c.from_residual-in_err-schema.result c.from_residual-in_err-schema.ensures.1) (prints-fault c.args.setup (g.G.Gate.says c.args.gate.now) c.args.bytes.now _
    (script-table-fault c.args.setup c.args.bytes.now _ c.in_err-schema.field-0.0 c.in_ok-sections.ensures.sections c.in_err-schema.ensures))

pub joint_parts-requires-clause-few : goal.joint_parts-requires-clause-few
joint_parts-requires-clause-few g c κs within =
    parts-few _ _ 1 _ (commands-short c.args.bytes.now c.in_ok-sections.sections c.in_ok-sections.ensures.sections c.in_ok-sections.ensures.few (omega arith)) c.in_ok-parts.ensures.parts

pub unowned_text-requires-clause-none : goal.unowned_text-requires-clause-none
unowned_text-requires-clause-none g c = λ given whole.
    prints-none c.args.setup (g.G.Gate.says c.args.gate.now) c.args.bytes.now c.in_ok-sections.sections c.in_ok-sections.ensures.sections _ _ c.in_ok-schema.ensures c.in_ok-parts.parts.items (c.in_ok-parts.ensures.count ∙ c.clients.ensures.value) c.in_ok-parts.ensures.parts
    _ _ _ _ (rw c.clients.ensures.value at c.in_ok-parts.ensures.given given) c.in_ok-done.ensures.ran c.as_slice-2.ensures.value whole

pub returns-in_err-done : goal.returns-in_err-done
returns-in_err-done g c =
    rw (exits c.from_residual-in_err-done.result c.from_residual-in_err-done.ensures.1) (prints-refused c.args.setup (g.G.Gate.says c.args.gate.now) c.args.bytes.now c.in_ok-sections.sections c.in_ok-sections.ensures.sections _ _ c.in_ok-schema.ensures c.in_ok-parts.parts.items (c.in_ok-parts.ensures.count ∙ c.clients.ensures.value) c.in_ok-parts.ensures.parts
    _ c.in_err-done.field-0.0 c.as_slice.ensures.value c.in_err-done.ensures.stops)

pub returns : goal.returns
returns g c =
    prints-joint c.args.setup (g.G.Gate.says c.args.gate.now) c.args.bytes.now c.in_ok-sections.sections c.in_ok-sections.ensures.sections _ _ c.in_ok-schema.ensures c.in_ok-parts.parts.items (c.in_ok-parts.ensures.count ∙ c.clients.ensures.value) c.in_ok-parts.ensures.parts
    _ _ _ _ _ _ c.as_slice.ensures.value c.in_ok-done.ensures.room c.in_ok-done.ensures.ran c.in_ok-out.ensures.returned c.as_slice-2.ensures.value c.in_ok-push_parts.ensures c.as_slice-3.ensures.value
