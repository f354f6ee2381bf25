use Rattle.pref_script.proofs.Common.{◌≡◌, ◌+◌, ◌∙◌, suc, Some, ap, arith, inl, refl, Part, client_named}
use Rattle.pref_script.proofs.PartLaws.{given-here, given-nobody}
use Rattle.pref_script.proofs.parts.give_line.Goals as goal

pub returns-in-Some-clause-parts : goal.returns-in-Some-clause-parts
returns-in-Some-clause-parts c = λ names raws left are.
    let parts = c.args.parts.now in
    let old = c.index_mut.result.now in
    let new : Part = record { schema = old.schema; client = old.client; commands = c.push.new.self; read = old.read; text = old.text; refused = old.refused } in
    given-here names raws left c.args.raw.now c.in-Some.command 1 parts.items c.in-Some.index (suc c.in-Some.index) old new (omega (arith, c.in-Some.ensures.0, c.len.ensures, parts.ok.0)) c.index_mut.ensures.value (omega arith)
    (rw c.line_text-line.ensures at c.in-Some.ensures.1) refl refl c.in_ok-push.ensures.items refl refl are

pub returns-clause-parts : goal.returns-clause-parts
returns-clause-parts c = λ names raws left are.
    let parts = c.args.parts.now in
    given-nobody names raws left c.args.raw.now 1 parts.items (λ index inside named. let next : 1 + index ≡ suc index = omega arith in c.in_default.ensures index (omega (arith, inside, c.len.ensures, parts.ok.0)) (ap client_named c.line_text-line.ensures ∙ named ∙ ap Some next)) are

pub returns-clause-given : goal.returns-clause-given
returns-clause-given c = λ blank. inl (rw (← c.line_text-line.ensures, ← c.is_blank_line.ensures) blank)
