use Rattle.pref_script.proofs.Common.{◌∙◌, ◌∷◌, ◌+◌, [], ap, arith, refl, Part}
use Rattle.pref_script.specs.ClientParts.{acts_by}
use Rattle.pref_script.proofs.PartLaws.{command-next, commands-none, gone-act, gone-refused, returned-on}
use Rattle.pref_script.proofs.parts.PartTask.next.Goals as goal

pub loop-self-preserved : goal.loop-self-preserved
loop-self-preserved c =
    gone-refused _ _ _ _ _ c.loop-self.invariant (command-next c.loop-self.self _ (omega (arith, c.loop-self-test.true, c.len.ensures)) c.index-command.ensures) (rw c.in-Err-Refused.field-0-is at c.in-Err-Refused.ensures) refl refl refl refl

pub returns-in-Ok : goal.returns-in-Ok
returns-in-Ok c =
    let now = c.loop-self.self in
    let new : Part = record { schema = now.schema; client = now.client; commands = now.commands; read = now.read + 1; text = now.text; refused = now.refused } in
    let gone = gone-act _ now new _ c.in-Ok.event c.loop-self.invariant (command-next now _ (omega (arith, c.loop-self-test.true, c.len.ensures)) c.index-command.ensures) c.in-Ok.ensures refl refl refl refl in
    record { next = gone.acts; same = λ first replies returned. returned-on first _ new (c.in-Ok.event.act ∷ []) replies returned gone }

pub returns-clause-next : goal.returns-clause-next
returns-clause-next c = c.loop-self.invariant.acts ∙ ap (acts_by _ _) (commands-none c.loop-self.self (omega arith))
