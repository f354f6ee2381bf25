use Rattle.pref_script.proofs.Common.{◌∙◌, ◌++◌, ℕ, ap, refl, string_bytes, on_ok_weaker, reply_lines}
use Rattle.pref_script.proofs.PartLaws.{returned-more}
use Rattle.pref_script.proofs.parts.PartTask.take.Goals as goal

pub returns-clause-taken : goal.returns-clause-taken
returns-clause-taken c =
    let part = c.args.self.now in
    on_ok_weaker c.push_reply.result
    (λ wrote first replies returned. returned-more first part _ replies c.args.reply returned refl refl refl refl (wrote ∙ ap (λ (width : ℕ). string_bytes part.text ++ reply_lines width part.client c.args.reply) c.width.ensures.value))
    c.push_reply.ensures
