use Rattle.pref_script.proofs.Common.{◌≡◌, ◌∙◌, arith, sym}
use Rattle.pref_script.proofs.PlayLaws.{plays_refused}
use Rattle.pref_script.specs.Forms.{said_in}
use Rattle.pref_script.specs.declared.command.Refusal.TheVariants.{NotCommand}
use Rattle.std.specs.Prelude.{None}
use Rattle.pref_script.proofs.playing.play_line.Goals as goal

pub returns-in_ok-push_refused-in-None-clause-played : goal.returns-in_ok-push_refused-in-None-clause-played
returns-in_ok-push_refused-in-None-clause-played c =
    let nothing : said_in c.args.line.now ≡ None = grind (arith, c.cut_form.ensures, c.in-None.is) in
    rw (sym c.is_blank_line.ensures ∙ c.if-is_blank_line.false, nothing)
    (plays_refused _ c.args.machine.now c.args.number NotCommand _ _ c.in_ok-push_refused-in-None.ensures)
