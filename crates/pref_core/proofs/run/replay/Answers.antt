use Rattle.pref_core.proofs.Common.{◌∙◌, sym, opened}
use Rattle.pref_core.proofs.RepliesLaws.{all_replied}
use Rattle.pref_core.proofs.run.replay.Goals as goal

pub returns-clause-replies : goal.returns-clause-replies
returns-clause-replies c = all_replied c.args.setup (opened c.args.setup c.args.rows.now) c.args.events.items c.in_ok-part.part.replies.items c.in_ok-part.ensures.replies (sym c.in_ok-part.ensures.stopped ∙ c.if-part.false)
