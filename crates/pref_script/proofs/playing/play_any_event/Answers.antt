use Rattle.pref_script.proofs.PlayLaws.{plays_event}
use Rattle.pref_script.proofs.playing.play_any_event.Goals as goal

pub returns : goal.returns
returns c = plays_event c.args.width c.args.machine.now c.reply.new.self c.args.event c.in_ok-reply.reply _ _ c.in_ok-reply.ensures c.in_ok-push_reply.ensures
