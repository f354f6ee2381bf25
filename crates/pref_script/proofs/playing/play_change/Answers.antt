use Rattle.pref_script.proofs.Common.{arith}
use Rattle.pref_script.proofs.PlayLaws.{plays_refused_line}
use Rattle.pref_script.specs.Commands.{act_of, change_of}
use Rattle.pref_script.proofs.playing.play_change.Goals as goal

pub returns-in-Err : goal.returns-in-Err
unfolding act_of change_of
returns-in-Err c = grind (arith, plays_refused_line)

pub returns-in-Err-read_row : goal.returns-in-Err-read_row
unfolding act_of change_of
returns-in-Err-read_row c = grind (arith, plays_refused_line)
