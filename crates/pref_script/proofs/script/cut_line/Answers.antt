use Rattle.pref_script.proofs.Common.{arith, take_all, drop_all}
use Rattle.pref_script.proofs.ScriptLaws.{lines_at, lines_last}
use Rattle.pref_script.proofs.script.cut_line.Goals as goal

pub returns-in-Some-clause-lines : goal.returns-in-Some-clause-lines
returns-in-Some-clause-lines c = rw (c.split_at.ensures.front, c.split_at.ensures.back) (lines_at c.args.text.now c.in-Some.place c.in-Some.ensures)

pub returns-in-None-clause-lines : goal.returns-in-None-clause-lines
returns-in-None-clause-lines c = grind (arith, take_all, drop_all, lines_last)
