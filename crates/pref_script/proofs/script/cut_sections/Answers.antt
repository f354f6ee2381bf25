use Rattle.pref_script.proofs.Common.{arith}
use Rattle.pref_script.proofs.ScriptLaws.{script-none}
use Rattle.pref_script.proofs.script.cut_sections.Goals as goal

pub returns-then-is_empty-clause-sections : goal.returns-then-is_empty-clause-sections
returns-then-is_empty-clause-sections c = script-none c.args.script.now (grind arith)
