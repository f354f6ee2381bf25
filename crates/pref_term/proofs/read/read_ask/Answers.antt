use Rattle.pref_term.proofs.Common.{arith}
use Rattle.pref_term.proofs.AskedLemmas.{asked_long, read_exact, read_ok, read_err}
use Rattle.pref_term.proofs.read.read_ask.Goals as goal

pub returns-then-text-gt-LONGEST-clause-exact : goal.returns-then-text-gt-LONGEST-clause-exact
returns-then-text-gt-LONGEST-clause-exact c = asked_long c.args.schema.now c.args.text.now (omega arith)

pub returns-clause-exact : goal.returns-clause-exact
returns-clause-exact c = read_exact c.args.schema.now c.args.text.now _ c.new.ensures (omega arith) c.question.result c.question.ensures.asked

pub returns-clause-ok : goal.returns-clause-ok
returns-clause-ok c = read_ok c.args.schema.now c.args.text.now _ c.new.ensures (omega arith) c.question.result c.question.ensures.asked c.question.ensures.known

pub returns-clause-err : goal.returns-clause-err
returns-clause-err c = read_err c.args.schema.now c.args.text.now _ c.new.ensures (omega arith) c.question.result c.question.ensures.asked
