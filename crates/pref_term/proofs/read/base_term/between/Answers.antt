use Rattle.pref_term.proofs.Common.{arith}
use Rattle.pref_term.proofs.LedLemmas.{reads_between}
use Rattle.pref_term.proofs.read.base_term.between.Goals as goal

pub returns-in_err-col-clause-parsed : goal.returns-in_err-col-clause-parsed
returns-in_err-col-clause-parsed c = grind (arith, reads_between)

pub returns-in_err-left-clause-parsed : goal.returns-in_err-left-clause-parsed
returns-in_err-left-clause-parsed c = grind (arith, reads_between)

pub returns-in_err-beside-clause-parsed : goal.returns-in_err-beside-clause-parsed
returns-in_err-beside-clause-parsed c = grind (arith, reads_between)

pub returns-in_err-right-clause-parsed : goal.returns-in_err-right-clause-parsed
returns-in_err-right-clause-parsed c = grind (arith, reads_between)

pub returns-then-right-left-clause-parsed : goal.returns-then-right-left-clause-parsed
returns-then-right-left-clause-parsed c = grind (arith, reads_between)

pub returns-in_err-rest-clause-parsed : goal.returns-in_err-rest-clause-parsed
returns-in_err-rest-clause-parsed c = grind (arith, reads_between)

pub returns-clause-parsed : goal.returns-clause-parsed
returns-clause-parsed c = grind (arith, reads_between)
