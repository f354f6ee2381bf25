use Rattle.pref_term.proofs.Common.{arith}
use Rattle.pref_term.proofs.LedLemmas.{reads_around}
use Rattle.pref_term.proofs.read.base_term.around.Goals as goal

pub returns-in_err-col-clause-parsed : goal.returns-in_err-col-clause-parsed
returns-in_err-col-clause-parsed c = grind (arith, reads_around)

pub returns-in_err-centre-clause-parsed : goal.returns-in_err-centre-clause-parsed
returns-in_err-centre-clause-parsed c = grind (arith, reads_around)

pub returns-in_err-rest-clause-parsed : goal.returns-in_err-rest-clause-parsed
returns-in_err-rest-clause-parsed c = grind (arith, reads_around)

pub returns-clause-parsed : goal.returns-clause-parsed
returns-clause-parsed c = grind (arith, reads_around)
