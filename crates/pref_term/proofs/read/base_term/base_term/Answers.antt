use Rattle.pref_term.proofs.Common.{arith, rules}
use Rattle.pref_term.proofs.CycleLemmas.{high_taken, low_taken, reads_base, taken_base}
use Rattle.pref_term.proofs.read.base_term.base_term.Goals as goal

pub returns-in_err-col-in-Some-Low-clause-parsed : goal.returns-in_err-col-in-Some-Low-clause-parsed
returns-in_err-col-in-Some-Low-clause-parsed c = search (rules, reads_base)

pub returns-in_ok-col-in-Some-Low-clause-parsed : goal.returns-in_ok-col-in-Some-Low-clause-parsed
returns-in_ok-col-in-Some-Low-clause-parsed c = search (rules, low_taken)

pub returns-in_err-col-in-Some-High-clause-parsed : goal.returns-in_err-col-in-Some-High-clause-parsed
returns-in_err-col-in-Some-High-clause-parsed c = search (rules, reads_base)

pub returns-in_ok-col-in-Some-High-clause-parsed : goal.returns-in_ok-col-in-Some-High-clause-parsed
returns-in_ok-col-in-Some-High-clause-parsed c = search (rules, high_taken)

pub returns-in-Some-Around-clause-parsed : goal.returns-in-Some-Around-clause-parsed
returns-in-Some-Around-clause-parsed c = search (rules, taken_base)

pub returns-in-Some-Between-clause-parsed : goal.returns-in-Some-Between-clause-parsed
returns-in-Some-Between-clause-parsed c = search (rules, taken_base)

pub returns-in-Some-Pos-clause-parsed : goal.returns-in-Some-Pos-clause-parsed
returns-in-Some-Pos-clause-parsed c = search (rules, taken_base)

pub returns-in-Some-Layered-clause-parsed : goal.returns-in-Some-Layered-clause-parsed
returns-in-Some-Layered-clause-parsed c = search (rules, taken_base)

pub returns-in_default-clause-parsed : goal.returns-in_default-clause-parsed
returns-in_default-clause-parsed c = grind (arith, reads_base)
