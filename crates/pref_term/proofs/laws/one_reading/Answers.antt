use Rattle.pref_term.proofs.AskedLemmas.{one_ask, no_both, one_fault}
use Rattle.pref_term.proofs.laws.one_reading.Goals as goal

pub returns : goal.returns
returns c = record { ask = one_ask; either = no_both; fault = one_fault }
