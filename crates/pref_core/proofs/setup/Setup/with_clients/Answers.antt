use Rattle.pref_core.proofs.Common.{refl, arith}
use Rattle.pref_core.proofs.setup.Setup.with_clients.Goals as goal

-- for an edit that must fail: an answer fails at once, a search twice at its limits
pub invariant_of-result : goal.invariant_of-result
invariant_of-result c = record { clients = (omega arith, omega arith); capacity = c.self.invariant.capacity; block = c.self.invariant.block; window = c.self.invariant.window }

pub returns-clause-allowed : goal.returns-clause-allowed
returns-clause-allowed c = (λ _. (omega arith, omega arith), λ _. refl)
