-- What is left where a `?` leaves a function.
use Rattle.std.proofs.Common.{◌≡◌, Err, Result, arith}
use Rattle.std.specs.Result.{IsErrAnd}

-- the error that it met
pub exits : {T E : Type 0} {why : E} (r : Result T E) → IsErrAnd r (λ e. e ≡ why) → r ≡ Err why
exits r is = grind (arith)
