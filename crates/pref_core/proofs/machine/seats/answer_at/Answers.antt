use Rattle.pref_core.proofs.Common.{arith}
use Rattle.pref_core.proofs.SeatLaws.{seat_read}
use Rattle.pref_core.proofs.machine.seats.answer_at.Goals as goal

-- for an edit that must fail: an answer fails at once, a search twice at its limits
pub returns-in-Some : goal.returns-in-Some
returns-in-Some c = grind (arith, seat_read)
