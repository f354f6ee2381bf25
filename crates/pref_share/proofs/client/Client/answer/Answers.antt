use Rattle.pref_share.proofs.Common.{arith}
use Rattle.pref_share.proofs.StandingLaws.{answers}
use Rattle.pref_share.proofs.client.Client.answer.Goals as goal

pub returns-in-Some : goal.returns-in-Some
returns-in-Some g c = grind (arith, answers)
