use Rattle.pref_share.proofs.Common.{arith}
use Rattle.pref_share.proofs.board.open_board.Goals as goal

-- no call has been made, and the pages behind that of the history are the clients'
pub all_clients-requires-clause-publisher : goal.all_clients-requires-clause-publisher
all_clients-requires-clause-publisher g c = c.in_ok-publisher.ensures

pub all_clients-requires-clause-rights : goal.all_clients-requires-clause-rights
all_clients-requires-clause-rights g c = (omega (arith, c.in-Some.ensures.rights.1), c.in-Some.ensures.rights.2)
