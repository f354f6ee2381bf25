use denote.Param.Send.{sendable}
use Rattle.pref_share.proofs.SendLaws.{client_send}
use Rattle.readers_speed.proofs.threads.measure.Goals as goal

pub map_vec-tallies-requires-send-J : goal.map_vec-tallies-requires-send-J
map_vec-tallies-requires-send-J g c κs within = search (sendable, client_send) depth 14
