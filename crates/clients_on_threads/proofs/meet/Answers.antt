use denote.Param.Send.{sendable}
use denote.Param.SendFields.{declared_send, as_row_send}
use Rattle.pref_table.proofs.row.Row.TheSendSync as rows
use Rattle.pref_share.proofs.board.Board.TheSendSync as boards
use Rattle.pref_share.proofs.SendLaws.{client_send}
use Rattle.clients_on_threads.proofs.meet.Goals as goal

-- the desk may go to the other thread
pub join-word-requires-send-F : goal.join-word-requires-send-F
join-word-requires-send-F g c κs within = search (sendable, declared_send, as_row_send, client_send, boards.the_sync, rows.the_send) depth 14
