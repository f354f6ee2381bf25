use denote.Param.Send.{sendable}
use denote.Param.SendFields.{declared_send, as_row_send}
use Rattle.std.proofs.Crossing.{frees}
use Rattle.std.proofs.alloc.Global.TheSendSync as heap
use Rattle.pref_table.proofs.row.Row.TheSendSync as rows
use Rattle.pref_share.proofs.board.Board.TheSendSync as boards
use Rattle.pref_share.proofs.SendLaws.{client_send}
use Rattle.share_tests.proofs.words.got_after_a_word.Goals as goal

pub join-word-requires-send-F : goal.join-word-requires-send-F
join-word-requires-send-F g c κs within = search (sendable, declared_send, as_row_send, client_send, boards.the_sync, rows.the_send, heap.the_send, frees) depth 14
