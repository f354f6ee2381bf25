use Rattle.prefq_c.proofs.table.Table.insert_many.Goals as goal

pub returns : goal.returns
returns c = (c.room-room.result, c.room-room.ensures, c.insert_within.ensures)
