use Rattle.pref_script.proofs.Common.{append_assoc, arith}
use Rattle.std.proofs.lemmas.Int.{to_z-of_z}
use Rattle.pref_script.proofs.BytesLaws.{row_text-more}
use Rattle.pref_script.proofs.text.push_row.Goals as goal

pub loop-col-preserved : goal.loop-col-preserved
unfolding lib.Utf8.encode
loop-col-preserved c = grind (arith, to_z-of_z, row_text-more, append_assoc)
