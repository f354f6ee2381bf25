use Rattle.pref_table.proofs.Common.{arith}
use Rattle.pref_table.proofs.schema.is_name_text.Goals as goal

pub returns-then-is_ascii_alphabetic : goal.returns-then-is_ascii_alphabetic
returns-then-is_ascii_alphabetic c = grind (arith)
