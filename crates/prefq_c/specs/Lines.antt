-- What the calls that give a table lines do. (this project)
use Rattle.std.specs.Prelude.{ℕ, ◌≡◌, List, [], length, Result, MatchResult, string_bytes}
use Rattle.pref_script.specs.LiveTable.{PrintsLine}
use Rattle.pref_script.specs.Script.{without_line_end}
use Rattle.prefq_c.specs.Each.{DoesEach}
use Rattle.prefq_c.specs.declared.fault.Fault.{Fault}
use Rattle.prefq_c.specs.declared.fault.Fault.TheVariants.{Memory}
use Rattle.prefq_c.specs.declared.table.Table.{Table}

-- the same table but for its rows, its clients and the replies that it keeps
abbrev pub replied_as : Table → Table → Table
replied_as before after = record before { live = after.live; text = after.text }

-- a table has taken a line: its replies are behind those that the table kept before, and how many bytes these are together is the result; or there was no memory
abbrev pub Replies : List ℕ → Table → Result ℕ Fault → Table → Type 0
Replies line before result after = MatchResult result
    (λ size. PrintsLine before.live line (string_bytes before.text) (string_bytes after.text) after.live × (size ≡ length (string_bytes after.text)) × (after ≡ replied_as before after))
    (λ why. why ≡ Memory)

-- lines with their ends were taken one after the other, up to one for which there was no memory
abbrev pub RepliesEach : List (List ℕ) → Table → Result ℕ Fault → Table → Type 0
RepliesEach lines before result after = DoesEach (λ line. Replies (without_line_end line)) (λ _ size. size) (length (string_bytes before.text)) lines before result after

-- a table keeps no replies, and else it is this one
abbrev pub KeepsNoReplies : Table → Table → Type 0
KeepsNoReplies before after = (string_bytes after.text ≡ []) × (after ≡ record before { text = after.text })
