-- Rows that are numbered as they come, and what is held of the best of them. (this project)
use Rattle.std.specs.Prelude.{◌≡◌, ℕ, suc, List, [], ◌∷◌, length}
use Rattle.pref_table.specs.declared.row.Row.{Row}
use Rattle.pref_term.specs.AskOrder.{order_of}
use Rattle.pref_term.specs.Question.{Question, cut_of}
use Rattle.pref_sky.specs.declared.entry.Entry.{Entry}
use Rattle.pref_sky.specs.declared.entry.Ranked.{Ranked}
use Rattle.pref_sky.specs.Levels.{entry_order, levels}

-- the entries of rows whose ids count on from the last one
abbrev pub numbered_from : ℕ → List Row → List Entry
numbered_from last [] = []
numbered_from last (row ∷ rows) = record { id = suc last; row = row } ∷ numbered_from (suc last) rows

-- the entries of rows with the ids 1, 2, ..
abbrev pub numbered : List Row → List Entry
numbered rows = numbered_from 0 rows

-- a question, the levels that are held of the rows that were added, and how many these were
pub record BestSoFar : Type 0 where
  pub question : Question
  pub held : List Ranked
  pub count : ℕ

-- after these rows: the levels that the question needs, of the rows with the ids 1, 2, ..
abbrev pub best_of : Question → List Row → BestSoFar
best_of q rows = record { question = q; held = levels (entry_order (order_of q)) (numbered rows) (cut_of q.mode); count = length rows }

-- it is what some rows give
abbrev pub IsOfSomeRows : BestSoFar → Type 0
IsOfSomeRows best = (rows : List Row) × (best ≡ best_of best.question rows)
