-- What an ask selects: the best, the first levels, each within groups (the rPref manual), or the first levels that hold at least a number of rows (this project).
use Rattle.std.specs.Prelude.{Bool, ◌&&◌, nat_lt, nat_le, ℕ, List, filter, count_by, length}
use Rattle.pref_table.specs.declared.row.Row.{Row}
use Rattle.pref_term.specs.declared.ask.Mode.{Mode}
use Rattle.pref_term.specs.declared.ask.Mode.TheVariants.{Best, TopLevel, AtLeast}
use Rattle.pref_term.specs.AskOrder.{order_of}
use Rattle.pref_term.specs.Better.{in_same_group}
use Rattle.pref_term.specs.Question.{Question}
use Rattle.pref_sky.specs.declared.entry.Entry.{Entry}
use Rattle.pref_sky.specs.declared.entry.Ranked.{Ranked}
use Rattle.pref_sky.specs.Levels.{entry_order, levels}

-- how many entries of this one's group have a lower level
abbrev pub count_before : (Row → Row → Bool) → List Ranked → Ranked → ℕ
count_before same all r = count_by (λ s. same s.row r.row && nat_lt s.level r.level) all

-- the entries that have fewer than k of their group on the levels before
abbrev pub at_least : (Row → Row → Bool) → ℕ → List Ranked → List Ranked
at_least same k all = filter (λ r. nat_lt (count_before same all r) k) all

-- the selection, in order of level, then id
abbrev pub selected : (Entry → Entry → Bool) → (Row → Row → Bool) → Mode → List Entry → List Ranked
selected over same Best entries = levels over entries 1
selected over same (TopLevel k) entries = levels over entries k
selected over same (AtLeast k) entries = at_least same k (levels over entries (length entries))

-- the answer of an ask over these entries
abbrev pub answer_of : Question → List Entry → List Ranked
answer_of ask entries = selected (entry_order (order_of ask)) (in_same_group ask.group) ask.mode entries

-- how many entries of a row's group the levels 1 to m hold
abbrev pub count_upto : (Row → Row → Bool) → List Ranked → Row → ℕ → ℕ
count_upto same all row m = count_by (λ s. same s.row row && nat_le s.level m) all
