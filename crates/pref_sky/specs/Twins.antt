-- An entry of which no better one and no earlier twin is there. (skyline with DISTINCT; which twin stays is this project's own)
use Rattle.std.specs.Prelude.{◌≡◌, ◌≤◌, true, false, List}
use Rattle.pref_term.specs.Order.{RowOrder}
use Rattle.pref_sky.specs.Members.{Among}
use Rattle.pref_sky.specs.declared.entry.Entry.{Entry}

-- no entry of the list dominates it, and none with a smaller id is its twin
abbrev pub IsFirstOfTwins : RowOrder → List Entry → Entry → Type 0
IsFirstOfTwins order all e =
    (other : Entry) → Among other all → (order.over other.row e.row ≡ false) × (order.twin other.row e.row ≡ true → e.id ≤ other.id)
