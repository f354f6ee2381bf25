-- No public contract cites this.
-- What a partial result holds.
use Rattle.std.specs.Prelude.{List, [], ◌++◌}
use Rattle.pref_sky.specs.declared.entry.Ranked.{Ranked}
use Rattle.pref_sky.specs.declared.partial.Held.{Held}
use Rattle.pref_sky.specs.declared.partial.Held.TheVariants.{Nothing, Sorted, Leveled}
use Rattle.pref_sky.specs.OwnOrders.{own_levels}

-- the entries in it, in order of level, then id
abbrev pub ranked_held : Held → List Ranked
ranked_held Nothing = []
ranked_held (Sorted sorted) = own_levels sorted.pruned.order (sorted.pruned.entries.items ++ sorted.recent.items)
ranked_held (Leveled ranked) = ranked.items
