use Rattle.pref_sky.proofs.Common.{◌≡◌, ◌++◌, List, drop, map, Entry, HaveDifferentIds, entry_of, own_levels}
use Rattle.pref_sky.proofs.sorted.Pruned.keep_others.Given as goal

abbrev pub invariant-loop-entry : goal.invariant-loop-entry
invariant-loop-entry l =
    let own = own_levels l.fn.self.order in
    let all = (l.fn.self.entries.items ++ l.fn.recent.items) ++ l.entries in
    record {
      same : (l.self.order ≡ l.fn.self.order) × (l.self.entries ≡ l.fn.self.entries);
      behind : (kept : List Entry) × (l.recent.items ≡ l.fn.recent.items ++ kept);
      levels : HaveDifferentIds (map entry_of (own all)) → own ((l.fn.self.entries.items ++ l.recent.items) ++ drop l.entry-index l.entries) ≡ own all;
    }
