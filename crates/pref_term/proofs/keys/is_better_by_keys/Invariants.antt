use Rattle.pref_term.proofs.Common.{◌≡◌, drop, false, by_keys, by_sides, in_product, is_better}
use Rattle.pref_term.proofs.keys.is_better_by_keys.Given as goal

-- the second row is better by none of the keys so far; what they say, beside the keys that are left
abbrev pub invariant-loop-key : goal.invariant-loop-key
invariant-loop-key l =
    is_better (in_product (by_sides l.better false) (by_keys (drop l.key-index l.keys) l.a l.b)) ≡ is_better (by_keys l.keys l.a l.b)
