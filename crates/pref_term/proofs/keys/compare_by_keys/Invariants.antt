use Rattle.pref_term.proofs.Common.{◌≡◌, drop, by_keys, by_sides, in_product}
use Rattle.pref_term.proofs.keys.compare_by_keys.Given as goal

-- what the keys so far say, beside the keys that are left
abbrev pub invariant-loop-key : goal.invariant-loop-key
invariant-loop-key l =
    in_product (by_sides l.better l.worse) (by_keys (drop l.key-index l.keys) l.a l.b) ≡ by_keys l.keys l.a l.b
