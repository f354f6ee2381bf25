-- How many terms a preference is put together of: what a walk over it goes down.
use Rattle.pref_term.proofs.Common.{ℕ, ◌+◌, Preference, scored, pareto, prior, reverse}

abbrev pub size : Preference → ℕ
size (scored b) = 1
size (pareto p q) = size p + size q + 1
size (prior p q) = size p + size q + 1
size (reverse p) = size p + 1
