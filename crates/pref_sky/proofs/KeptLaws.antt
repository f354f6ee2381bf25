-- What is kept of entries: all, those that a test leaves, the same in another order, and of two lists of which one stands behind the other.
use Rattle.pref_sky.proofs.Common.{◌≡◌, ◌≤◌, ◌==◌, ◌⊎◌, Bool, false, inl, List, ◌∷◌, ◌++◌, arith, count_by, filter, Among, Entry, HaveDifferentIds, IsPermutation, sum_by-IsPermutation}
use Rattle.pref_sky.proofs.ListLaws.{in_either, in_left, in_right, count_append, count_cons, count_filter, from_filter, in_filter, same_if_permuted}

-- some of these entries are kept, among them all of which this does not hold
pub record KeepsAllBut (below : Entry → Type 0) (entries kept : List Entry) : Type 0 where
  pub within : (e : Entry) → Among e kept → Among e entries
  pub covers : (e : Entry) → Among e entries → Among e kept ⊎ below e
  pub counts : (p : Entry → Bool) → count_by p kept ≤ count_by p entries

pub keeps_all : {below : Entry → Type 0} (entries : List Entry) → KeepsAllBut below entries entries
keeps_all entries = record { within = λ x m. m; covers = λ x m. inl m; counts = λ p. omega arith }

pub keeps_filtered : {below : Entry → Type 0} (stays : Entry → Bool) (entries : List Entry) → ((e : Entry) → stays e ≡ false → below e) → KeepsAllBut below entries (filter stays entries)
keeps_filtered stays entries others = grind (arith, others, from_filter, in_filter, count_filter)

pub drops_first : {below : Entry → Type 0} (e : Entry) (others : List Entry) → below e → KeepsAllBut below (e ∷ others) others
drops_first e others low = grind (arith, count_cons)

-- two lists, one behind the other
pub keeps_joined : {below : Entry → Type 0} (xs ys some kept : List Entry) → KeepsAllBut below xs some → KeepsAllBut below ys kept → KeepsAllBut below (xs ++ ys) (some ++ kept)
keeps_joined xs ys some kept first second = grind (arith, in_either some kept, in_left xs ys, in_right xs ys, in_either xs ys, in_left some kept, in_right some kept, count_append)

module _ {below : Entry → Type 0} (entries kept : List Entry) (keeps : KeepsAllBut below entries kept) where
  -- more may be left out than is
  pub keeps_still : {more : Entry → Type 0} → ((e : Entry) → below e → more e) → KeepsAllBut more entries kept
  keeps_still then = grind (arith, then)

  pub keeps_moved : (moved : List Entry) → IsPermutation kept moved → KeepsAllBut below entries moved
  keeps_moved moved order = let same = same_if_permuted kept moved order in grind (arith, same.there, same.back, sum_by-IsPermutation)

  pub kept_differ : HaveDifferentIds entries → HaveDifferentIds kept
  kept_differ different = record { once = λ id. omega (arith, different.once id, keeps.counts (λ (e : Entry). e.id == id)) }
