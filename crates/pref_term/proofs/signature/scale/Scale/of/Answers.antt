use Rattle.pref_term.proofs.Common.{arith, ap, length, subst, sym}
use Rattle.std.specs.List.Sorted.{IsNonDecreasing}
use Rattle.std.proofs.lemmas.List.{length-take}
use Rattle.std.proofs.lemmas.List.Sorted.{IsNonDecreasingBy-from_sort, IsNonDecreasingBy-take}
use Rattle.pref_term.proofs.signature.scale.Scale.of.Goals as goal

-- the least of the marks in order
pub invariant_of-result : goal.invariant_of-result
invariant_of-result c =
    let sorted = c.sort_unstable.new.self.items in
    let least = c.truncate.ensures.items in
    record {
      in_order = subst IsNonDecreasing (sym least) (IsNonDecreasingBy-take (λ mark. mark) 63 sorted (IsNonDecreasingBy-from_sort (λ mark. mark) sorted c.sort_unstable.ensures.sorted));
      few = omega (arith, ap length least, length-take 63 sorted);
    }
