-- The order of an ask: within its groups, by its preference; and which rows it keeps one of. (skyline with DIFF and DISTINCT; psel on a grouped table)
use Rattle.std.proofs.Common.{◌≡◌, true, List, ℤ, ◌++◌, arith}
use Rattle.std.specs.Prelude.{◌&&◌}
use Rattle.pref_term.specs.Better.{in_same_group}
use Rattle.pref_term.specs.Columns.{columns_in}
use Rattle.pref_term.specs.Order.{IsRowOrder, IsStrictOrder, RowOrder, StandAlike}
use Rattle.pref_term.specs.OrderLaws.{as_good_on, better_is, group_back, group_on, same_is}
use Rattle.pref_term.specs.Question.{Question, IsAsk, alike, over, twins}
use Rattle.pref_term.specs.TwinLaws.{clause_twins, twins_alike, twins_back, twins_on}

-- the order of an ask
abbrev pub order_of : Question → RowOrder
order_of q = record { over = over q; twin = twins q }

-- no row dominates itself, and dominance is transitive
pub order_of_is_strict : (q : Question) → IsStrictOrder (order_of q).over
order_of_is_strict q = grind (arith, better_is, as_good_on, group_on)

-- rows of one group that are the same are alike in it
pub order_of_alike : (q : Question) (a b : List ℤ) → alike q a b ≡ true → StandAlike (order_of q).over a b
order_of_alike q a b h = grind (arith, better_is, same_is, as_good_on, group_on, group_back)

-- it is a row order: its twins are of one group, and the same
pub order_of_is_row_order : (q : Question) → IsRowOrder (order_of q)
order_of_is_row_order q = record {
  strict = order_of_is_strict q;
  symmetric = twins_back q;
  transitive = twins_on q;
  alike = λ a b h. order_of_alike q a b (twins_alike q a b h);
}

-- twins are just the rows of one group that are the same, where of equal rows one is kept
pub order_of_twins_are_alike : (q : Question) → IsAsk q → (a b : List ℤ) → (order_of q).twin a b ≡ (q.distinct && alike q a b)
order_of_twins_are_alike q known a b =
    let same_rows : q.distinct ≡ true → alike q a b ≡ in_same_group (q.group ++ columns_in q.preference) a b = λ keeps. clause_twins q a b (known.clause keeps).preference in
    grind (arith, same_rows)

-- and the same rows are their twins, since an ask that keeps one of equal rows is a skyline clause
pub order_of_twins_alike : (q : Question) → IsAsk q → (a b : List ℤ) → alike q a b ≡ true → StandAlike (order_of q).twin a b
order_of_twins_alike q known a b h = grind (arith, order_of_twins_are_alike, twins_back, twins_on)

-- a row dominates rows of its own group alone
pub order_of_stays_in_groups : (q : Question) (a b : List ℤ) → (order_of q).over a b ≡ true → in_same_group q.group a b ≡ true
order_of_stays_in_groups q a b h = grind arith

-- and twins are of one group
pub twins_stay_in_groups : (q : Question) (a b : List ℤ) → (order_of q).twin a b ≡ true → in_same_group q.group a b ≡ true
twins_stay_in_groups q a b h = grind (arith, twins_alike q a b h)
