-- A question's order of entries, and the one in which they are kept, which is a chain: what dominates another comes before it.
use Rattle.pref_sky.proofs.Common.{◌≡◌, ℕ, false, not, List, [], sym, ◌∙◌, ap, arith, nat_lt, cases_lt, ◌<◌, ◌≤◌, length, IsStrictOrder, order_of, order_of_is_row_order}
use Rattle.pref_sky.proofs.Common.{Entry, OwnOrder, AreInOrder, comes_before, own_order, own_levels, entry_order, entry_at, better_in, by_row, IsChain, RowOrder, levels}
use Rattle.pref_term.specs.Extension.{ask_keys}
use Rattle.pref_sky.proofs.ChainLaws.{chain_in_turn, keys_chain}
use Rattle.pref_sky.proofs.ListLaws.{in_order_at}
use Rattle.pref_sky.proofs.Merges.{entry_order_is_strict}

pub own_is_strict : (order : OwnOrder) → IsStrictOrder (own_order order)
own_is_strict order = entry_order_is_strict (order_of order.ask) (order_of_is_row_order order.ask)

-- where an order is a question's, so are its levels
pub own_levels_are : (order : RowOrder) (own : OwnOrder) (cut : ℕ) → (order ≡ order_of own.ask) × (own.cut ≡ cut) → (all : List Entry) → levels (entry_order order) all cut ≡ own_levels own all
own_levels_are order own cut is all = ap (λ o. levels (entry_order o) all cut) is.0 ∙ ap (levels (own_order own) all) (sym is.1)

-- the order in which entries are kept is a chain
pub before_is_chain : (order : OwnOrder) → IsChain (comes_before order)
before_is_chain order = chain_in_turn (by_row (better_in (ask_keys order.ask))) (λ a b. nat_lt a.id b.id) (grind (arith, keys_chain (ask_keys order.ask))) (grind arith)

-- in a list in this order none comes before what stands in front of it
pub stands_behind : (order : OwnOrder) (xs : List Entry) → AreInOrder order xs → (j p : ℕ) → j ≤ p → p < length xs → comes_before order (entry_at xs p) (entry_at xs j) ≡ false
stands_behind order xs ordered j p le inside =
    grind (arith, cases_lt j p, in_order_at (λ a b. not (comes_before order b a)) xs j p (record { id = 0; row = [] }) ordered, (before_is_chain order).strict.irreflexive (entry_at xs p))
