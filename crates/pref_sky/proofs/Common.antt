-- The names that the proofs of this crate share, passed on from one place. Declares nothing.
pub use Rattle.std.proofs.Common.{◌&&◌, ◌+◌, ◌++◌, ◌-◌, ◌/◌, ◌<◌, ◌==◌, Bool, Bor, Err, Global, List, Ok, Ordering, Result, Vec, [], ◌^◌, add-one, ap, append-nil, append_assoc, arith, cond, drop}
pub use Rattle.std.proofs.Common.{drop_of_length-le, eq-eqb, eqb, false, filter, get_or, get_or-set_other, get_or-set_same, inl, inr, is_ok, leb, length, length-append, length-drop, length-take, ltb}
pub use Rattle.std.proofs.Common.{map, max, nat_lt, not, pos, refl, rules, set, subst, suc, sym, take, true, vec_len, zero, ◌||◌, ℕ, ℤ, ◌∙◌, ◌∷◌, ◌≡◌, ◌≤◌, ◌⊎◌}
pub use Rattle.std.proofs.Math.Seq.{drop-append_seam, drop-cons, get_or-append_seam, take-append_seam, take-length}
pub use Rattle.std.proofs.lemmas.Bool.{and_from, and_parts, and_right, both_ways, cases_Bool, cases_eq, cases_lt, cond-false, cond-true, cond_both, eqb-false, eqb-true, false_from_ne_true, false≢true}
pub use Rattle.std.proofs.lemmas.Bool.{le-ltb, lt-ltb, ltb-false, ltb-true, not-true, not_from_false, or_cases, or_from}
pub use Rattle.std.proofs.lemmas.Bool.Decides.{Decides-int_eq, nat_tests}
pub use Rattle.std.proofs.lemmas.Fn.{always_returns_same}
pub use Rattle.std.proofs.lemmas.List.{at_drop_more, drop-append-le, drop-map, drop_all, drop_more, get_or-append_right, get_or-drop, get_or-map, get_or-take, get_or_append_left, get_or_default}
pub use Rattle.std.proofs.lemmas.List.{get_or_push, get_or_read, length-map, length-set, length-take-le, length_push, map-append, nil_from_length, take-append-drop, take-map, take_all, take_more}
pub use Rattle.std.proofs.lemmas.List.{with_items_is}
pub use Rattle.std.proofs.lemmas.List.Elements.{All-append, All-drop, All-more, All-push, All-take, filter-append, filter_agree, filter_more}
pub use Rattle.std.proofs.lemmas.List.Filters.{FiltersInPlace, FiltersInPlace-all, FiltersInPlace-more_no, FiltersInPlace-more_set, length-filter_both}
pub use Rattle.std.proofs.lemmas.List.Sorted.{All-permutation, Contains-permutation, IsNonDecreasingBy-drop, IsNonDecreasingBy-from_all_adjacent, IsNonDecreasingBy-from_sort_by_key}
pub use Rattle.std.proofs.lemmas.List.Sorted.{IsPartitionPoint-from_clause, IsPartitionedBy-leb, IsPartitionedBy-ltb, IsPermutation-append_right, IsPermutation-cons, IsPermutation-map}
pub use Rattle.std.proofs.lemmas.List.Sorted.{IsPermutation-middle, IsPermutation-refl, IsPermutation-swap, IsPermutation-sym, IsPermutation-to_front, IsPermutation-trans, sorted_far}
pub use Rattle.std.proofs.lemmas.List.Sorted.{sum_by-IsPermutation}
pub use Rattle.std.proofs.lemmas.List.Sums.{count_by-le-length, length-filter, sum_by-append, sum_by-cons, sum_by-le-sum_by, sum_by-take-drop, sum_by_push}
pub use Rattle.std.proofs.lemmas.Result.{IfOk-weaker}
pub use Rattle.std.specs.Fn.{Called}
pub use Rattle.std.specs.List.{count_by, flat_map, items_where_true, list_any, sum_by}
pub use Rattle.std.specs.List.Sorted.{IsNonDecreasingBy, IsPartitionPoint, IsPartitionedBy, IsPermutation, IsSortedBy, IsSortedByClosure, IsSortedByKeyClosure}
pub use Rattle.std.specs.Ordering.{int_eq, is_lt, nat_cmp, ordering_then}
pub use Rattle.std.specs.Prelude.{All, IfSome, OnOk, int_lt, min, slice_set}
pub use Rattle.pref_sky.specs.Answers.{answer_of, at_least, count_before, count_upto, selected}
pub use Rattle.pref_sky.specs.Best.{best, is_beaten, rest, without_best}
pub use Rattle.pref_sky.specs.Levels.{HaveDifferentIds, at_level, entry_of, entry_order, held_after, held_of_parts, in_order_of_id, levels, put_by_id}
pub use Rattle.pref_sky.specs.Members.{Among}
pub use Rattle.pref_sky.specs.Passes.{IsClear, IsThere, Passing}
pub use Rattle.pref_sky.specs.declared.entry.Entry.{Entry}
pub use Rattle.pref_sky.specs.declared.entry.Ranked.{Ranked}
pub use Rattle.pref_sky.specs.declared.item.Item.{Item}
pub use Rattle.pref_table.specs.declared.row.Row.{Row}
pub use Rattle.pref_term.specs.AskOrder.{order_of, order_of_is_row_order, order_of_stays_in_groups, twins_stay_in_groups}
pub use Rattle.pref_term.specs.Better.{cell, in_same_group}
pub use Rattle.pref_term.specs.Chains.{by_chain}
pub use Rattle.pref_term.specs.Order.{IsRowOrder, IsStrictOrder, RowOrder, StandAlike, is_better, is_same, is_worse}
pub use Rattle.pref_term.specs.Question.{Question, cut_of}
pub use Rattle.pref_term.specs.Signatures.{Suit, is_within, signature}
pub use Rattle.pref_term.specs.declared.ask.Mode.TheVariants.{AtLeast, Best, TopLevel}
pub use denote.Param.Members.{Mut}
pub use Rattle.pref_sky.specs.Chains.{IsChain, IsInOrder, are_level, better_in, by_row, comes_first, earlier_in, in_turn}
pub use Rattle.pref_sky.specs.OwnOrders.{AreInOrder, AreLeveled, AreLowest, AreSorted, comes_after, comes_before, count_above, is_below, level_of, own_levels, own_order}
pub use Rattle.pref_sky.specs.Items.{entry_at}
pub use Rattle.pref_sky.specs.declared.own_order.OwnOrder.{OwnOrder}
