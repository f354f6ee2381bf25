-- The names that the proofs of this crate share, passed on from one place. Declares nothing.
pub use Rattle.std.proofs.Common.{◌%◌, ◌*◌, ◌+◌, ◌++◌, ◌-◌, ◌/◌, ◌<◌, Bool, Bor, Err, List, None, Ok, Option, Result, Some, [], ◌^◌, add-one, ap, append-nil, append_assoc, arith, cond, drop, eq-eqb}
pub use Rattle.std.proofs.Common.{false, get_or, if◌then◌else◌, inl, inr, length, map, nat_le, nat_lt, negsuc, not, of_z, pos, refl, rules, subst, suc, sym, take, tests, to_z, true, w64, zero, ℕ, ℤ}
pub use Rattle.std.proofs.Common.{◌∙◌, ◌∷◌, ◌≡◌, ◌≤◌, ◌⊎◌}
pub use Rattle.std.proofs.Math.Seq.{drop-append_seam, drop-cons, take-append_seam, take-length}
pub use Rattle.std.proofs.lemmas.Bool.{and_from, and_parts, and_right, cond_both, false≢true, ltb-false, not-true, or_parts}
pub use Rattle.std.proofs.lemmas.Bool.Decides.{Decides-int_eq, nat_tests, not_from_Decides}
pub use Rattle.std.proofs.lemmas.Fmt.{decimal_digit, decimal_nonempty, digits_decimal, digits_value-decimal}
pub use Rattle.std.proofs.lemmas.Grind.{common_steps}
pub use Rattle.std.proofs.lemmas.Int.{ints, to_z-of_z}
pub use Rattle.std.proofs.lemmas.List.{drop-drop, length-append, length-drop, map-append}
pub use Rattle.std.proofs.lemmas.List.Elements.{All-append, All-cons, All-contains, All-head, All-nil, All-same, All-tail, recursion_from_All}
pub use Rattle.std.proofs.lemmas.Result.{IfErr-weaker, IfOk-weaker}
pub use Rattle.std.proofs.lemmas.Slice.Eq.{bytes_eq-Decides, slice_eq-Decides}
pub use Rattle.std.specs.Char.{is_ascii_alphabetic, is_ascii_digit}
pub use Rattle.std.specs.Int.{bit_at, bit_not, from_bool}
pub use Rattle.std.specs.List.{AllByRecursion, find, flat_map, list_all, list_any, position_or_len, prefix_len}
pub use Rattle.std.specs.Option.{option_map, option_or}
pub use Rattle.std.specs.Ordering.{int_eq}
pub use Rattle.std.specs.Prelude.{◌&&◌, ◌+ℤ◌, ◌-ℤ◌, ◌==◌, All, FitsSigned, IfErr, IfOk, IfSome, IsErrAnd, MatchResult, bit_and, codes, decimal, fold, int_lt, is_none, min, neg_ℤ, position}
pub use Rattle.std.specs.Prelude.{unsigned_abs, unwrap_or, ◌≢◌}
pub use Rattle.std.specs.Str.{all_ascii_digits, bytes_eq, str_to_ascii_lowercase}
pub use Rattle.pref_table.specs.Names.{is_name, is_name_byte, name_after, name_in}
pub use Rattle.pref_table.specs.Number.{fits_cell, is_blank}
pub use Rattle.pref_term.specs.Ahead.{ahead, behind_token, taken}
pub use Rattle.pref_term.specs.AskOrder.{order_of, order_of_alike, order_of_twins_alike, order_of_twins_are_alike}
pub use Rattle.pref_term.specs.Asked.{meant, ordered}
pub use Rattle.pref_term.specs.Better.{better, cell, in_same_group, missed, outside, same, score, sets_before}
pub use Rattle.pref_term.specs.Chains.{AreInRow, by_chain, is_chain}
pub use Rattle.pref_term.specs.Columns.{ReadsBelow, column, columns_in}
pub use Rattle.pref_term.specs.Distinct.{is_distinct_ahead, is_in_any_case, is_word, plain, says_distinct, without_third}
pub use Rattle.pref_term.specs.Grammar.{AskText, BaseText, CasedWord, DimText, Direction, HeadText, IsText, IsWritten, Keyword, Leaf, NumberText, PriorText, ProductText, SetText, UnaryText}
pub use Rattle.pref_term.specs.Grammar.{after_commas, around_text, around_word, ask_leaves, at_least_head, at_least_word, base_leaves, base_words, based, best_head, best_word, between_text, between_word, by_word, column_leaves}
pub use Rattle.pref_term.specs.Grammar.{cased, cased_in, cased_letters, cased_of, column_name, count_digits, diff_word, different, dim_leaves, direction_word, end_leaves, group_leaves, grouped}
pub use Rattle.pref_term.specs.Grammar.{head_leaves, high_text, high_word, keyword_of, last, layered_text, layered_word, letters_of, list_leaves, low_text, low_word, mark, max_word, maximal, min_word}
pub use Rattle.pref_term.specs.Grammar.{minimal, name, negated, number_digits, number_leaves, of_word, one_factor, one_product, opens, outer_words}
pub use Rattle.pref_term.specs.Grammar.{pos_text, pos_word, prior_leaves, product_leaves, rated, reverse_word, reversed, set_leaves, signed_leaves, skyline, skyline_word, then_factor, then_product}
pub use Rattle.pref_term.specs.Grammar.{token_of, top_level_head, top_level_word, unary_leaves}
pub use Rattle.pref_term.specs.Keys.{by_key, by_keys, from_zero, is_number, is_product, key_for, keyed, leading, opposed}
pub use Rattle.pref_term.specs.Order.{is_better, is_same, is_worse}
pub use Rattle.pref_term.specs.Preference.{Base, Preference, around, between, high, layered, low, one_of, pareto, preference_of, prior, reverse, scored}
pub use Rattle.pref_term.specs.Question.{FitsWidth, IsAsk, IsClause, IsCount, IsDimension, IsSkyline, Question, alike, cut_of, is_count}
pub use Rattle.pref_term.specs.ReaderResults.{Asks, AsksClause, AsksWhole, Fails, FailsBase, FailsClause, FailsColumn, FailsColumns, FailsCount, FailsOf}
pub use Rattle.pref_term.specs.ReaderResults.{FailsDim, FailsDirection, FailsGroup, FailsGrouping, FailsNumber, FailsNumbers, FailsOpened, FailsPrior, FailsProduct, FailsSets, FailsUnary}
pub use Rattle.pref_term.specs.ReaderResults.{Goes, IsBehindDistinct, IsColumn, IsKnown, IsNoWord, IsOther, IsTermOf, NotNext, Passes, PassesOf, ReadsBase, ReadsClause, ReadsColumns}
pub use Rattle.pref_term.specs.ReaderResults.{ReadsDim, ReadsDims, ReadsFactors, ReadsGroup, ReadsGrouping, ReadsNumber, ReadsNumbers, ReadsOpened, ReadsPrior, ReadsProduct, ReadsProducts}
pub use Rattle.pref_term.specs.ReaderResults.{ReadsSets, ReadsSome, ReadsSomeColumns, ReadsSomeSets, ReadsTree, ReadsUnary, TakesColumn, TakesCount, TakesDirection, WantsColumn}
pub use Rattle.pref_term.specs.ReaderResults.{behind_column, first_place, with_order, word_ahead, Gives, Parses}
pub use Rattle.pref_term.specs.Reading.{BaseKind, BasePart, BaseStep, NumberHole, NumberList, PriorHole, ProductHole, State, UnaryHole, after, around_kind, base_next}
pub use Rattle.pref_term.specs.Reading.{before_next, before_prior, before_product, before_unary, begun, between_kind, carried, centre_of, centred, closed, closing, columned, completed, dim_due, dim_named}
pub use Rattle.pref_term.specs.Reading.{dims_listed, directed, done, end_of, ended, filled, finished, first_factor, first_product, group_due, group_listed, grouped_by, high_kind}
pub use Rattle.pref_term.specs.Reading.{hole_leaves, in_group, in_minus, in_pos, in_reverse, in_set, in_whole, judged, kind_word, layered_kind, least_of, led, list_closed, listed}
pub use Rattle.pref_term.specs.Reading.{low_kind, named, next, next_factor, next_of, next_product, number_due, number_signed, of_named, opened, operand, operand_word, outer, part}
pub use Rattle.pref_term.specs.Reading.{part_leaves, parted, pos_kind, prior_depth, product_depth, range_ended, ranged, ranked, read_of, reading, reverse_named, run, set_due, sets_listed}
pub use Rattle.pref_term.specs.Reading.{skyline_named, start, start_of, stepped, unary_depth, whole, whole_base, with_next, CountKind, levels, rows, count_word, count_head, count_due}
pub use Rattle.pref_term.specs.SeenTokens.{IsFront, seen}
pub use Rattle.pref_term.specs.Shown.{IsShownAs, held, held_nests, is_composed, is_prior, name_at, nests, shown, shown_after_commas, shown_base, shown_diff, shown_dims, shown_group, shown_mode, shown_set}
pub use Rattle.pref_term.specs.Shown.{shown_term, worked_names}
pub use Rattle.pref_term.specs.Signatures.{Suit, bits_by, is_within, signature, signed_onto, with_bit}
pub use Rattle.pref_term.specs.Spells.{Faults, FirstFault, HasOwnFault, IsGood, IsUnexpected, LacksOrder, Names, OwnFault, Spells, Starts, UnlessMemory, bad_count, base_meaning, below, column_at}
pub use Rattle.pref_term.specs.Spells.{empty_range, group_by, groups_of, last_place, mode_of, number_range, number_value, order_by, orders_of, own_fault, prior_meaning, product_meaning, product_of}
pub use Rattle.pref_term.specs.Spells.{question, reported, reported_at, set_value, signed_value, tokens_in, tokens_on, too_deep, unary_meaning, unknown_column}
pub use Rattle.pref_term.specs.Token.{Placed, Sign, Token, ampersand, comma, digits, finish, left, left_brace, minus, more_bytes, other, right, right_brace, sign, sign_or_other, star, token_from}
pub use Rattle.pref_term.specs.Token.{tokens_from, tokens_of, word}
pub use Rattle.pref_term.specs.TwinLaws.{clause_twins, twins_alike}
pub use Rattle.pref_term.specs.Walk.{by_scores, by_sides, in_priority, in_product, walked}
pub use Rattle.pref_term.specs.Writable.{IsWritable, IsWritableBase, IsWritableSet}
pub use Rattle.pref_term.specs.declared.ask.Mode.{Mode}
pub use Rattle.pref_term.specs.declared.ask.Mode.TheVariants.{AtLeast, Best, TopLevel}
pub use Rattle.pref_term.specs.declared.cursor.Cursor.{Cursor}
pub use Rattle.pref_term.specs.declared.cursor.Lexeme.{Lexeme}
pub use Rattle.pref_term.specs.declared.fault.TermFault.{TermFault}
pub use Rattle.pref_term.specs.declared.fault.TermFault.TheVariants.{EmptyRange, NoMinOrMax, NumberRange, OutOfMemory, TooDeep, TooLong, Unexpected}
pub use Rattle.pref_term.specs.declared.front.Token.TheVariants.{Digits, End, Word}
pub use Rattle.pref_term.specs.declared.key.Key.{Key}
pub use Rattle.pref_term.specs.declared.relation.Relation.{Relation}
pub use Rattle.pref_term.specs.declared.relation.Relation.TheVariants.{Better, Neither, Same, Worse}
pub use Rattle.pref_term.specs.declared.term.Term.{Term}
unfoldable pub use Rattle.pref_table.specs.Names.{schema_of}
unfoldable pub use Rattle.pref_term.specs.Asked.{asked}
