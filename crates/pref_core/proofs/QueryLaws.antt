-- A query that follows its table: no id comes twice, a scan keeps on, and the end is the table's answer; so it is as long as the query lives.
use Rattle.pref_core.proofs.Common.{◌≡◌, ℕ, zero, suc, ◌+◌, ◌*◌, ◌≤◌, false, cond, eqb, ◌==◌, List, [], ◌∷◌, ◌++◌, length, take, drop, Option, Some, filter, refl, sym, ap, ◌∙◌, subst, arith, AllByRecursion, count_by, IsPermutation}
use Rattle.pref_core.proofs.Common.{map-append, take_all, take-append-drop, filter_map-append, sum_by-cons, IsPermutation-map, sum_by-IsPermutation, Entry, Ranked, answer_of, Question, Version, Limits, AreAllowed, Line, IsOrdered, entries}
use Rattle.pref_core.proofs.Common.{Contents, Shows, seen, visible, block_of, caller_begun, ran, Scan, begin, levels_for, next_block, NextIsNew, IsScanned, ends_query, Op, first_blocks, BlocksAreTheSlots, Open, one_less, Follows, take-add}
use Rattle.pref_core.proofs.Common.{Ok, Err, Begin, State, after, StandsFor, IsPlan, applied}
use Rattle.pref_sky.specs.Levels.{HaveDifferentIds}
use Rattle.pref_sky.proofs.ListLaws.{same_if_permuted}
use Rattle.pref_sky.proofs.LevelLaws.{levels_of_none, held_differ, answer_of_same, first_differ}
use Rattle.pref_core.specs.Queries.{IsOnItsWay, LivesTo, at_begin, after_op, after_scan, NextBlockIsNew, AnswersTheBegin}
use Rattle.pref_core.proofs.LineOfLaws.{one_line}
use Rattle.pref_core.proofs.StabilityLaws.{shown, shown_ran, begun_at, begun_own, lasts_applied}
use Rattle.pref_core.proofs.VisibleAfterOp.{visible_take, length-ran, shows_still}
use Rattle.pref_core.proofs.LegalLaws.{is_next-from, applied_stands, plans_in}

-- how often an id stands among the entries
count_id : (id : ℕ) (table : List Line) → count_by (λ (e : Entry). e.id == id) (entries table) ≡ length (filter (λ (line : Line). eqb line.id id) table)
count_id id [] = refl
count_id id (line ∷ rest) = grind (arith, count_id id rest, sum_by-cons (λ (e : Entry). cond {A = ℕ} (e.id == id) 1 0) (record { id = line.id; row = line.row }) (entries rest))

pub table_differs : (table : List Line) → IsOrdered table → HaveDifferentIds (entries table)
table_differs table ordered = record { once = λ id. subst (λ n. n ≤ 1) (sym (count_id id table)) (one_line id table ordered) }

differs_along : (xs ys : List Entry) → IsPermutation xs ys → HaveDifferentIds ys → HaveDifferentIds xs
differs_along xs ys same different = record { once = λ id. let a = sum_by-IsPermutation (λ (e : Entry). cond {A = ℕ} (e.id == id) 1 0) xs ys same in let b = different.once id in omega arith }

pub shown_differs : (slots : List (Option Version)) (stamp : ℕ) (table : List Line) → Shows slots stamp table → HaveDifferentIds (entries (visible stamp slots))
shown_differs slots stamp table shows = differs_along _ _ (IsPermutation-map (λ (l : Line). record { id = l.id; row = l.row }) _ _ shows.lines) (table_differs table shows.ordered)

entries_append : (stamp : ℕ) (xs ys : List (Option Version)) → entries (visible stamp (xs ++ ys)) ≡ entries (visible stamp xs) ++ entries (visible stamp ys)
entries_append stamp xs ys = ap entries (filter_map-append (seen stamp) xs ys) ∙ map-append (λ (l : Line). record { id = l.id; row = l.row }) (visible stamp xs) (visible stamp ys)

-- what was scanned and the next block are what one block more shows
with_next : (scan : Scan) (slots : List (Option Version)) → entries (visible scan.stamp (take (scan.done * scan.size) slots)) ++ next_block scan slots ≡ entries (visible scan.stamp (take ((scan.done + 1) * scan.size) slots))
with_next scan slots =
    let more : scan.done * scan.size + scan.size ≡ (scan.done + 1) * scan.size = omega arith in
    sym (entries_append scan.stamp (take (scan.done * scan.size) slots) (block_of scan.done scan.size slots))
    ∙ ap (λ l. entries (visible scan.stamp l)) (sym (take-add (scan.done * scan.size) scan.size slots))
    ∙ ap (λ n. entries (visible scan.stamp (take n slots))) more

-- no id of the next block came before
next_differs : (scan : Scan) (slots : List (Option Version)) (table : List Line) → Shows slots scan.stamp table → HaveDifferentIds (entries (visible scan.stamp (take (scan.done * scan.size) slots)) ++ next_block scan slots)
next_differs scan slots table shows =
    subst HaveDifferentIds (sym (with_next scan slots)) (grind (arith, first_differ, take-append-drop ((scan.done + 1) * scan.size) slots, entries_append scan.stamp (take ((scan.done + 1) * scan.size) slots) (drop ((scan.done + 1) * scan.size) slots), shown_differs slots scan.stamp table shows))

-- Where the slots show a table at its begin, the next block is new to it, ..
pub next_is_new_on_its_way : (slots : List (Option Version)) (scan : Scan) (table : List Line) → Shows slots scan.stamp table → IsOnItsWay slots scan → NextIsNew scan slots
next_is_new_on_its_way slots scan table shows h = grind (arith, held_differ, next_differs)

-- .. and a scan keeps it on its way
pub scanned_on_its_way : (slots : List (Option Version)) (before after : Scan) (table : List Line) → Shows slots before.stamp table → IsOnItsWay slots before → IsScanned before slots after → IsOnItsWay slots after
scanned_on_its_way slots scan new table shows h is =
    let scanned = entries (visible scan.stamp (take (scan.done * scan.size) slots)) in
    let more : new.partial ≡ levels_for scan.ask (scanned ++ next_block scan slots) = is.partial scanned (next_differs scan slots table shows) h.partial in
    let size : (scan.done + 1) * scan.size ≡ new.done * new.size = (λ i. sym is.done i * sym is.size i) in
    let there : scanned ++ next_block scan slots ≡ entries (visible new.stamp (take (new.done * new.size) slots)) = with_next scan slots ∙ (λ i. entries (visible (sym is.stamp i) (take (size i) slots))) in
    let as_many : scan.done + scan.left ≡ new.done + new.left = let done = is.done in let left = is.left in omega arith in
    record {
      partial = more ∙ (λ i. levels_for (sym is.ask i) (there i));
      rest = subst (λ n. length slots ≤ n) (λ i. as_many i * sym is.size i) h.rest;
    }

pub next_is_new : (slots : List (Option Version)) (scan : Scan) (query : Open) → Shows slots query.commits query.table → Follows slots scan query → NextIsNew scan slots
next_is_new slots scan query shows h = next_is_new_on_its_way slots scan query.table (subst (λ n. Shows slots n query.table) (sym h.stamp) shows) h.way

pub follows_scanned : (slots : List (Option Version)) (scan new : Scan) (query : Open) → Shows slots query.commits query.table → Follows slots scan query → IsScanned scan slots new → Follows slots new (one_less query)
follows_scanned slots scan new query shows h is =
    let way = scanned_on_its_way slots scan new query.table (subst (λ n. Shows slots n query.table) (sym h.stamp) shows) h.way is in
    record { ask = is.ask ∙ h.ask; stamp = is.stamp ∙ h.stamp; left = omega (arith, is.left, h.left); way = way }

pub begun_on_its_way : (limits : Limits) (slots : List (Option Version)) (ask : Question) (stamp : ℕ) → AreAllowed limits → length slots ≡ limits.capacity → IsOnItsWay slots (begin ask stamp limits)
begun_on_its_way limits slots ask stamp allowed long = grind (arith, levels_of_none)

-- what shows the same, and as many slots
pub way_stays : (before after : List (Option Version)) (scan : Scan) → length after ≡ length before → shown scan.stamp after ≡ shown scan.stamp before → IsOnItsWay before scan → IsOnItsWay after scan
way_stays before after scan long same h = grind (arith, visible_take scan.stamp (scan.done * scan.size) before after same)

-- whatever is done to the slots while the query is open
pub stays_on_its_way : (contents : Contents) (client : ℕ) (scan : Scan) → caller_begun contents client ≡ Some scan.stamp → scan.stamp ≤ contents.stamp
    → (ops : List Op) → AllByRecursion (λ op. ends_query client op ≡ false) ops → IsOnItsWay contents.slots scan → IsOnItsWay (ran contents ops).slots scan
stays_on_its_way contents client scan is early ops open_ h = way_stays contents.slots (ran contents ops).slots scan (length-ran ops contents) (shown_ran ops contents client scan.stamp is early open_) h

-- Once no block is left, an answer of what is held is the answer of the table at the begin.
pub answers_the_begin : (slots : List (Option Version)) (scan : Scan) (table : List Line) (ranked : List Ranked) → Shows slots scan.stamp table → IsOnItsWay slots scan → scan.left ≡ 0
    → ((list : List Entry) → scan.partial ≡ levels_for scan.ask list → ranked ≡ answer_of scan.ask list) → ranked ≡ answer_of scan.ask (entries table)
answers_the_begin slots scan table ranked shows h none says =
    let whole = take_all (scan.done * scan.size) slots (grind (arith)) in
    says (entries (visible scan.stamp slots)) (grind (arith))
    ∙ answer_of_same scan.ask _ _ (shown_differs slots scan.stamp table shows) (table_differs table shows.ordered)
    (same_if_permuted _ _ (IsPermutation-map (λ (l : Line). record { id = l.id; row = l.row }) _ _ shows.lines))

pub follows_answered : (slots : List (Option Version)) (scan : Scan) (query : Open) (ranked : List Ranked) → Shows slots query.commits query.table → Follows slots scan query → scan.left ≡ 0
    → ((list : List Entry) → scan.partial ≡ levels_for scan.ask list → ranked ≡ answer_of scan.ask list) → ranked ≡ answer_of query.ask (entries query.table)
follows_answered slots scan query ranked shows h none says = grind (arith, answers_the_begin slots scan query.table ranked)

-- The blocks, one after the other, are the slots.
first_blocks_taken : (n size : ℕ) (slots : List (Option Version)) → first_blocks n size slots ≡ take (n * size) slots
first_blocks_taken zero size slots = grind (arith)
first_blocks_taken (suc n) size slots = grind (arith, first_blocks_taken n size slots, take-add (n * size) size slots)

pub blocks_are_the_slots : BlocksAreTheSlots
blocks_are_the_slots limits slots allowed long = grind (arith, first_blocks_taken, take_all)

-- what holds of a query as long as it lives
record IsOpen (contents : Contents) (client : ℕ) (ask : Question) (table : List Line) (scan : Scan) : Type 0 where
  asks : scan.ask ≡ ask
  at_begin : caller_begun contents client ≡ Some scan.stamp
  within : scan.stamp ≤ contents.stamp
  shows : Shows contents.slots scan.stamp table
  way : IsOnItsWay contents.slots scan

open_begun : (limits : Limits) (first : Contents) (state : State) (client : ℕ) (ask : Question) (op : Op) → AreAllowed limits → length first.slots ≡ limits.capacity → StandsFor first state → IsPlan first client Begin op
    → IsOpen (applied first op) client ask state.table (begin ask first.stamp limits)
open_begun limits first state client ask op allowed long h plan =
    let legal = (plans_in first state client Begin (Ok op) h plan).2 in
    let stands = subst (λ c. StandsFor (applied first op) (after (length first.slots) state op.client c)) plan.what (applied_stands first state op h legal) in
    let still : (applied first op).stamp ≡ first.stamp = stands.stamp ∙ sym h.stamp in
    record {
      asks = refl;
      at_begin = subst (λ n. caller_begun (applied first op) n ≡ Some first.stamp) plan.by (let what = plan.what in grind (arith, is_next-from, begun_at, begun_own));
      within = omega arith;
      shows = subst (λ n. Shows (applied first op).slots n state.table) still stands.table;
      way = begun_on_its_way limits (applied first op).slots ask first.stamp allowed (length-ran (op ∷ []) first ∙ long);
    }

open_changed : (contents : Contents) (client : ℕ) (ask : Question) (table : List Line) (scan : Scan) (op : Op) → IsOpen contents client ask table scan → ends_query client op ≡ false → IsOpen (applied contents op) client ask table scan
open_changed contents client ask table scan op h goes_on =
    let lasts = lasts_applied contents client scan.stamp op h.at_begin h.within goes_on in
    record {
      asks = h.asks;
      at_begin = lasts.at_begin;
      within = lasts.within;
      shows = shows_still contents.slots (applied contents op).slots scan.stamp table lasts.shows h.shows;
      way = way_stays contents.slots (applied contents op).slots scan (length-ran (op ∷ []) contents) lasts.shows h.way;
    }

open_while_it_lives : (limits : Limits) (first : Contents) (state : State) (client : ℕ) (ask : Question) (contents : Contents) (scan : Scan) → AreAllowed limits → length first.slots ≡ limits.capacity → StandsFor first state
    → LivesTo limits first client ask contents scan → IsOpen contents client ask state.table scan
open_while_it_lives limits first state client ask contents scan allowed long h life = go life
  where
    go : {c : Contents} {s : Scan} → LivesTo limits first client ask c s → IsOpen c client ask state.table s
    go (at_begin op plan) = open_begun limits first state client ask op allowed long h plan
    go (after_op c s op life goes_on) = open_changed c client ask state.table s op (go life) goes_on
    go (after_scan c s new life is) = let open_ = go life in grind (arith, scanned_on_its_way)

pub next_block_is_new : NextBlockIsNew
next_block_is_new limits first state client ask contents scan allowed long h life = grind (arith, open_while_it_lives limits first state client ask contents scan allowed long h life, next_is_new_on_its_way)

pub lives_answer_the_begin : AnswersTheBegin
lives_answer_the_begin limits first state client ask contents scan allowed long h life (Err fault) returned = tt
lives_answer_the_begin limits first state client ask contents scan allowed long h life (Ok ranked) returned =
    let open_ = open_while_it_lives limits first state client ask contents scan allowed long h life in
    answers_the_begin contents.slots scan state.table ranked.items open_.shows open_.way returned.0 returned.1 ∙ ap (λ q. answer_of q (entries state.table)) open_.asks
