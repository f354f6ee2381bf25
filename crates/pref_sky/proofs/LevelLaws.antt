-- Laws of the levels, for the crates above: no entries have no levels, the order in which entries stand does not matter, what is held has different ids, and of twins the first is best.
use Rattle.pref_sky.proofs.Common.{◌≡◌, List, arith, Entry, entry_order, Among, ℕ, zero, suc, Bool, [], ◌∷◌, ◌++◌, map, append_assoc, refl, sym, ◌∙◌, ap, append-nil, ◌==◌}
use Rattle.pref_sky.proofs.Common.{flat_map, IsStrictOrder, Question, Ranked, order_of, order_of_is_row_order, HaveDifferentIds, entry_of, held_after, held_of_parts, in_order_of_id}
use Rattle.pref_sky.proofs.Common.{levels, cut_of, in_same_group, answer_of}
use Rattle.pref_sky.proofs.ListLaws.{SameMembers, in_left, in_right, count_append}
use Rattle.pref_sky.proofs.IdOrder.{in_order_moves, same_in_order}
use Rattle.pref_sky.proofs.KeptLaws.{keeps_all, keeps_joined, keeps_moved, keeps_still, kept_differ}
use Rattle.pref_sky.proofs.Merges.{best_of_rest_is, comes_after_among_more, entry_order_is_strict, entry_order_stays_in_groups}
use Rattle.pref_sky.proofs.SortedLevels.{KeepsUpper, levels_keep, levels_kept, merge}
use Rattle.pref_sky.proofs.AtLeastLaws.{enough}

-- of nothing there are no levels
pub levels_of_none : (over : Entry → Entry → Bool) (n : ℕ) → [] ≡ levels over [] n
levels_of_none over zero = refl
levels_of_none over (suc n) = grind (arith, levels_of_none over n, best_of_rest_is over [] n)

-- what is held of entries has different ids, and so it has beside new ones
pub levels_differ : (over : Entry → Entry → Bool) (all : List Entry) (n : ℕ) → HaveDifferentIds all → HaveDifferentIds (map entry_of (levels over all n))
levels_differ over all n = kept_differ _ _ (levels_keep over all n)

pub held_differ : (over : Entry → Entry → Bool) (before new : List Entry) (n : ℕ) → HaveDifferentIds (before ++ new) → HaveDifferentIds (map entry_of (levels over before n) ++ new)
held_differ over before new n = kept_differ _ _ (keeps_joined _ _ _ _ (levels_keep over before n) (keeps_all new))

-- an answer is made of the levels up to the cut
answer_by_cut : (ask : Question) (xs ys : List Entry) → levels (entry_order (order_of ask)) xs (cut_of ask.mode) ≡ levels (entry_order (order_of ask)) ys (cut_of ask.mode) → answer_of ask xs ≡ answer_of ask ys
answer_by_cut ask xs ys same =
    let enough = enough (entry_order (order_of ask)) (entry_order_is_strict (order_of ask) (order_of_is_row_order ask)) (in_same_group ask.group) (entry_order_stays_in_groups ask) in
    grind (arith, enough xs, enough ys)

-- the order in which the entries stand does not matter: those of each list have the same levels in order of id
levels_in_order : (over : Entry → Entry → Bool) → IsStrictOrder over → (all : List Entry) → HaveDifferentIds all → (n : ℕ) → levels over (in_order_of_id all) n ≡ levels over all n
levels_in_order over strict all different n = levels_kept over strict _ all n (keeps_moved _ _ (keeps_all all) _ (in_order_moves all)) (levels_differ over all n different)

pub answer_of_same : (ask : Question) (xs ys : List Entry) → HaveDifferentIds xs → HaveDifferentIds ys → SameMembers xs ys → answer_of ask xs ≡ answer_of ask ys
answer_of_same ask xs ys dx dy same =
    let in_order = levels_in_order (entry_order (order_of ask)) (entry_order_is_strict (order_of ask) (order_of_is_row_order ask)) in
    answer_by_cut ask xs ys (grind (arith, in_order xs dx (cut_of ask.mode), in_order ys dy (cut_of ask.mode), same_in_order xs ys dx dy same))

-- the first ones of a list have different ids where all have
pub first_differ : (xs ys : List Entry) → HaveDifferentIds (xs ++ ys) → HaveDifferentIds xs
first_differ xs ys different = record { once = λ id. omega (arith, different.once id, count_append (λ (e : Entry). e.id == id) xs ys) }

-- the next piece of a list, where those before and the rest are the whole of it
pub next_piece : {whole rest : List Entry} (done piece others : List Entry) → whole ≡ done ++ rest → rest ≡ piece ++ others → HaveDifferentIds whole → (whole ≡ (done ++ piece) ++ others) × HaveDifferentIds (done ++ piece)
next_piece done piece others all cut different = grind (arith, append_assoc done piece others, first_differ (done ++ piece) others)

-- beside entries that have no levels up to the cut, new ones have those of all
pub merge_none : (over : Entry → Entry → Bool) → IsStrictOrder over → (cut : ℕ) (before new : List Entry) → HaveDifferentIds (before ++ new) → [] ≡ levels over before cut → levels over new cut ≡ levels over (before ++ new) cut
merge_none over strict cut before new different none = ap (λ l. levels over (map entry_of l ++ new) cut) none ∙ merge over strict cut before new (held_differ over before new cut different)

-- the pieces after those before, one after the other
cut_into : (over : Entry → Entry → Bool) → IsStrictOrder over → (cut : ℕ) (before : List Entry) (held : List Ranked) (pieces : List (List Entry)) → held ≡ levels over before cut
    → HaveDifferentIds (before ++ flat_map (λ piece. piece) pieces) → held_after over cut held pieces ≡ levels over (before ++ flat_map (λ piece. piece) pieces) cut
cut_into over strict cut before held [] is different = is ∙ ap (λ l. levels over l cut) (sym (append-nil before))
cut_into over strict cut before held (piece ∷ pieces) is different =
    let others = flat_map (λ (p : List Entry). p) pieces in
    grind (arith, append_assoc before piece others, first_differ (before ++ piece) others, cut_into over strict cut (before ++ piece) (levels over (map entry_of held ++ piece) cut) pieces, merge over strict cut before piece, held_differ over before piece cut)

-- however a list is cut into pieces
pub held_after_pieces : (over : Entry → Entry → Bool) → IsStrictOrder over → (cut : ℕ) (pieces : List (List Entry)) → HaveDifferentIds (flat_map (λ piece. piece) pieces)
    → held_after over cut [] pieces ≡ levels over (flat_map (λ piece. piece) pieces) cut
held_after_pieces over strict cut pieces different = cut_into over strict cut [] [] pieces (levels_of_none over cut) different

-- ---- parts

parts_keep : (over : Entry → Entry → Bool) (cut : ℕ) (all : List Entry) (parts : List (List Entry)) → ((x : Entry) → Among x (flat_map (λ part. part) parts) → Among x all)
    → KeepsUpper over cut all (flat_map (λ part. part) parts) (held_of_parts over cut parts)
parts_keep over cut all [] within = keeps_all []
parts_keep over cut all (part ∷ parts) within =
    let others = flat_map (λ (l : List Entry). l) parts in
    let first = keeps_still _ _ (levels_keep over part cut) (comes_after_among_more over part all (λ x m. within x (in_left part others x m)) cut) in
    keeps_joined _ _ _ _ first (parts_keep over cut all parts (λ x m. within x (in_right part others x m)))

pub held_of_parts_differ : (over : Entry → Entry → Bool) (cut : ℕ) (parts : List (List Entry)) → HaveDifferentIds (flat_map (λ part. part) parts) → HaveDifferentIds (held_of_parts over cut parts)
held_of_parts_differ over cut parts = kept_differ _ _ (parts_keep over cut (flat_map (λ part. part) parts) parts (λ x m. m))

-- the levels of what parts hold are those of all
pub levels_of_held : (over : Entry → Entry → Bool) → IsStrictOrder over → (cut : ℕ) (parts : List (List Entry)) → HaveDifferentIds (flat_map (λ part. part) parts)
    → levels over (held_of_parts over cut parts) cut ≡ levels over (flat_map (λ part. part) parts) cut
levels_of_held over strict cut parts different = let all = flat_map (λ (l : List Entry). l) parts in levels_kept over strict _ all cut (parts_keep over cut all parts (λ x m. m)) (levels_differ over all cut different)

-- and so is the answer
pub answer_of_held : (ask : Question) (parts : List (List Entry)) → HaveDifferentIds (flat_map (λ part. part) parts) → answer_of ask (held_of_parts (entry_order (order_of ask)) (cut_of ask.mode) parts) ≡ answer_of ask (flat_map (λ part. part) parts)
answer_of_held ask parts different =
    answer_by_cut ask _ _ (levels_of_held (entry_order (order_of ask)) (entry_order_is_strict (order_of ask) (order_of_is_row_order ask)) (cut_of ask.mode) parts different)
