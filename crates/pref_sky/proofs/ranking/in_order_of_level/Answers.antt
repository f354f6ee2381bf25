use Rattle.pref_sky.proofs.Common.{[], ◌≡◌, ◌++◌, ◌∙◌, IfOk-weaker, IsPermutation, IsPermutation-map, IsSortedBy, Ranked, ap, at_level, filter, get_or, get_or-map, map, nat_lt, rules, subst, sym}
use Rattle.std.proofs.lemmas.Fn.{filter_same}
use Rattle.pref_sky.proofs.ListLaws.{sorted_by_both}
use Rattle.pref_sky.proofs.RankingLaws.{filter_of_map, sorted_map}
use Rattle.pref_sky.specs.Ranking.{leveled, marks, ranks_before, with_level}
use Rattle.pref_sky.specs.declared.merging.Marked.{Marked}
use Rattle.pref_sky.proofs.ranking.in_order_of_level.Goals as goal

pub returns : goal.returns
returns c level by =
    let entries = c.args.entries.now in
    let all = c.mark.new.marked.items in
    let some = c.retain.new.self.items in
    let marked = c.sort_unstable_by_key.new.self.items in
    let as_ranked : Marked → Ranked = λ m. at_level m.level m.entry.now in
    let whole : marks all ≡ map (with_level level) entries =
    c.in_ok-mark.ensures level (λ k inside. ap (λ l. get_or l k 0) by ∙ get_or-map level entries k (record { id = 0; row = [] }) 0 inside)
    ∙ ap (λ l. marks l ++ map (with_level level) entries) (c.in_ok-marked.ensures {u = tt}).items in
    let kept : some ≡ filter (λ (m : Marked). nat_lt 0 m.level) all = filter_same _ (λ (m : Marked). nat_lt 0 m.level) _ (λ x b q r. (search rules, search rules)) all _ c.retain.ensures.filtered in
    let listed : marks some ≡ leveled level entries =
    ap marks kept ∙ (sym (filter_of_map as_ranked (λ r. nat_lt 0 r.level) all) ∙ (ap (filter (λ (r : Ranked). nat_lt 0 r.level)) whole ∙ filter_of_map (with_level level) (λ r. nat_lt 0 r.level) entries)) in
    let moved : IsPermutation (leveled level entries) (marks marked) = subst (λ l. IsPermutation l (marks marked)) listed (IsPermutation-map as_ranked some marked c.sort_unstable_by_key.ensures.permutation) in
    let in_order : IsSortedBy ranks_before (marks marked) =
    sorted_map as_ranked ranks_before marked (sorted_by_both (λ (m : Marked). (m.level, m.entry.now.id)) marked c.sort_unstable_by_key.ensures.sorted (λ a r f k. search rules)) in
    IfOk-weaker c.ranked_of.result _ _ (λ ranked is.
    let same = is ∙ ap marks c.deref.ensures.value in
    record { moved = subst (IsPermutation (leveled level entries)) (sym same) moved; in_order = subst (IsSortedBy ranks_before) (sym same) in_order }) c.ranked_of.ensures
