use Rattle.pref_sky.proofs.Common.{◌∙◌, Bool, List, Ranked, ap, arith, cond, count_before, filter_agree, in_same_group, ltb, map, nat_lt, nat_tests, ℕ}
use Rattle.pref_sky.proofs.answers.at_least.Goals as goal

pub returns : goal.returns
returns c =
    let columns = c.args.columns.now in
    let ranked = c.args.ranked.items in
    let few : List Ranked → Ranked → Bool = λ all r. ltb (count_before (in_same_group columns) all r) c.args.k in
    let chosen = c.deref-2.ensures.value ∙ (c.in_ok-chosen.ensures {u = tt} ∙ ap (λ (l : List Ranked). map (λ r. cond {A = ℕ} (few l r) 1 0) l) c.deref.ensures.value) in
    c.drop_below.ensures (λ r. cond (few ranked r) 1 0) chosen ∙ filter_agree (λ r. nat_lt 0 (cond (few ranked r) 1 0)) (few ranked) (λ r. grind (arith, nat_tests)) ranked
