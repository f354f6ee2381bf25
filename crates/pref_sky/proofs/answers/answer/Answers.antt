use Rattle.pref_sky.proofs.Common.{◌≡◌, sym, ◌∙◌, IfOk-weaker, order_of, order_of_is_row_order, in_same_group, AtLeast, arith, entry_order}
use Rattle.pref_sky.proofs.AtLeastLaws.{enough}
use Rattle.pref_sky.proofs.Merges.{entry_order_is_strict, entry_order_stays_in_groups}
use Rattle.pref_sky.proofs.answers.answer.Goals as goal

-- the selection from the levels 1 to k is the answer
pub returns-in_ok-ranked-in-AtLeast : goal.returns-in_ok-ranked-in-AtLeast
returns-in_ok-ranked-in-AtLeast c entries held =
    let ask = c.args.ask.now in
    let mode : AtLeast c.in-AtLeast.k ≡ ask.mode = sym (sym c.mode.ensures.mode ∙ c.in-AtLeast.is) in
    let few = enough (entry_order (order_of ask)) (entry_order_is_strict (order_of ask) (order_of_is_row_order ask)) (in_same_group ask.group) (entry_order_stays_in_groups ask) entries c.in-AtLeast.k in
    IfOk-weaker c.at_least.result _ _ (λ v h. grind (arith, h, mode, few, c.group.ensures.columns, c.in_ok-ranked-in-AtLeast.ensures {u = tt}, held)) c.at_least.ensures
