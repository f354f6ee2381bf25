use Rattle.pref_sky.proofs.Common.{◌≡◌, ◌<◌, ◌≤◌, ◌∙◌, ap, arith, FiltersInPlace-all, FiltersInPlace-more_no, FiltersInPlace-more_set, get_or, get_or-map, length, length-map, length-set, lt-ltb, map, nat_lt, sym, true, ℕ}
use Rattle.pref_sky.proofs.ListLaws.{same_there}
use Rattle.pref_sky.proofs.RankingLaws.{stands_there}
use Rattle.pref_sky.proofs.ranking.drop_below.Goals.{then-level-gt0, else-level-gt0}
use Rattle.pref_sky.proofs.ranking.drop_below.Goals as goal

pub loop-place-preserved : goal.loop-place-preserved
loop-place-preserved g c =
    let xs = c.args.elements.now.items in
    let levels = c.args.levels.now in
    let ys = c.loop-place.elements.items in
    let i = c.loop-place.place in
    let inv = c.loop-place.invariant in
    let few : c.min-place-end.result ≤ c.len.result = grind arith in
    let inside : i < length ys = omega (arith, c.loop-place-test.true, few, c.len.ensures, c.args.elements.now.ok.0, inv.long) in
    let decided : (level : g.row.T.Denot → ℕ) (x : g.row.T.Denot) → levels ≡ map level xs → x ≡ get_or ys i x → level x ≡ get_or levels i 0 =
    λ level x by here. ap level (here ∙ same_there xs ys i x (inv.moved level by).rest) ∙ (sym (get_or-map level xs i x 0 (omega (arith, inside, inv.long))) ∙ ap (λ l. get_or l i 0) (sym by)) in
    elim c.if-level-gt0.branch [
      | then-level-gt0 w ↦
          let some : nat_lt 0 (get_or levels i 0) ≡ true = lt-ltb 0 (get_or levels i 0) (omega (arith, w.if-level-gt0.true)) in
          let x : g.row.T.Denot = w.index.result.now in
          rw (w.elements-is, w.count-is) (record {
            behind = omega (arith, inv.behind);
            long = length-set ys c.loop-place.count x ∙ inv.long;
            moved = λ level by. FiltersInPlace-more_set (inv.moved level by) inside (ap (nat_lt 0) (decided level x by w.index.ensures) ∙ some) w.index.ensures;
          })
      | else-level-gt0 w ↦
          let zero : get_or levels i 0 ≡ 0 = omega (arith, w.if-level-gt0.false) in
          let there = stands_there ys i inside in
          rw (w.elements-is, w.count-is) (record {
            behind = omega (arith, inv.behind);
            long = inv.long;
            moved = λ level by. FiltersInPlace-more_no (inv.moved level by) inside (ap (nat_lt 0) (decided level there.0 by there.1 ∙ zero)) there.1;
          })
    ]

pub returns : goal.returns
returns g c level by =
    let past : length c.args.elements.now.items ≤ c.loop-place.place = grind (arith, length-map c.args.elements.now.items level, by) in
    c.truncate.ensures.items ∙ FiltersInPlace-all (c.loop-place.invariant.moved level by) past
