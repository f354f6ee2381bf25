use Rattle.pref_sky.proofs.Common.{◌≡◌, ◌++◌, ◌∷◌, [], ◌∙◌, ap, append_assoc, at_level, get_or_read, map, map-append, sym, take}
use Rattle.std.proofs.lemmas.List.{get_or_past}
use Rattle.pref_sky.proofs.ListLaws.{front_more}
use Rattle.pref_sky.specs.Ranking.{marks, with_level}
use Rattle.pref_sky.specs.declared.merging.Marked.{Marked}
use Rattle.pref_sky.proofs.merging.mark.Goals.{then-place-levels, else-place-levels}
use Rattle.pref_sky.proofs.merging.mark.Goals as goal

pub loop-place-preserved : goal.loop-place-preserved
loop-place-preserved c level are =
    let all = c.args.entries.now in
    let place = c.loop-place.place in
    let e = c.index-entries-place.result in
    let inside = c.loop-place-test.true in
    let old = marks c.args.marked.now.items in
    let read = get_or_read all place e inside c.index-entries-place.is (record { id = 0; row = [] }) in
    let there : c.if-place-levels.level ≡ level e = elim c.if-place-levels.branch [
      | then-place-levels w ↦ w.level-is
      | else-place-levels w ↦ w.level-is ∙ sym (get_or_past c.args.levels.now place 0 w.if-place-levels.false)
    ] ∙ are place inside ∙ ap level (sym read) in
    ap marks (c.in_ok-push.ensures {u = tt}).items ∙ (map-append (λ (m : Marked). at_level m.level m.entry.now) c.loop-place.marked.items _
    ∙ (ap (λ l. l ++ at_level c.if-place-levels.level e ∷ []) (c.loop-place.invariant level are)
    ∙ (append_assoc old _ _ ∙ ap (λ l. old ++ l) (ap (λ n. map (with_level level) (take place all) ++ at_level n e ∷ []) there
    ∙ (sym (map-append (with_level level) (take place all) (e ∷ [])) ∙ ap (map (with_level level)) (sym (front_more all place e inside c.index-entries-place.is)))))))
