use Rattle.std.proofs.Common.{◌≡◌, ◌++◌, refl, map, [], sym, ◌∙◌, ap, subst, append_assoc}
use Rattle.pref_sky.specs.Levels.{HaveDifferentIds, entry_of, entry_order, levels}
use Rattle.pref_sky.proofs.LevelLaws.{first_differ, held_differ, levels_of_none}
use Rattle.sky_tests.proofs.skylines.shapes.check_in_blocks.Goals as goal

pub each_block-init : goal.each_block-init
each_block-init g c = ([], refl, c.requires.nothing ∙ levels_of_none (entry_order (g.D.Dominance.order c.args.order.0.now)) c.args.order.1)

pub add-requires-clause-ids : goal.add-requires-clause-ids
add-requires-clause-ids g c =
    let over = entry_order (g.D.Dominance.order c.args.order.0.now) in
    let inv = c.each_block.invariant in
    let front = c.split_at.result.0.now in
    let back = c.split_at.result.1.now in
    let all : c.args.entries.now ≡ (inv.0 ++ front) ++ back = inv.1 ∙ (ap (λ l. inv.0 ++ l) c.split_at.ensures.by_index.0 ∙ sym (append_assoc inv.0 front back)) in
    let differ = first_differ (inv.0 ++ front) back (subst HaveDifferentIds all c.requires.ids) in
    subst (λ l. HaveDifferentIds (map entry_of l ++ front)) (sym inv.2) (held_differ over inv.0 front c.args.order.1 differ)

pub each_block-preserved : goal.each_block-preserved
each_block-preserved g c =
    let over = entry_order (g.D.Dominance.order c.args.order.0.now) in
    let inv = c.each_block.invariant in
    let front = c.split_at.result.0.now in
    let back = c.split_at.result.1.now in
    let all : c.args.entries.now ≡ (inv.0 ++ front) ++ back = inv.1 ∙ (ap (λ l. inv.0 ++ l) c.split_at.ensures.by_index.0 ∙ sym (append_assoc inv.0 front back)) in
    let differ = first_differ (inv.0 ++ front) back (subst HaveDifferentIds all c.requires.ids) in
    (inv.0 ++ front, all, (c.in_ok-add.ensures {u = tt}).ok inv.0 differ inv.2)

pub each_block-preserved-in-each_block : goal.each_block-preserved-in-each_block
each_block-preserved-in-each_block g c =
    let over = entry_order (g.D.Dominance.order c.args.order.0.now) in
    let inv = c.each_block.invariant in
    let front = c.split_at.result.0.now in
    let back = c.split_at.result.1.now in
    let all : c.args.entries.now ≡ (inv.0 ++ front) ++ back = inv.1 ∙ (ap (λ l. inv.0 ++ l) c.split_at.ensures.by_index.0 ∙ sym (append_assoc inv.0 front back)) in
    let differ = first_differ (inv.0 ++ front) back (subst HaveDifferentIds all c.requires.ids) in
    (inv.0 ++ front, all, (c.in_ok-add.ensures {u = tt}).ok inv.0 differ inv.2)
