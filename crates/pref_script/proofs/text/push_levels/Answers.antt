use Rattle.pref_script.proofs.Common.{arith, sym, level_line}
use Rattle.pref_script.proofs.TextLaws.{texts-end, texts-more}
use Rattle.pref_script.proofs.text.push_levels.Goals as goal

pub loop-ranked-preserved : goal.loop-ranked-preserved
loop-ranked-preserved c = texts-more (level_line c.args.width) _ _ _ c.args.rows.now c.loop-ranked.ranked-index c.ranked-item.result c.ranked-item.result c.loop-ranked-test.true (sym c.ranked-item.is) c.loop-ranked.invariant c.in_ok-push_level.ensures

pub returns : goal.returns
returns c = texts-end (level_line c.args.width) _ _ c.args.rows.now c.loop-ranked.ranked-index (omega arith) c.loop-ranked.invariant
