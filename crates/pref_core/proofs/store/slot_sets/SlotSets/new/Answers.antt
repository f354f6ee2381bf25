use Rattle.pref_core.proofs.Common.{◌-◌, ◌∙◌, map, ap, refl, use_at}
use Rattle.pref_core.proofs.SlotSetsLaws.{arranged_same}
use Rattle.pref_core.proofs.OpeningSets.{opened, turned_arranged, turned_uses}
use Rattle.pref_core.proofs.store.slot_sets.SlotSets.new.Goals as goal

pub invariant_of-result : goal.invariant_of-result
invariant_of-result c = arranged_same _ _ _ _ _ (opened c.args.capacity (c.args.capacity - c.args.rows)) c.in_ok-order.ensures c.in_ok-positions.ensures refl (turned_arranged c.args.capacity c.args.rows c.requires.few c.requires.rows)

pub returns : goal.returns
returns c = ap (map (use_at (opened c.args.capacity (c.args.capacity - c.args.rows)))) c.in_ok-positions.ensures ∙ turned_uses c.args.capacity c.args.rows c.requires.rows
