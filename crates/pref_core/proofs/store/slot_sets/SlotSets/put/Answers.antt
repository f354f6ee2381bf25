use Rattle.pref_core.proofs.Common.{common_steps, ◌≡◌, set, sym, ap, ◌∙◌, arith, SlotUse, number_of, numbered}
use Rattle.pref_core.proofs.SeatLaws.{set_same}
use Rattle.pref_core.proofs.store.slot_sets.SlotSets.put.Goals as goal

numbered_back : (slot_use : SlotUse) → numbered (number_of slot_use) ≡ slot_use
numbered_back slot_use = grind (arith)

pub loop-step-init : goal.loop-step-init
loop-step-init c = grind (arith, common_steps, numbered_back, set_same)

pub loop-number-init : goal.loop-number-init
loop-number-init c = sym (ap (λ n. set c.args.self.now c.args.place (numbered n)) c.number-first.ensures ∙ ap (set c.args.self.now c.args.place) (numbered_back c.args.from) ∙ set_same c.args.self.now c.args.place c.args.from c.requires.there)
