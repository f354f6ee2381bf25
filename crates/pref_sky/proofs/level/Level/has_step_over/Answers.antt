use Rattle.pref_sky.proofs.Common.{◌≡◌, arith, entry_at, get_or, get_or_default, length, own_order}
use Rattle.pref_sky.proofs.StepLaws.{one_asked}
use Rattle.pref_sky.specs.Leads.{second_of}
use Rattle.pref_sky.proofs.level.Level.has_step_over.Goals as goal

pub returns-then-len-eq1 : goal.returns-then-len-eq1
returns-then-len-eq1 c =
    let entries = c.args.entries.now in
    let steps = c.args.self.now.steps.items in
    let one : length steps ≡ 1 = grind arith in
    let is : c.is_over.result ≡ own_order c.args.order.now (entry_at entries (get_or steps 0 0)) c.args.entry.now =
    grind (arith, get_or_default steps 0 c.index.result.now 0, get_or_default entries (get_or steps 0 0) c.index-entries-index.result) in
    one_asked (own_order c.args.order.now) (second_of c.args.order.now c.args.lead.now) entries steps c.args.entry.now c.is_over.result one is
