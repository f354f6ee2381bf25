use Rattle.pref_sky.proofs.Common.{not, rules, entry_order}
use Rattle.std.proofs.lemmas.Fn.{filter_same}
use Rattle.pref_sky.proofs.window.drop_dominated.Goals as goal

pub returns-clause-items : goal.returns-clause-items
returns-clause-items g c = filter_same _ (λ w. not (entry_order (g.D.Dominance.order c.args.dominance.now) c.args.entry.now w)) _ (λ x b q r. (search rules, search rules)) c.args.entries.now.items _ c.retain.ensures.filtered
