use Rattle.pref_sky.proofs.Common.{◌-◌, arith, entry_at, get_or_default}
use Rattle.pref_sky.proofs.LeadLaws.{alike_entries, level_is}
use Rattle.pref_sky.proofs.ListLaws.{among_place}
use Rattle.pref_sky.proofs.lead.Lead.standing.Goals as goal

pub returns-then-is_same-clause-alike : goal.returns-then-is_same-clause-alike
returns-then-is_same-clause-alike c _ = grind (arith, alike_entries c.args.order.now, get_or_default c.args.entries.now)

pub returns-then-is_same-clause-same : goal.returns-then-is_same-clause-same
returns-then-is_same-clause-same c _ =
    let entries = c.args.entries.now in
    let place = c.args.place in
    let keyed = c.requires.swept.keyed (entry_at entries (place - 1)) (entry_at entries place) (among_place entries (place - 1) _ (omega (arith, c.requires.inside))) (among_place entries place _ c.requires.inside) in
    grind (arith, keyed, get_or_default entries (place - 1) c.index-entries-place.result, get_or_default entries place c.index-entries-place-2.result)

pub returns-then-is_same-2-clause-same : goal.returns-then-is_same-2-clause-same
returns-then-is_same-2-clause-same c _ = grind (arith, level_is c.args.order.now c.args.self.now, get_or_default c.args.entries.now)

pub returns-else-in_same_group-clause-apart : goal.returns-else-in_same_group-clause-apart
returns-else-in_same_group-clause-apart c _ _ = grind (arith, level_is c.args.order.now c.args.self.now, get_or_default c.args.entries.now)
