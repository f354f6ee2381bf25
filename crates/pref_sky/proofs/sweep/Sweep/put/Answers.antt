use Rattle.pref_sky.proofs.Common.{ap, and_from, arith, not, subst, sym}
use Rattle.pref_sky.proofs.SweepLaws.{are_places, behind, swept_below, swept_put}
use Rattle.pref_sky.specs.Leads.{IsClassBy}
use Rattle.pref_sky.specs.Sweep.{AreAbove}
use Rattle.std.proofs.lemmas.Result.{on_ok_weaker}
use Rattle.pref_sky.proofs.sweep.Sweep.put.Goals as goal

pub returns-then-self-order : goal.returns-then-self-order
returns-then-self-order c =
    let swept = c.requires.swept in
    behind (swept_below swept.so_far swept.leads.swept swept.inside c.args.self.now.above c.requires.above c.if-self-order.true) swept.class c.requires.above

pub index_mut-requires : goal.index_mut-requires
index_mut-requires c = omega (arith, (c.in_ok-begin_level.ensures.so_far _ _ _ _ _ _ _ _ c.requires.swept.so_far c.if-self-order.false c.requires.known).1)

pub put-requires-clause-places : goal.put-requires-clause-places
put-requires-clause-places c =
    let begun = c.in_ok-begin_level.ensures.so_far _ _ _ _ _ _ _ _ c.requires.swept.so_far c.if-self-order.false c.requires.known in
    are_places c.requires.swept.inside (begun.0.stand c.begin_level.new.self.above c.index_mut.result.now begun.1 c.index_mut.ensures.value)

pub returns : goal.returns
returns c =
    let swept = c.requires.swept in
    let next = c.begin_level.new.self in
    let begun = c.in_ok-begin_level.ensures.so_far _ _ _ _ _ _ _ _ swept.so_far c.if-self-order.false c.requires.known in
    let same = c.begin_level.ensures.same in
    let class = subst (λ class. IsClassBy c.args.order.now c.args.lead.now c.args.entries.now class c.args.place) (sym same.0) swept.class in
    let above = subst (AreAbove _ _ _ _) (sym same.1) c.requires.above in
    let stands = begun.0.stand next.above c.index_mut.result.now begun.1 c.index_mut.ensures.value in
    let at = and_from _ _ above.after (ap not (above.no_more (omega (arith, begun.1, begun.0.within)))) in
    on_ok_weaker c.put.result (λ put. behind (swept_put begun.0 swept.leads.swept swept.inside next.above above _ begun.1 put) class above) (c.put.ensures swept.leads class stands at)
