use Rattle.pref_core.proofs.Common.{◌≡◌, [], ◌∷◌, ◌++◌, length, drop, ap, ◌∙◌, arith, sym, subst, length_push, step, replies_from, StandsForSystem}
use Rattle.std.proofs.lemmas.Iterator.Consumers.{YieldsList-turn}
use Rattle.std.proofs.lemmas.Iterator.Adapters.{YieldsList-from_vec}
use Rattle.pref_core.proofs.RepliesLaws.{reply_is_added, event_is_left, replies_step, one_reply_more}
use Rattle.pref_core.proofs.run.replay_part.Goals as goal

pub loop-event-preserved : goal.loop-event-preserved
loop-event-preserved c =
    let gives = c.into_iter-event-iterator.ensures.into_iter_gives in
    let turn = YieldsList-turn (YieldsList-from_vec {s = c.into_iter-event-iterator.result} c.args.events.items gives.0 (gives.1 ∙ c.args.events.ok.0)) c.loop-event.yielded c.loop-event.event-iterator c.loop-event.yielded_by c.next.result c.next.new.self c.in-Some.event c.in-Some.is c.next.ensures.steps in
    let inv = c.loop-event.invariant in
    let event = c.in-Some.event in
    let one = reply_is_added c.loop-event.returned.items c.reply-reply.result c.push_reply.result c.push_reply.new.returned.items c.push_reply.ensures (sym c.if-is_err.ensures.value) in
    let said = replies_step c.loop-event.machine c.reply-reply.new.self inv.system event c.reply-reply.result one.reply inv.stands c.reply-reply.ensures one.is in
    let more = one_reply_more c.args.setup inv.system c.loop-event.returned.items c.args.events.items c.loop-event.yielded event one.reply _ turn (subst (λ l. one.reply ≡ (step l inv.system event).reply) inv.limits said.0) inv.rest in
    let one_each : length (c.loop-event.returned.items ++ one.reply ∷ []) ≡ length (c.loop-event.yielded ++ event ∷ []) = omega (arith, inv.count, length_push c.loop-event.returned.items one.reply, length_push c.loop-event.yielded event) in
    record {
      limits = c.reply-reply.ensures.limits ∙ inv.limits;
      few = inv.few;
      system = (step c.args.setup inv.system event).next;
      stands = subst (λ l. StandsForSystem c.reply-reply.new.self (step l inv.system event).next) inv.limits said.1;
      count = ap length one.added ∙ one_each;
      rest = ap (λ l. l ++ replies_from c.args.setup (step c.args.setup inv.system event).next (drop (length (c.loop-event.yielded ++ event ∷ [])) c.args.events.items)) one.added ∙ more;
    }

-- for an edit that must fail: an answer fails at once, a search twice at its limits
pub returns-then-is_err-clause-stopped : goal.returns-then-is_err-clause-stopped
returns-then-is_err-clause-stopped c =
    let gives = c.into_iter-event-iterator.ensures.into_iter_gives in
    let turn = YieldsList-turn (YieldsList-from_vec {s = c.into_iter-event-iterator.result} c.args.events.items gives.0 (gives.1 ∙ c.args.events.ok.0)) c.loop-event.yielded c.loop-event.event-iterator c.loop-event.yielded_by c.next.result c.next.new.self c.in-Some.event c.in-Some.is c.next.ensures.steps in
    sym (event_is_left c.loop-event.returned.items c.reply-reply.result c.push_reply.result c.push_reply.new.returned.items c.loop-event.yielded c.args.events.items c.push_reply.ensures (sym c.if-is_err.ensures.value) c.loop-event.invariant.count turn.0)
