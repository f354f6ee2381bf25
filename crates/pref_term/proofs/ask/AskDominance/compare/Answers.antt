use Rattle.pref_term.proofs.Common.{◌≡◌, true, subst, ◌∙◌, arith, order_of_alike, order_of_twins_alike, in_same_group, same, is_same, IsAsk, alike, and_parts, twins_alike}
use Rattle.pref_term.proofs.ask.AskDominance.compare.Goals as goal

-- rows that are reported as the same are of one group, and the same
reported_alike : (c : goal.After-compare_in_group) → is_same c.compare_in_group.result ≡ true → alike c.args.self.now c.args.a.now c.args.b.now ≡ true
reported_alike c reported = grind (arith, c.self.view_is, c.deref.ensures.value, c.in_same_group.ensures, c.if-in_same_group.true, c.compare_in_group.ensures.same, reported)

pub returns-then-in_same_group-clause-stand_alike : goal.returns-then-in_same_group-clause-stand_alike
returns-then-in_same_group-clause-stand_alike c reported =
    order_of_alike c.args.self.now c.args.a.now c.args.b.now (reported_alike c reported)

pub returns-then-in_same_group-clause-twins : goal.returns-then-in_same_group-clause-twins
returns-then-in_same_group-clause-twins c twin =
    let q = c.args.self.now in
    c.compare_in_group.ensures.same
    ∙ (and_parts (in_same_group q.group c.args.a.now c.args.b.now) (same q.preference c.args.a.now c.args.b.now) (twins_alike q c.args.a.now c.args.b.now twin)).1

pub returns-then-in_same_group-clause-twins_alike : goal.returns-then-in_same_group-clause-twins_alike
returns-then-in_same_group-clause-twins_alike c reported =
    order_of_twins_alike c.args.self.now (subst IsAsk c.self.view_is c.self.invariant.0) c.args.a.now c.args.b.now (reported_alike c reported)

pub returns-then-in_same_group-clause-better : goal.returns-then-in_same_group-clause-better
returns-then-in_same_group-clause-better c = grind (arith)

pub returns-then-in_same_group-clause-worse : goal.returns-then-in_same_group-clause-worse
returns-then-in_same_group-clause-worse c = grind (arith)

pub returns-then-in_same_group-clause-same : goal.returns-then-in_same_group-clause-same
returns-then-in_same_group-clause-same c = grind (arith)
