use Rattle.pref_term.proofs.Common.{arith}
use Rattle.pref_term.proofs.ExtensionLaws.{ask_in_row}
use Rattle.pref_term.proofs.ask.Ask.compare_in_order.Goals as goal

pub compare_in_chain-requires : goal.compare_in_chain-requires
compare_in_chain-requires c = let kept = c.self.invariant.4 in rw c.deref.ensures.value (kept.in_row (ask_in_row _ c.self.invariant.0))

pub returns-clause-value : goal.returns-clause-value
returns-clause-value c =
    let kept = c.self.invariant.4 in
    grind (arith, c.self.view_is, c.compare_in_chain.ensures.value, c.deref.ensures.value, kept.compares c.args.a.now c.args.b.now)
