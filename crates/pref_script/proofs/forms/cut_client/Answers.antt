use Rattle.pref_script.proofs.Common.{arith, sym, length-drop, take_all}
use Rattle.pref_script.proofs.FormLaws.{client_at}
use Rattle.pref_script.proofs.forms.cut_client.Goals as goal

pub returns-then-line-eq32-2-clause-said : goal.returns-then-line-eq32-2-clause-said
returns-then-line-eq32-2-clause-said c = grind (arith, client_at, take_all, length-drop)

pub returns-then-line-eq32-2-clause-named : goal.returns-then-line-eq32-2-clause-named
returns-then-line-eq32-2-clause-named c =
    sym (client_at c.args.line.now c.if-line-ge5.true c.if-line-eq97.true c.if-line-eq115.true c.if-line-eq32.true c.if-is_ascii_digit.ensures.cases (sym c.if-is_ascii_digit.ensures.value) c.if-line-eq32-2.true).1
