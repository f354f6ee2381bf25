use Rattle.pref_term.proofs.Common.{Some, sym, ap, ◌∙◌, levels, rows}
use Rattle.pref_term.proofs.AskLemmas.{asks_exit, best_asks, count_asks, count_fails, skyline_asks, skyline_fails}
use Rattle.pref_term.proofs.read.ask.ask.Goals as goal

pub returns-in_err-k-in-Some-TopLevel-clause-asked : goal.returns-in_err-k-in-Some-TopLevel-clause-asked
returns-in_err-k-in-Some-TopLevel-clause-asked c =
    let w = c.in_ok-letters in
    asks_exit _ c.from_residual-in_err-k-in-Some-TopLevel.ensures.1 (count_fails _ levels w.letters.now _ _ _ w.ensures.ok (sym c.in-Some-TopLevel.ensures ∙ ap Some c.in-Some-TopLevel.field-0-is) _ c.in_err-k-in-Some-TopLevel.ensures.err)

pub returns-in_err-k-in-Some-AtLeast-clause-asked : goal.returns-in_err-k-in-Some-AtLeast-clause-asked
returns-in_err-k-in-Some-AtLeast-clause-asked c =
    let w = c.in_ok-letters in
    asks_exit _ c.from_residual-in_err-k-in-Some-AtLeast.ensures.1 (count_fails _ rows w.letters.now _ _ _ w.ensures.ok (sym c.in-Some-AtLeast.ensures ∙ ap Some c.in-Some-AtLeast.field-0-is) _ c.in_err-k-in-Some-AtLeast.ensures.err)

pub returns-in-Some-Best-clause-asked : goal.returns-in-Some-Best-clause-asked
returns-in-Some-Best-clause-asked c =
    let w = c.in_ok-letters in
    best_asks _ w.letters.now _ _ _ _ w.ensures.ok (sym c.in-Some-Best.ensures ∙ ap Some c.in-Some-Best.field-0-is) c.read_rated_term.ensures.asked

pub returns-in_ok-k-in-Some-TopLevel-clause-asked : goal.returns-in_ok-k-in-Some-TopLevel-clause-asked
returns-in_ok-k-in-Some-TopLevel-clause-asked c =
    let w = c.in_ok-letters in
    count_asks _ levels w.letters.now _ _ _ w.ensures.ok (sym c.in-Some-TopLevel.ensures ∙ ap Some c.in-Some-TopLevel.field-0-is) _ _ _ c.in_ok-k-in-Some-TopLevel.ensures.ok c.read_rated_term-in-Some-TopLevel.ensures.asked

pub returns-in_ok-k-in-Some-AtLeast-clause-asked : goal.returns-in_ok-k-in-Some-AtLeast-clause-asked
returns-in_ok-k-in-Some-AtLeast-clause-asked c =
    let w = c.in_ok-letters in
    count_asks _ rows w.letters.now _ _ _ w.ensures.ok (sym c.in-Some-AtLeast.ensures ∙ ap Some c.in-Some-AtLeast.field-0-is) _ _ _ c.in_ok-k-in-Some-AtLeast.ensures.ok c.read_rated_term-in-Some-AtLeast.ensures.asked

pub returns-in_err-behind-in-None-clause-asked : goal.returns-in_err-behind-in-None-clause-asked
returns-in_err-behind-in-None-clause-asked c =
    let w = c.in_ok-letters in
    asks_exit _ c.from_residual-in_err-behind-in-None.ensures.1
    (skyline_fails _ w.letters.now _ _ _ w.ensures.ok (sym c.in-None.ensures) (sym c.in-Some-Skyline.ensures ∙ ap Some c.in-Some-Skyline.field-0-is) _ c.in_err-behind-in-None.ensures.err)

pub returns-in_ok-behind-in-None-clause-asked : goal.returns-in_ok-behind-in-None-clause-asked
returns-in_ok-behind-in-None-clause-asked c =
    let w = c.in_ok-letters in
    skyline_asks _ w.letters.now _ _ _ w.ensures.ok (sym c.in-None.ensures) (sym c.in-Some-Skyline.ensures ∙ ap Some c.in-Some-Skyline.field-0-is) _ _ c.in_ok-behind-in-None.ensures.ok c.clause_ask.ensures.asked
