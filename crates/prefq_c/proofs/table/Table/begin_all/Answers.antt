use Rattle.std.proofs.Common.{◌≡◌, Err, inr, refl, rules, subst}
use Rattle.pref_core.specs.Systems.{Does}
use Rattle.pref_core.specs.declared.event.Act.TheVariants.{Begin}
use Rattle.prefq_c.specs.Acts.{all_rows}
use Rattle.prefq_c.specs.Faults.{act_fault}
use Rattle.prefq_c.proofs.table.Table.begin_all.Goals as goal

-- for an edit that must fail: an answer fails at once, a search twice at its limits
pub returns-in_err-begin : goal.returns-in_err-begin
returns-in_err-begin c =
    let is : c.from_residual.result ≡ Err (act_fault c.in_err-begin.field-0.0) = search rules in
    let asked : c.in-Ok.ask ≡ all_rows = rw c.new.ensures.items at c.in-Ok.ensures.1 in
    rw is (inr (refl, (c.in_err-begin.field-0.0, refl, subst (λ ask. Does c.args.self.now.live.machine c.args.client (Begin ask) (Err c.in_err-begin.field-0.0) c.begin.new.self) asked c.in_err-begin.ensures)))

pub returns : goal.returns
returns c =
    let asked : c.in-Ok.ask ≡ all_rows = rw c.new.ensures.items at c.in-Ok.ensures.1 in
    inr (refl, rw (c.from.ensures, ← asked) c.in_ok-begin.ensures)
