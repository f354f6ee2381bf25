use Rattle.pref_script.proofs.Common.{◌∙◌, arith, raw_lines}
use Rattle.pref_script.proofs.ScriptLaws.{lines_empty}
use Rattle.pref_script.proofs.parts.client_parts.Goals as goal

pub loop-left-init : goal.loop-left-init
loop-left-init c = record { count = c.in_ok-parts.ensures.count; parts = c.in_ok-parts.ensures.parts (raw_lines c.args.lines.now); given = λ all rest. rest }

pub loop-left-preserved-then-not-branch : goal.loop-left-preserved-then-not-branch
loop-left-preserved-then-not-branch c = record {
  count = c.in_ok-give_line.ensures.count ∙ c.loop-left.invariant.count;
  parts = c.in_ok-give_line.ensures.parts _ _ _ (rw c.cut_line.ensures.lines at c.loop-left.invariant.parts);
  given = λ all. cc all;
}

pub loop-left-preserved : goal.loop-left-preserved
loop-left-preserved c =
    let here = rw c.loop-left.invariant.count at (c.in_ok-give_line.ensures.given c.if-not-branch.false) in
    record {
      count = c.in_ok-give_line.ensures.count ∙ c.loop-left.invariant.count;
      parts = c.in_ok-give_line.ensures.parts _ _ _ (rw c.cut_line.ensures.lines at c.loop-left.invariant.parts);
      given = λ all rest. c.loop-left.invariant.given all (rw c.cut_line.ensures.lines (here, rest));
    }

pub returns-clause-parts : goal.returns-clause-parts
returns-clause-parts c = rw (lines_empty c.loop-left.left.now (grind arith)) at c.loop-left.invariant.parts

pub returns-clause-given : goal.returns-clause-given
returns-clause-given c = λ all. c.loop-left.invariant.given all (rw (lines_empty c.loop-left.left.now (grind arith)) tt)
