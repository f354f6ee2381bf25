use Rattle.pref_term.proofs.Common.{rules, arith, ints, length, cond, int_lt, pos, ◌≡◌, ◌*◌, ◌-◌, ◌^◌, ◌%◌, ◌∙◌, ap}
use Rattle.std.specs.Prelude.{bit_or}
use Rattle.std.proofs.lemmas.List.{take_all}
use Rattle.std.proofs.lemmas.List.Sums.{sum_by_more}
use Rattle.pref_term.proofs.SignatureMarks.{beyond, signed_shifted, zeros_below}
use Rattle.pref_term.proofs.signature.scale.Scale.reached_onto.Goals as goal

pub loop-mark-preserved : goal.loop-mark-preserved
loop-mark-preserved c =
    let more = sum_by_more (λ mark. cond (int_lt (pos c.args.number) (pos mark)) 1 0) c.args.marks.now c.loop-mark.mark-index 0 c.loop-mark-test.true in
    grind (arith, ints, more, c.from-beyond.ensures)

pub overflow_sub-result : goal.overflow_sub-result
overflow_sub-result c = let marks = c.args.marks.now in zeros_below (length marks) c.loop-mark.beyond c.requires.few (omega arith)

-- the marks that the number reaches come first
pub returns : goal.returns
returns c =
    let marks = c.args.marks.now in
    let all : c.loop-mark.beyond ≡ beyond c.args.number marks = c.loop-mark.invariant.1 ∙ ap (beyond c.args.number) (take_all c.loop-mark.mark-index marks (omega arith)) in
    ap (λ n. bit_or (c.args.word * 2 ^ length marks % 2 ^ 64) (1 * 2 ^ length marks % 2 ^ 64 - 1 * 2 ^ n % 2 ^ 64)) all
    ∙ signed_shifted c.args.number marks c.args.word (search rules) c.requires.few c.requires.in_order
