use Rattle.pref_table.proofs.Common.{◌≡◌, ◌+◌, ◌-◌, [], refl, arith, drop, length, take, length-drop, take_all, drop_of_length-le, state_at}
use Rattle.pref_table.proofs.NextFacts.{narrow-ended, narrow-last, nothing-left, outside-none, stands-comma, stands-goes, wide}
use Rattle.pref_table.proofs.records.next_in.Goals.{in-Goes, in-EndsField+else-fields-eq-MAX_COLUMNS}
use Rattle.pref_table.proofs.records.next_in.Goals as goal

pub loop-at-init : goal.loop-at-init
loop-at-init c = (record { fields = []; field = []; same = refl; counted = refl }, omega arith)

pub returns-then-fields-eq-MAX_COLUMNS : goal.returns-then-fields-eq-MAX_COLUMNS
returns-then-fields-eq-MAX_COLUMNS c =
    wide c.args.text.now (c.loop-at.at + 1) (rw c.if-fields-eq-MAX_COLUMNS.true at (stands-comma c.args.text.now c.loop-at.at _ _ c.loop-at-test.true c.loop-at.invariant.0 c.in-EndsField.ensures))

pub returns-in-EndsRecord : goal.returns-in-EndsRecord
returns-in-EndsRecord c =
    let text = c.args.text.now in
    let after = drop (c.loop-at.at + 1) text in
    rw (take_all (length text - (c.loop-at.at + 1)) after (omega (arith, length-drop (c.loop-at.at + 1) text)))
    (narrow-ended text c.loop-at.at _ _ c.loop-at-test.true c.loop-at.invariant.1 c.loop-at.invariant.0 c.in-EndsRecord.ensures)

pub loop-at-preserved : goal.loop-at-preserved
loop-at-preserved c = elim c.match-effect_of.branch [
  | in-Goes w ↦ rw (w.place-is, w.fields-is) (stands-goes c.args.text.now c.loop-at.at _ _ _ c.loop-at-test.true c.loop-at.invariant.0 w.in-Goes.ensures, c.loop-at.invariant.1)
  | in-EndsField+else-fields-eq-MAX_COLUMNS w ↦
      rw (w.place-is, w.fields-is) (
        stands-comma c.args.text.now c.loop-at.at _ _ c.loop-at-test.true c.loop-at.invariant.0 w.in-EndsField.ensures,
        omega (arith, c.loop-at.invariant.1, w.if-fields-eq-MAX_COLUMNS.false),
      )
]

pub returns-in-BetweenRecords : goal.returns-in-BetweenRecords
returns-in-BetweenRecords c =
    let text = c.args.text.now in
    let last : c.loop-at.at ≡ length text = omega (arith, c.loop-at-test.false) in
    nothing-left text c.loop-at.fields (rw (last, c.in-BetweenRecords.is) at c.loop-at.invariant.0)

pub returns-in_default : goal.returns-in_default
returns-in_default c =
    let text = c.args.text.now in
    let last : c.loop-at.at ≡ length text = omega (arith, c.loop-at-test.false) in
    let none : take (length text - length text) (drop (length text) text) ≡ [] = rw (drop_of_length-le text {i = length text} (omega arith)) (take_all (length text - length text) [] (omega arith)) in
    rw none (narrow-last text (state_at c.loop-at.place) c.loop-at.fields c.loop-at.invariant.1 (rw last at c.loop-at.invariant.0) (outside-none c.loop-at.place c.in_default.not-BetweenRecords))
