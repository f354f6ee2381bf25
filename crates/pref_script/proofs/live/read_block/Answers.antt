use Rattle.pref_script.proofs.Common.{◌<◌, ℕ, arith, sym, subst, ◌∙◌, exits, IsLineAt, source_of}
use Rattle.pref_script.proofs.BlockLaws.{block_end, block_next, block_open, end_missing, first_missing, hears_first, hears_lines, next_missing, lines_so_far, table_missing}
use Rattle.pref_script.proofs.LineLaws.{behind_more, little_later}
use Rattle.pref_script.proofs.live.read_block.Goals as goal

pub loop-end-init : goal.loop-end-init
loop-end-init g c =
    let is = sym (rw c.as_slice.ensures at c.is_table_line.ensures) ∙ c.if-not-is_table_line.false in
    record {
      read = c.in_ok-stop.ensures.behind;
      block = block_open _ c.in_ok-stop.stop c.in_ok-stop.ensures.inside.1 c.in_ok-stop.ensures.most c.in_ok-stop.ensures.line is;
      little = λ few. little_later _ _ _ c.in_ok-stop.ensures.inside.0 (c.in_ok-stop.ensures.little few);
    }

pub loop-end-preserved : goal.loop-end-preserved
loop-end-preserved g c =
    let some : c.loop-end.stop < c.in_ok-end.end = omega (arith, c.in_ok-end.ensures.inside.0, c.if-end-stop.false) in
    let other = sym (rw c.as_slice-in-loop-end.ensures at c.is_end_line.ensures) ∙ c.if-is_end_line.false in
    record {
      read = behind_more _ _ _ _ _ _ c.loop-end.invariant.read c.in_ok-end.ensures.behind;
      block = block_next _ _ _ _ _ c.loop-end.invariant.block c.in_ok-end.ensures.behind c.in_ok-end.end c.in_ok-end.ensures.line some c.in_ok-end.ensures.inside.1 c.in_ok-end.ensures.most other;
      little = λ few. little_later _ _ _ c.in_ok-end.ensures.inside.0 (c.in_ok-end.ensures.little (c.loop-end.invariant.little few));
    }

pub returns-in_err-stop : goal.returns-in_err-stop
returns-in_err-stop g c = grind (arith, first_missing, exits)

pub returns-then-not-is_table_line : goal.returns-then-not-is_table_line
returns-then-not-is_table_line g c =
    let other = sym (rw c.as_slice.ensures at c.is_table_line.ensures) ∙ c.if-not-is_table_line.true in
    (c.in_ok-stop.ensures.behind, hears_first (source_of g.R.Read.remaining c.args.reader.now c.read_line.new.reader) c.args.ahead.now c.read_line.new.self c.in_ok-stop.ensures.behind c.in_ok-stop.ensures.little, table_missing c.read_line.new.self c.in_ok-stop.stop c.in_ok-stop.ensures.inside.1 c.in_ok-stop.ensures.line other)

pub returns-in_err-end : goal.returns-in_err-end
returns-in_err-end g c =
    let source = source_of g.R.Read.remaining c.args.reader.now c.read_line-in-loop-end.new.reader in
    let so_far = c.loop-end.invariant in
    rw (exits c.from_residual-in_err-end.result c.from_residual-in_err-end.ensures.1)
    (next_missing source _ _ _ _ _ c.in_err-end.field-0.0 so_far.read so_far.little so_far.block c.in_err-end.ensures.fault c.in_err-end.ensures.read)

pub returns-then-end-stop : goal.returns-then-end-stop
returns-then-end-stop g c =
    let new = c.read_line-in-loop-end.new.self in
    let so_far = c.loop-end.invariant in
    let source = source_of g.R.Read.remaining c.args.reader.now c.read_line-in-loop-end.new.reader in
    let behind = behind_more source.had _ source.left _ _ new so_far.read c.in_ok-end.ensures.behind in
    let line = subst (λ (n : ℕ). IsLineAt c.loop-end.stop n new) c.if-end-stop.true c.in_ok-end.ensures.line in (
      behind,
      hears_lines source c.args.ahead.now new c.loop-end.stop behind (λ few. c.in_ok-end.ensures.little (so_far.little few)) (lines_so_far _ _ _ _ _ so_far.block c.in_ok-end.ensures.behind),
      end_missing _ _ _ _ _ so_far.block c.in_ok-end.ensures.behind line,
    )

pub returns-then-is_end_line : goal.returns-then-is_end_line
returns-then-is_end_line g c =
    let some : c.loop-end.stop < c.in_ok-end.end = omega (arith, c.in_ok-end.ensures.inside.0, c.if-end-stop.false) in
    let is = sym (rw c.as_slice-in-loop-end.ensures at c.is_end_line.ensures) ∙ c.if-is_end_line.true in
    let (table, first, found) = block_end _ _ _ _ _ c.loop-end.invariant.block c.in_ok-end.ensures.behind c.in_ok-end.end c.in_ok-end.ensures.line some c.in_ok-end.ensures.inside.1 c.in_ok-end.ensures.most is in (
      behind_more _ _ _ _ _ _ c.loop-end.invariant.read c.in_ok-end.ensures.behind,
      λ few. little_later _ _ _ c.in_ok-end.ensures.inside.0 (c.in_ok-end.ensures.little (c.loop-end.invariant.little few)),
      table,
      first,
      found,
    )
