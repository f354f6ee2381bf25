use Rattle.pref_script.proofs.Common.{◌≤◌, arith, length-take, raw_lines, Sections, subst, exits, IsOpened, OpeningFault, source_of, take, unread}
use Rattle.pref_script.proofs.LiveRunLaws.{no_fault, opened_live, refused_block, refused_table, same_sections}
use Rattle.pref_script.proofs.live.open_live.Goals as goal

pub returns-in_err-block : goal.returns-in_err-block
returns-in_err-block g c = grind (arith, refused_block, exits)

pub returns-in_err-sections : goal.returns-in_err-sections
returns-in_err-sections g c =
    let (read, little, table, first, is) = c.in_ok-block.ensures in
    no_fault (raw_lines (take c.in_ok-block.block (unread c.read_block.new.ahead))) _ _ is.cut (rw c.as_slice.ensures at c.in_err-sections.ensures.sections)

pub returns-in_err-live : goal.returns-in_err-live
returns-in_err-live g c =
    let source = source_of g.R.Read.remaining c.args.reader.now c.read_block.new.reader in
    let (read, little, table, first, is) = c.in_ok-block.ensures in
    let same = same_sections (raw_lines (take c.in_ok-block.block (unread c.read_block.new.ahead))) _ _ (rw c.as_slice.ensures at c.in_ok-sections.ensures.sections) is.cut in
    let refused = subst (λ (b : Sections). OpeningFault c.args.setup b.table c.in_err-live.field-0.0) same c.in_err-live.ensures.fault in
    rw (exits c.from_residual-in_err-live.result c.from_residual-in_err-live.ensures.1)
    (refused_table c.args.setup source c.args.ahead.now c.read_block.new.ahead c.in_ok-block.block table first c.in_err-live.field-0.0 c.requires.empty c.requires.fresh read little is refused)

pub returns : goal.returns
returns g c =
    let (read, little, table, first, is) = c.in_ok-block.ensures in
    let same = same_sections (raw_lines (take c.in_ok-block.block (unread c.read_block.new.ahead))) _ _ (rw c.as_slice.ensures at c.in_ok-sections.ensures.sections) is.cut in
    let opens = subst (λ (b : Sections). IsOpened c.args.setup b.table b.first c.in_ok-live.live) same c.in_ok-live.ensures.opened in
    let few = rw c.as_slice.ensures at c.in_ok-sections.ensures.few in
    let small = subst (λ (b : Sections). b.first ≤ 16777219) same (omega (arith, few, length-take c.in_ok-block.block (unread c.read_block.new.ahead), is.few)) in
    opened_live _ _ _ _ _ _ _ table first _ c.requires.empty c.requires.fresh read little is opens small c.take.ensures.unread c.take.ensures.ended
