use Rattle.pref_script.proofs.Common.{◌≡◌, ℕ, ◌<◌, ◌≤◌, List, [], take, drop, length, arith, string_bytes, exits, without_line_end, PrintsLine, PrintsNext}
use Rattle.pref_script.proofs.Common.{IsLineAt, IsLittle, ReadBehind, Source, LiveTable, ReadAhead, is_at_end, unread}
use Rattle.pref_script.proofs.live.take_turn.Goals as goal

-- one line was read and played
printed : (source : Source) (old mid new : ReadAhead) (before after : LiveTable) (text : List ℕ) (end : ℕ) → ReadBehind source.had source.left old mid → (IsLittle 0 (unread old) → IsLittle 0 (unread mid)) → 0 < end → end ≤ length (unread mid)
    → IsLineAt 0 end mid → PrintsLine before (without_line_end (take end (unread mid))) [] text after → unread new ≡ drop end (unread mid) → is_at_end new ≡ is_at_end mid → PrintsNext source old new before after text
printed source old mid new before after text end read little some inside line prints taken ended =
    record { mid = mid; end = end; read = read; little = little; some = some; inside = inside; line = line; prints = prints; taken = taken; ended = ended }

pub returns : goal.returns
returns g c = (
  string_bytes c.reply_to.new.text,
  printed _ _ _ _ _ _ _ _ c.in_ok-end.ensures.behind c.in_ok-end.ensures.little (grind arith) c.in_ok-end.ensures.inside.1 c.in_ok-end.ensures.line
      (rw (c.line_text.ensures, c.as_slice.ensures, c.new-text.ensures.bytes) at c.in_ok-reply_to.ensures.returned) c.take.ensures.unread c.take.ensures.ended,
  rw c.as_bytes.ensures.value at c.in_ok-write_output.ensures.ok,
)

pub returns-in_err-write_output : goal.returns-in_err-write_output
returns-in_err-write_output g c =
    let (written, failed, count, few, part) = c.in_err-write_output.ensures.fault in
    let line = rw c.as_bytes.ensures.value at part in
    rw (exits c.from_residual-in_err-write_output.result c.from_residual-in_err-write_output.ensures.1, written) (
      failed,
      string_bytes c.reply_to.new.text,
      printed _ _ _ _ _ _ _ _ c.in_ok-end.ensures.behind c.in_ok-end.ensures.little (grind arith) c.in_ok-end.ensures.inside.1 c.in_ok-end.ensures.line
          (rw (c.line_text.ensures, c.as_slice.ensures, c.new-text.ensures.bytes) at c.in_ok-reply_to.ensures.returned) c.take.ensures.unread c.take.ensures.ended,
      (count, line),
    )
