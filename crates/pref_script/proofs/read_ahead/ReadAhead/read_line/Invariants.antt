use Rattle.pref_script.proofs.Common.{◌+◌, ◌-◌, ◌≤◌, if◌then◌else◌, length, IsLittle, NoLineFeed, ReadBehind, is_at_end, unread}
use Rattle.pref_script.proofs.read_ahead.ReadAhead.read_line.Given as goal

abbrev pub invariant-loop-place : goal.invariant-loop-place
invariant-loop-place g l =
    let remaining = g.R.Read.remaining in record {
      later : l.from ≤ l.seen;
      inside : l.seen ≤ length (unread l.self);
      behind : ReadBehind (remaining l.fn.reader.inner) (remaining l.reader.inner) l.fn.self l.self;
      none : NoLineFeed l.from l.seen (unread l.self);
      little : IsLittle l.from (unread l.fn.self) → IsLittle l.from (unread l.self);
    }

-- a read brings bytes, or it is the last
abbrev pub decreases-loop-place : goal.decreases-loop-place
decreases-loop-place g l = (16777217 - length (unread l.self)) + (if is_at_end l.self then 0 else 1)
