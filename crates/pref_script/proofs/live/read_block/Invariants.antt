use Rattle.pref_script.proofs.Common.{◌-◌, IsLittle, ReadBehind, unread}
use Rattle.pref_script.proofs.BlockLaws.{BlockAt}
use Rattle.pref_script.proofs.live.read_block.Given as goal

abbrev pub invariant-loop-end : goal.invariant-loop-end
invariant-loop-end g l =
    let remaining = g.R.Read.remaining in record {
      read : ReadBehind (remaining l.fn.reader.inner) (remaining l.reader.inner) l.fn.ahead l.ahead;
      block : BlockAt l.ahead l.stop;
      little : IsLittle 0 (unread l.fn.ahead) → IsLittle l.stop (unread l.ahead);
    }

abbrev pub decreases-loop-end : goal.decreases-loop-end
decreases-loop-end g l = 16777216 - l.stop
