use Rattle.pref_script.proofs.Common.{◌≡◌, ℕ, ◌+◌, List, [], Option, Limits, Hears, next_number}
use Rattle.pref_script.proofs.LiveRunLaws.{Replying}
use Rattle.pref_script.proofs.live.reply_to_all.Given as goal

abbrev pub invariant-loop-line : goal.invariant-loop-line
invariant-loop-line g l =
    let remaining = g.R.Read.remaining in
    let contents = g.W.Write.contents in record {
      number : next_number l.live ≡ next_number l.fn.live + l._line;
      replying : (limits : Limits) (had : Option (List ℕ)) → Hears limits had (remaining l.fn.reader.inner) l.fn.ahead l.fn.live []
          → Replying limits had (remaining l.reader.inner) (contents l.fn.writer.inner) (contents l.writer.inner) l.ahead l.live;
    }
