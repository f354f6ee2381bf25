use Rattle.pref_core.proofs.Common.{◌++◌, List, length, ap₂, drop-replicate, Change, Remove}
use Rattle.pref_core.proofs.changes.array_of.Goals as goal

pub returns : goal.returns
returns c = ap₂ (λ (a b : List Change). a ++ b) c.copy_from_slice.ensures.after (drop-replicate (length c.args.changes.now) 8 (Remove 0))
