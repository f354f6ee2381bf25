use Rattle.pref_term.proofs.Common.{slice_eq-Decides}
use Rattle.pref_term.proofs.KeyEqual.{key_Decides}
use Rattle.pref_term.proofs.chain.are_same.Goals as goal

pub returns : goal.returns
returns c = (slice_eq-Decides key_Decides c.args.keys.now c.args.others.now c.eq.result c.eq.ensures).0
