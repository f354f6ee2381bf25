use Rattle.pref_term.proofs.Common.{subst, sym}
use Rattle.std.proofs.lemmas.List.Elements.{Contains-get_or}
use Rattle.std.specs.Prelude.{Contains}
use Rattle.pref_term.proofs.signature.choose.scales_for.Goals as goal

pub loop-key-preserved : goal.loop-key-preserved
loop-key-preserved c =
    let keys = c.args.keys.now in
    let key = c.key-item.result in
    let there : Contains keys key = subst (Contains keys) (sym c.key-item.is) (Contains-get_or keys c.loop-key.key-index key c.loop-key-test.true) in
    record {
      within = c.in_ok-push_key.ensures.within;
      by = c.in_ok-push_key.ensures.by keys there c.loop-key.invariant.by;
    }
