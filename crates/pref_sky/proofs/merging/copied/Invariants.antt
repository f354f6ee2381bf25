use Rattle.pref_sky.proofs.Common.{◌≡◌, entry_of, map, take}
use Rattle.pref_sky.specs.Ranking.{marks}
use Rattle.pref_sky.proofs.merging.copied.Given as goal

abbrev pub invariant-loop-one : goal.invariant-loop-one
invariant-loop-one l =
    record {
      entries : l.entries.items ≡ map entry_of (marks (take l.one-index l.marked));
      held : l.held.items ≡ map (λ one. one.level) (marks (take l.one-index l.marked));
    }
