use Rattle.pref_sky.proofs.Common.{◌≡◌, ◌||◌, All, filter, map, take}
use Rattle.pref_sky.specs.ChosenChains.{tells_apart}
use Rattle.pref_term.specs.Chains.{AreInRow}
use Rattle.pref_sky.proofs.lead.chosen_chains.Given as goal

-- of those so far the ones that are kept are chosen
abbrev pub invariant-loop-chain : goal.invariant-loop-chain
invariant-loop-chain l =
    record {
      in_row : All (λ chain. AreInRow chain.now) l.chosen.items;
      chosen : map (λ chain. chain.now) l.chosen.items ≡ filter (λ keys. l.few || tells_apart keys l.entries) (take l.chain-index l.chains);
    }
