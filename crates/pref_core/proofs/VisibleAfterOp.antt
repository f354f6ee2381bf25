-- A legal op leaves what open queries see.
use Rattle.pref_core.proofs.Common.{◌≡◌, ℕ, ◌≤◌, List, [], ◌∷◌, length, take, Option, Some, refl, ◌∙◌, arith}
use Rattle.pref_core.proofs.Common.{take-map, Version, Op, State, Snapshot, begun_of, Line, Contents, StandsFor, Shows, seen}
use Rattle.pref_core.proofs.Common.{visible, caller_begun, IsLegal, applied, ran}
use Rattle.pref_core.proofs.BoundsLaws.{length-slots_after}
use Rattle.pref_core.proofs.OutcomeLaws.{same_seat}
use Rattle.pref_core.proofs.StabilityLaws.{holds_applied, shown, visible_shown, shown_after}

-- the front of the slots shows what it showed
pub visible_take : (stamp n : ℕ) (before after : List (Option Version)) → shown stamp after ≡ shown stamp before → visible stamp (take n after) ≡ visible stamp (take n before)
visible_take stamp n before after same = grind (arith, visible_shown stamp (take n after), visible_shown stamp (take n before), take-map (seen stamp) n after, take-map (seen stamp) n before)

-- the stamp that the store keeps of an open query, at which the slots show what it found
pub begun_kept : (contents : Contents) (state : State) (client : ℕ) (snapshot : Snapshot) → StandsFor contents state → begun_of state client ≡ Some snapshot
    → (caller_begun contents client ≡ Some snapshot.commits) × (snapshot.commits ≤ contents.stamp) × Shows contents.slots snapshot.commits snapshot.table
begun_kept contents state client snapshot h is = grind (arith, same_seat contents.slots contents.stamp contents.callers state.clients client h.clients)

-- what shows the same shows the same table
pub shows_still : (before after : List (Option Version)) (stamp : ℕ) (table : List Line) → shown stamp after ≡ shown stamp before → Shows before stamp table → Shows after stamp table
shows_still before after stamp table same shows = grind (arith, visible_shown stamp after, visible_shown stamp before)

-- the slots stay as many, whatever is applied
pub length-ran : (ops : List Op) (contents : Contents) → length (ran contents ops).slots ≡ length contents.slots
length-ran [] contents = refl
length-ran (op ∷ ops) contents = length-ran ops (applied contents op) ∙ holds_applied contents op (λ s. length s.slots ≡ length contents.slots) refl (λ slots n e. grind (arith, length-slots_after))

pub length-applied : (contents : Contents) (state : State) (op : Op) → StandsFor contents state → IsLegal state contents op → length (applied contents op).slots ≡ length contents.slots
length-applied contents state op h legal = length-ran (op ∷ []) contents

-- .. and show what an open query found
pub shown_applied : (contents : Contents) (state : State) (op : Op) (client : ℕ) (snapshot : Snapshot) → StandsFor contents state → begun_of state client ≡ Some snapshot → shown snapshot.commits (applied contents op).slots ≡ shown snapshot.commits contents.slots
shown_applied contents state op client snapshot h is =
    let kept = begun_kept contents state client snapshot h is in holds_applied contents op (λ s. shown snapshot.commits s.slots ≡ shown snapshot.commits contents.slots) refl
    (λ slots n e. let same = shown_after contents client snapshot.commits kept.0 kept.1 op slots e in grind (arith))
