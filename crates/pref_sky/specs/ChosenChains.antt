-- No public contract cites this.
-- Chains that are chosen, of those that lead a question, to lead some entries.
use Rattle.std.specs.Prelude.{◌≡◌, Bool, not, List}
use Rattle.std.specs.List.{list_any}
use Rattle.pref_term.specs.Chains.{by_chain}
use Rattle.pref_term.specs.LeadingChains.{by_product, joined}
use Rattle.pref_term.specs.Order.{is_same}
use Rattle.pref_term.specs.declared.key.Key.{Key}
use Rattle.pref_sky.specs.Items.{entry_at}
use Rattle.pref_sky.specs.Members.{Among}
use Rattle.pref_sky.specs.declared.entry.Entry.{Entry}

-- one of these entries differs in a chain from the first of them
abbrev pub tells_apart : List Key → List Entry → Bool
tells_apart keys entries = list_any (λ e. not (is_same (by_chain keys (entry_at entries 0).row e.row))) entries

-- among these entries some chains say what others say: in their product, and one after the other
pub record SayTheSame (entries : List Entry) (chains others : List (List Key)) : Type 0 where
  pub in_product : (a b : Entry) → Among a entries → Among b entries → by_product others a.row b.row ≡ by_product chains a.row b.row
  pub in_turn : (a b : Entry) → Among a entries → Among b entries → by_chain (joined others) a.row b.row ≡ by_chain (joined chains) a.row b.row
