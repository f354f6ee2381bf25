-- No public contract cites this.
-- The three chains that lead the order of entries in a sweep, each with the groups before its keys, and the rule by which they are signed.
use Rattle.std.specs.Prelude.{◌≡◌, ◌<◌, ◌-◌, Bool, true, ℕ, List, [], get_or, length, map}
use Rattle.pref_term.specs.Chains.{by_chain}
use Rattle.pref_term.specs.Extension.{ask_keys}
use Rattle.pref_term.specs.Order.{is_same}
use Rattle.pref_term.specs.Signatures.{is_within}
use Rattle.pref_term.specs.declared.key.Key.{Key}
use Rattle.pref_sky.specs.Chains.{better_in, by_row, earlier_in, in_turn}
use Rattle.pref_sky.specs.Items.{entry_at, signature_by}
use Rattle.pref_sky.specs.Members.{Among}
use Rattle.pref_sky.specs.Held.{AreHeld}
use Rattle.pref_sky.specs.OwnOrders.{own_order}
use Rattle.pref_sky.specs.Sweep.{AreAbove, AreSwept, HasSwept, IsClass, StandsFor, are_level_in}
use Rattle.pref_sky.specs.declared.entry.Entry.{Entry}
use Rattle.pref_sky.specs.declared.lead.Lead.{Lead}
use Rattle.pref_sky.specs.declared.level.Level.{Level}
use Rattle.pref_sky.specs.declared.own_order.OwnOrder.{OwnOrder}
use Rattle.pref_sky.specs.declared.sweep.Sweep.{Sweep}

-- the chains
abbrev pub chains_of : Lead → List (List Key)
chains_of lead = map (λ chain. chain.now) lead.chains.items

-- the n-th of them, without a key where there are fewer
abbrev pub chain_at : Lead → ℕ → List Key
chain_at lead n = get_or (chains_of lead) n []

-- the earlier group is better in the first, and worse in the others: so rows of two groups are apart in their product
abbrev pub first_of : OwnOrder → Lead → Entry → Entry → Bool
first_of order lead = by_row (in_turn (earlier_in order.ask.group) (better_in (chain_at lead 0)))

abbrev pub behind_first : OwnOrder → Lead → ℕ → Entry → Entry → Bool
behind_first order lead n = by_row (in_turn (λ a b. earlier_in order.ask.group b a) (better_in (chain_at lead n)))

abbrev pub second_of : OwnOrder → Lead → Entry → Entry → Bool
second_of order lead = behind_first order lead 1

abbrev pub third_of : OwnOrder → Lead → Entry → Entry → Bool
third_of order lead = behind_first order lead 2

-- the signature of an entry
abbrev pub rule_of : Lead → Entry → ℕ
rule_of lead = signature_by lead.scales

-- the level of which the entry at a place was when it was held already; 0 of a new one
abbrev pub mark_of : Lead → ℕ → ℕ
mark_of lead place = get_or lead.held.items place 0

-- of two that are level in these chains the one that dominates has no bit in its signature that the other lacks
abbrev pub AreSigned : OwnOrder → Lead → List Entry → Type 0
AreSigned order lead all = (a b : Entry) → Among a all → Among b all → are_level_in (first_of order lead) (second_of order lead) (third_of order lead) a b ≡ true → own_order order a b ≡ true
    → is_within (rule_of lead a) (rule_of lead b) ≡ true

-- these chains lead the order of these entries, which are in order, and see no difference that the question's keys do not; and some were held already
pub record LeadsSweep (order : OwnOrder) (lead : Lead) (all : List Entry) : Type 0 where
  pub swept : AreSwept (own_order order) (first_of order lead) (second_of order lead) (third_of order lead) all
  pub signed : AreSigned order lead all
  pub keyed : (a b : Entry) → Among a all → Among b all → is_same (by_chain (ask_keys order.ask) a.row b.row) ≡ true
      → are_level_in (first_of order lead) (second_of order lead) (third_of order lead) a b ≡ true
  pub held : AreHeld (own_order order) order.cut (mark_of lead) all

-- classes, what is kept of a level, and what is known of all levels, in a sweep that these lead
abbrev pub IsClassBy : OwnOrder → Lead → List Entry → (class i : ℕ) → Type 0
IsClassBy order lead = IsClass (first_of order lead) (second_of order lead) (third_of order lead)

abbrev pub StandsBy : OwnOrder → Lead → List Entry → (class i n : ℕ) → Level → Type 0
StandsBy order lead = StandsFor (own_order order) (second_of order lead) (third_of order lead) (rule_of lead) (mark_of lead)

abbrev pub HasSweptBy : OwnOrder → Lead → List Entry → (i class : ℕ) → List Level → Type 0
HasSweptBy order lead = HasSwept (own_order order) (second_of order lead) (third_of order lead) (rule_of lead) (mark_of lead) order.cut

-- a sweep stands before an entry with this signature: it knows of all entries before it, and has begun its class
pub record IsSweptTo (order : OwnOrder) (lead : Lead) (all : List Entry) (i signature : ℕ) (sweep : Sweep) : Type 0 where
  pub inside : i < length all
  pub leads : LeadsSweep order lead all
  pub signed : signature ≡ rule_of lead (entry_at all i)
  pub so_far : HasSweptBy order lead all i sweep.class sweep.levels.items
  pub class : IsClassBy order lead all sweep.class i

-- it stands behind the first entries: it knows of them, and of the last one its class, and how many levels are above it
pub record HasPassed (order : OwnOrder) (lead : Lead) (all : List Entry) (i : ℕ) (sweep : Sweep) : Type 0 where
  pub so_far : HasSweptBy order lead all i sweep.class sweep.levels.items
  pub class : 0 < i → IsClassBy order lead all sweep.class (i - 1)
  pub above : 0 < i → AreAbove (own_order order) order.cut all (entry_at all (i - 1)) sweep.above
