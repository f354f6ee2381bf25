-- What leads some entries in order makes their order one that a sweep can go by: groups first, and within a group by the product of three chains.
use Rattle.pref_sky.proofs.Common.{◌≡◌, ◌≤◌, ◌&&◌, ◌||◌, ◌⊎◌, ◌∙◌, ℕ, ℤ, Bool, true, false, List, [], sym, ap, arith, length, length-map, map, nat_lt, subst}
use Rattle.pref_sky.proofs.Common.{All, AreInOrder, Among, Entry, OwnOrder, Question, StandAlike, Suit, are_level, better_in, by_chain, comes_before, comes_first}
use Rattle.pref_sky.proofs.Common.{entry_at, in_same_group, in_turn, is_better, is_same, is_worse, and_parts}
use Rattle.pref_sky.proofs.Common.{order_of, order_of_stays_in_groups, own_order}
use Rattle.pref_sky.proofs.ChainLaws.{earlier_chain, keys_chain, same_group, same_in}
use Rattle.pref_sky.proofs.ListLaws.{among_place}
use Rattle.pref_sky.proofs.OwnOrders.{own_is_strict, stands_behind}
use Rattle.pref_sky.specs.Chains.{earlier_in}
use Rattle.pref_sky.specs.ChosenChains.{SayTheSame}
use Rattle.pref_sky.specs.Leads.{AreSigned, LeadsSweep, chain_at, chains_of, first_of, mark_of, second_of, third_of}
use Rattle.pref_sky.specs.Held.{AreHeld}
use Rattle.pref_sky.specs.Sweep.{are_level_in, is_ahead}
use Rattle.pref_sky.specs.declared.lead.Lead.{Lead}
use Rattle.pref_term.proofs.ChainLaws.{chain-append}
use Rattle.pref_term.proofs.ExtensionLaws.{ask_alike, ask_extended, ask_same, chain_back, chain_decided}
use Rattle.pref_term.proofs.LeadingLaws.{same_joined, three_say}
use Rattle.pref_term.specs.OrderLaws.{group_back}
use Rattle.pref_term.specs.Extension.{all_keys, ask_keys, group_keys}
use Rattle.pref_term.proofs.SignatureLaws.{signed_by_keys}
use Rattle.pref_term.specs.LeadingChains.{Leads, by_product, joined}
use Rattle.pref_term.specs.Question.{over, twins}
use Rattle.pref_term.specs.RelationLaws.{product-same}
use Rattle.pref_term.specs.Signatures.{IsBy}
use Rattle.pref_term.specs.TwinLaws.{twins_alike}
use Rattle.pref_term.specs.declared.key.Key.{Key}

-- ---- chains that lead some entries

-- among these entries of a group the product of these chains decides where it sees a difference, and the chains one after the other lead the order of the question's keys
pub record LeadAmong (q : Question) (entries : List Entry) (chains : List (List Key)) : Type 0 where
  pub better : (a b : Entry) → Among a entries → Among b entries → in_same_group q.group a.row b.row ≡ true → is_better (by_product chains a.row b.row) ≡ true → over q a.row b.row ≡ true
  pub decided : (a b : Entry) → Among a entries → Among b entries → over q a.row b.row ≡ true
      → (is_better (by_product chains a.row b.row) ≡ true) ⊎ (is_same (by_product chains a.row b.row) ≡ true)
  pub in_order : (a b : Entry) → Among a entries → Among b entries → in_same_group q.group a.row b.row ≡ true → is_worse (by_chain (ask_keys q) a.row b.row) ≡ false
      → is_worse (by_chain (joined chains) a.row b.row) ≡ false

-- rows that are the same in all keys are of a group, and the same in the product of these chains
same_in_keys : (q : Question) (entries : List Entry) (chains : List (List Key)) → LeadAmong q entries chains → (a b : Entry) → Among a entries → Among b entries → is_same (by_chain (ask_keys q) a.row b.row) ≡ true
    → (in_same_group q.group a.row b.row && is_same (by_product chains a.row b.row)) ≡ true
same_in_keys q entries chains leads a b m n h =
    grind (arith, h, ask_same q a.row b.row, group_back q.group a.row b.row, chain_back (ask_keys q) b.row a.row, leads.in_order a b m n, leads.in_order b a n m, chain_back (joined chains) b.row a.row, chain_decided (joined chains) a.row b.row, same_joined chains a.row b.row)

-- ---- the law

-- of three chains behind the groups, of which the first ranks the earlier one better and the others the later one, a row is ahead of rows of its group alone
ahead_in_group : {E : Type 0} (earlier first second third : E → E → Bool) (a b : E)
    → is_ahead (in_turn earlier first) (in_turn (λ c d. earlier d c) second) (in_turn (λ c d. earlier d c) third) a b ≡ (are_level earlier a b && is_ahead first second third a b)
ahead_in_group earlier first second third a b = grind arith

-- what is of an earlier group is better in all keys
ask_earlier : (q : Question) (a b : List ℤ) → better_in (ask_keys q) a b ≡ false → earlier_in q.group a b ≡ false
unfolding earlier_in
ask_earlier q a b h = grind (arith, h, chain-append (group_keys q.group) (all_keys q.preference false) a b)

-- what does not come before another does not dominate it
not_over : (order : OwnOrder) (a b : Entry) → comes_before order a b ≡ false → own_order order a b ≡ false
not_over order a b h =
    let q = order.ask in
    grind (arith, h, ask_extended q a.row b.row, twins_alike q a.row b.row, ask_same q a.row b.row, same_in (ask_keys q) a.row b.row)

module _ (order : OwnOrder) (lead : Lead) where
  abbrev q : Question
  q = order.ask

  abbrev chain : ℕ → List Key
  chain = chain_at lead

  -- entries are level in all just where they are of one group and the same in the three chains
  pub level_is : (a b : Entry)
      → are_level_in (first_of order lead) (second_of order lead) (third_of order lead) a b
      ≡ (in_same_group q.group a.row b.row && (is_same (by_chain (chain 0) a.row b.row) && (is_same (by_chain (chain 1) a.row b.row) && is_same (by_chain (chain 2) a.row b.row))))
  level_is a b = grind (arith, same_group q.group a.row b.row, same_in (chain 0) a.row b.row, same_in (chain 1) a.row b.row, same_in (chain 2) a.row b.row)

  module _ (entries : List Entry) (few : length (chains_of lead) ≤ 3) (leads : LeadAmong q entries (chains_of lead)) where
    -- of two groups they say nothing, and within a group what their product says
    rows_ahead : (a b : List ℤ) → is_better (by_product (chains_of lead) a b) ≡ is_ahead (better_in (chain 0)) (better_in (chain 1)) (better_in (chain 2)) a b
    rows_ahead a b =
        ap is_better (three_say (chains_of lead) a b few).0
        ∙ grind (arith, chain_back (chain 0) a b, chain_back (chain 1) a b, chain_back (chain 2) a b, chain_decided (chain 0) a b, chain_decided (chain 1) a b, chain_decided (chain 2) a b)

    ahead_is : (a b : Entry) → is_ahead (first_of order lead) (second_of order lead) (third_of order lead) a b ≡ (in_same_group q.group a.row b.row && is_better (by_product (chains_of lead) a.row b.row))
    ahead_is a b = ahead_in_group (earlier_in q.group) (better_in (chain 0)) (better_in (chain 1)) (better_in (chain 2)) a.row b.row ∙ (λ i. sym (same_group q.group a.row b.row) i && sym (rows_ahead a.row b.row) i)

    same_is : (a b : Entry) → are_level_in (first_of order lead) (second_of order lead) (third_of order lead) a b ≡ (in_same_group q.group a.row b.row && is_same (by_product (chains_of lead) a.row b.row))
    same_is a b = grind (arith, level_is a b, (three_say (chains_of lead) a.row b.row few).0, product-same)

    -- the earlier group comes first, and within a group what does so in the chains one after the other
    first_is : (a b : Entry) → comes_first (first_of order lead) (second_of order lead) (third_of order lead) a b ≡ in_turn (earlier_in q.group) (better_in (joined (chains_of lead))) a.row b.row
    first_is a b = grind (arith, (three_say (chains_of lead) a.row b.row few).1, same_in (chain 0) a.row b.row, same_in (chain 1) a.row b.row)

    -- what is no better in the question's keys does not come first
    no_first : (a b : Entry) → Among a entries → Among b entries → better_in (ask_keys q) b.row a.row ≡ false → comes_first (first_of order lead) (second_of order lead) (third_of order lead) b a ≡ false
    no_first a b m n h =
        first_is b a
        ∙ grind (arith, h, ask_earlier q b.row a.row, same_group q.group a.row b.row, leads.in_order a b m n, chain_back (ask_keys q) a.row b.row, chain_back (joined (chains_of lead)) a.row b.row)

    leads_sweep : AreInOrder order entries → AreHeld (own_order order) order.cut (mark_of lead) entries → AreSigned order lead entries → LeadsSweep order lead entries
    leads_sweep ordered held signed =
        record {
          swept =
              record {
                strict = own_is_strict order;
                led =
                    record {
                      first_is_chain = grind (arith, earlier_chain q.group, keys_chain (chain 0));
                      second_is_chain = grind (arith, earlier_chain q.group, keys_chain (chain 1));
                      third_is_chain = grind (arith, earlier_chain q.group, keys_chain (chain 2));
                      ahead = λ a b m n h.
                          let is = and_parts (in_same_group q.group a.row b.row) _ (sym (ahead_is a b) ∙ h) in
                          ap (λ above. above || ((order_of q).twin a.row b.row && nat_lt a.id b.id)) (leads.better a b m n is.0 is.1);
                      decided = λ a b m n h.
                          rw (ahead_is a b, same_is a b)
                          (grind (arith, h, same_in_keys q entries (chains_of lead) leads a b m n, ask_same q a.row b.row, twins_alike q a.row b.row, order_of_stays_in_groups q a.row b.row, leads.decided a b m n));
                    };
                in_order = λ j p le inside. not_over order (entry_at entries p) (entry_at entries j) (stands_behind order entries ordered j p le inside);
                in_lead = λ j p le inside.
                    no_first (entry_at entries j) (entry_at entries p) (among_place entries j _ (omega (arith, le, inside))) (among_place entries p _ inside)
                    (grind (arith, stands_behind order entries ordered j p le inside));
              };
          signed = signed;
          keyed = λ a b m n h. same_is a b ∙ same_in_keys q entries (chains_of lead) leads a b m n h;
          held = held;
        }

  -- where no chain leads, and the scales suit the question
  pub leads_by_suit : (entries : List Entry) → AreInOrder order entries → AreHeld (own_order order) order.cut (mark_of lead) entries → lead.chains.items ≡ [] → Suit (order_of q) lead.scales → LeadsSweep order lead entries
  leads_by_suit entries ordered held none suit =
      let same : chains_of lead ≡ [] = ap (map (λ chain. chain.now)) none in
      leads_sweep entries (omega (arith, ap length same)) (subst (LeadAmong q entries) (sym same) (grind arith)) ordered held (λ a b m n level h. grind (arith, h, suit.over a.row b.row, suit.twin a.row b.row))

  -- and where the scales are by the keys that are behind the chains that lead it, and these say the same
  pub leads_behind : (entries : List Entry) → AreInOrder order entries → AreHeld (own_order order) order.cut (mark_of lead) entries → length lead.chains.items ≤ 3 → (all : List (List Key)) (keys : List Key) → Leads q all keys
      → SayTheSame entries all (chains_of lead) → All (IsBy keys) lead.scales → LeadsSweep order lead entries
  leads_behind entries ordered held few all keys question same by =
      let within : length (chains_of lead) ≤ 3 = omega (arith, few, length-map lead.chains.items (λ chain. chain.now)) in
      let leads : LeadAmong q entries (chains_of lead) = grind (arith, question.better, question.decided, question.in_order, same.in_product, same.in_turn) in
      leads_sweep entries within leads ordered held (λ a b m n level h.
      let either : (over q a.row b.row || twins q a.row b.row) ≡ true = grind (arith, h) in
      signed_by_keys keys lead.scales a.row b.row (question.behind a.row b.row (grind (arith, level, same.in_product a b m n, same_is entries within leads a b)) either) by)

-- ---- how an entry stands to another

-- where equal rows are all kept, entries that are the same in all keys are alike
pub alike_entries : (order : OwnOrder) (a b : Entry) → order.ask.distinct ≡ false → is_same (by_chain (ask_keys order.ask) a.row b.row) ≡ true → StandAlike (own_order order) a b
alike_entries order a b kept h = grind (arith, kept, ask_alike order.ask a.row b.row h)
