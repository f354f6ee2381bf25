-- A chain that tells no two of some entries apart can be left out of those that lead them.
use Rattle.pref_sky.proofs.Common.{◌≡◌, Bool, true, false, ◌||◌, List, ◌≤◌, ◌∙◌, ℕ, ap, length, not, subst, sym, take, take_all, arith, filter}
use Rattle.pref_sky.proofs.Common.{Among, Entry, by_chain, entry_at, is_same}
use Rattle.pref_sky.proofs.ChainLaws.{keys_chain, same_in}
use Rattle.pref_sky.proofs.ListLaws.{any_from}
use Rattle.pref_sky.specs.ChosenChains.{SayTheSame, tells_apart}
use Rattle.pref_term.proofs.LeadingLaws.{joined_kept, product_kept}
use Rattle.pref_term.specs.declared.key.Key.{Key}

-- entries that a chain does not tell apart are all the same in it
same_among : (keys : List Key) (entries : List Entry) (a b : Entry) → Among a entries → Among b entries → tells_apart keys entries ≡ false → is_same (by_chain keys a.row b.row) ≡ true
same_among keys entries a b m n none =
    let first = (entry_at entries 0).row in
    let test : Entry → Bool = λ e. not (is_same (by_chain keys first e.row)) in
    let chain = keys_chain keys in
    grind (arith, none, any_from test entries a m, any_from test entries b n, same_in keys first a.row, same_in keys first b.row, same_in keys a.row b.row, chain.between a.row first b.row, chain.between b.row first a.row)

-- so those that tell some entries apart say what all do
pub say_the_same : (entries : List Entry) (few : Bool) (chains others : List (List Key)) (i : ℕ) → length chains ≤ i → others ≡ filter (λ keys. few || tells_apart keys entries) (take i chains) → SayTheSame entries chains others
say_the_same entries few chains others i past is =
    let keep : List Key → Bool = λ keys. few || tells_apart keys entries in
    let same : (a b : Entry) → Among a entries → Among b entries → (keys : List Key) → keep keys ≡ false → is_same (by_chain keys a.row b.row) ≡ true =
    λ a b m n keys h. same_among keys entries a b m n (grind (arith, h)) in
    subst (SayTheSame entries chains) (sym (is ∙ ap (filter keep) (take_all i chains past))) (record {
      in_product = λ a b m n. product_kept keep a.row b.row (same a b m n) chains;
      in_turn = λ a b m n. joined_kept keep a.row b.row (same a b m n) chains;
    })
