use Rattle.pref_sky.proofs.Common.{Bool, List, Entry, ◌≤◌, refl}
use Rattle.pref_sky.proofs.Common.{◌≡◌, inr, not, [], ◌∷◌, filter, length, ap, arith, length-append, filter-append, entry_order}
use Rattle.pref_sky.specs.Windows.{window_entries}
use Rattle.std.proofs.lemmas.List.Folds.{list_any-append}
use Rattle.pref_sky.proofs.ListLaws.{filter_shorter}
use Rattle.pref_sky.proofs.window.Window.offer.Goals as goal

-- a filter that keeps as many keeps all
filter_whole : {E : Type 0} (p : E → Bool) (xs : List E) → length xs ≤ length (filter p xs) → filter p xs ≡ xs
filter_whole p [] long = refl
filter_whole p (x ∷ xs) long = grind (arith, filter_whole p xs, filter_shorter p xs)

-- nothing went out of a full window
pub returns-then-len-self-clause-outcome : goal.returns-then-len-self-clause-outcome
returns-then-len-self-clause-outcome g c =
    let left : Entry → Bool = λ x. not (entry_order (g.D.Dominance.order c.args.dominance.now) c.args.entry x) in
    grind (arith, filter_whole left c.self.inside.early.items, filter_whole left c.self.inside.late.items, filter_shorter left, filter-append, length-append, list_any-append)

pub returns-then-len-self-clause-as_before : goal.returns-then-len-self-clause-as_before
returns-then-len-self-clause-as_before g c = inr (ap window_entries (returns-then-len-self-clause-outcome g c).3)

-- for an edit that must fail: an answer fails at once, a search twice at its limits
pub invariant_of-self-then-self : goal.invariant_of-self-then-self
invariant_of-self-then-self g c = record { within = omega arith; early_room = omega arith; late_room = omega arith; positive = omega arith }
