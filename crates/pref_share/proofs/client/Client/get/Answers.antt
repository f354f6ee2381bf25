use Rattle.pref_share.proofs.Common.{arith, rules, refl, sym, ◌≡◌, ◌∙◌, state_at, row_after}
use Rattle.pref_share.proofs.HistoryLaws.{left_stands}
use Rattle.pref_share.proofs.StandingLaws.{sees, stands_seen}
use Rattle.pref_share.proofs.ViewsLaws.{still_knows}
use Rattle.pref_share.proofs.client.Client.get.Goals.{Joined-row, in-Some-row, in-None}
use Rattle.pref_share.proofs.client.Client.get.Given.{Over}
use Rattle.pref_share.proofs.client.Client.get.Goals as goal

-- the row that was found is that of the history
is_row : (g : Over) (c : Joined-row g) → c.in-Some.row ≡ row_after g.J.BoardBrand.opening c.in-Some.now c.args.id
is_row g c =
    let o = g.J.BoardBrand.opening in
    let read = c.in-Some.ensures.found in
    read.2.1 (state_at o c.in-Some.now) (left_stands o c.in-Some.now _ read.1 read.2.2)

pub returns-clause-row : goal.returns-clause-row
returns-clause-row g c =
    let o = g.J.BoardBrand.opening in
    let read = c.in-Some.ensures.found in
    elim c.match-row.branch [
      | in-Some-row w ↦ rw w.result-is (rw (← c.self.view_is) (sees o _ _ read.0 read.1 refl refl refl, sym (is_row g c) ∙ w.in-Some-row.is))
      | in-None w ↦ rw w.result-is search rules
    ]

pub returns-clause-refused : goal.returns-clause-refused
returns-clause-refused g c =
    let o = g.J.BoardBrand.opening in
    let read = c.in-Some.ensures.found in
    elim c.match-row.branch [
      | in-Some-row w ↦ rw w.result-is search rules
      | in-None w ↦ rw w.result-is (rw (← c.self.view_is) (refl, sees o _ _ read.0 read.1 refl refl refl, sym (is_row g c) ∙ w.in-None.is))
    ]

pub invariant_of-self : goal.invariant_of-self
invariant_of-self g c = grind (arith, still_knows, stands_seen)

pub invariant_of-self-2 : goal.invariant_of-self-2
invariant_of-self-2 g c = grind (arith, still_knows, stands_seen)
