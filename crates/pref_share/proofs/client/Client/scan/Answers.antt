use Rattle.pref_share.proofs.Common.{rules, ◌≡◌, ◌++◌, List, map, Option, Result, Some, refl, sym, subst, ap, ◌∙◌, Vec, IsPrefix, Op, CoreFault, next_block, Contents, Opening, IsLegalFrom}
use Rattle.pref_share.proofs.Common.{calls_at, contents_at, Asking, Standing, IsTurn, Stands, count_by, length, ◌≤◌}
use Rattle.pref_sky.specs.declared.entry.Entry.{Entry}
use Rattle.pref_sky.specs.Levels.{HaveDifferentIds, entry_of}
use Rattle.pref_core.specs.Scans.{Reads, IsAdded}
use Rattle.pref_share.proofs.StandingLaws.{even, next_new, stands_scanned, sees}
use Rattle.pref_share.proofs.ViewsLaws.{still_knows}
use Rattle.pref_share.proofs.client.Client.scan.Given.{Over}
use Rattle.pref_share.proofs.client.Client.scan.Goals.{After-deref}
use Rattle.pref_share.proofs.client.Client.scan.Goals as goal

-- what is known of the block that was read for the open query
record IsReadFor (o : Opening) (s : Standing) (asking : Asking) (now : List Op) (block : List Entry) : Type 0 where
  query : s.query ≡ Some asking
  stands : Stands o s.number s.counter s.seen (Some asking)
  further : IsPrefix s.seen now
  legal : IsLegalFrom o now
  alone : calls_at o now s.number ≡ Some s.counter
  is : block ≡ next_block asking.scan (contents_at o now).slots

is_read : (g : Over) (c : After-deref g) → IsReadFor g.J.BoardBrand.opening (record { number = c.self.inside.number; counter = c.self.inside.counter; seen = c.self.inside.seen; query = c.self.inside.asking }) (record { scan = c.asking.inside.query; at_begin = c.asking.inside.at_begin }) c.in-Some-found.now c.deref.result.now
is_read g c =
    let o = g.J.BoardBrand.opening in
    let s = c.self.inside in
    let now = c.in-Some-found.now in
    let asking : Asking = record { scan = c.asking.inside.query; at_begin = c.asking.inside.at_begin } in
    let found = c.in-Some-found.ensures.found in
    let query : s.asking ≡ Some asking = c.in-Some.is ∙ ap Some (sym c.asking.view_is) in
    let reads = subst (λ (x : Contents). Reads asking.scan x.slots c.in-Some-found.block) found.2.2 found.2.1 in
    let turn : IsTurn o s.number (length s.page.ops) s.seen now = record { further = found.0; legal = found.1; few = subst (λ n. count_by n now ≤ length s.page.ops) c.self.invariant.3.number_is c.count.ensures.few } in
    record {
      query = query;
      stands = subst (λ (q : Option Asking). Stands o s.number s.counter s.seen q) query c.self.invariant.2;
      further = found.0;
      legal = found.1;
      alone = even o s.number s.counter (length s.page.ops) s.seen now s.asking c.self.invariant.2 c.self.invariant.3.counted turn;
      is = c.deref.ensures.value ∙ (subst (λ (r : Result (Vec Entry) CoreFault). Reads asking.scan (contents_at o now).slots r) c.in-Ok.is reads).0;
    }

pub add-requires-clause-new : goal.add-requires-clause-new
add-requires-clause-new g c =
    let r = is_read g c in
    subst (λ (l : List Entry). HaveDifferentIds (map entry_of c.asking.inside.query.partial ++ l)) (sym r.is) (next_new g.J.BoardBrand.opening _ _ _ _ _ r.stands r.further r.legal r.alone)

pub invariant_of-self-in-Ok-add : goal.invariant_of-self-in-Ok-add
invariant_of-self-in-Ok-add g c =
    let r = is_read g (goal.at.invariant_of-self-in-Ok-add g c).After-deref in
    let added = subst (λ (l : List Entry). IsAdded c.asking.inside.query l c.add.new.self) r.is c.in-Ok-add.ensures.1 in
    (still_knows c.read-found.ensures.view c.self.invariant.0, c.self.invariant.1, stands_scanned g.J.BoardBrand.opening _ _ _ _ _ c.add.new.self r.stands r.further r.legal r.alone added, rw c.count.ensures.same c.self.invariant.3)

pub returns-in-Ok-add-clause-scanned : goal.returns-in-Ok-add-clause-scanned
returns-in-Ok-add-clause-scanned g c =
    let r = is_read g (goal.at.returns-in-Ok-add-clause-scanned g c).After-deref in
    let added = subst (λ (l : List Entry). IsAdded c.asking.inside.query l c.add.new.self) r.is c.in-Ok-add.ensures.1 in
    rw (← (c.self.view_is))
    (record { asking = _; is_open = r.query; after = c.add.new.self; query = refl; left_is = c.in-Ok-add.ensures.0; scans = added; further = r.further; legal = r.legal; alone = r.alone; counted = refl; same = refl })

pub returns-clause-refused : goal.returns-clause-refused
returns-clause-refused g c =
    let r = is_read g (goal.at.returns-clause-refused g c).After-deref in
    let same = c.self.view_is in
    let kept : c.add.new.self ≡ c.asking.inside.query = c.in-Err.ensures.0 in
    rw (← same)
    ((c.left.result, record { asking = _; is_open = r.query; left_is = c.left.ensures; some = search rules }), sees g.J.BoardBrand.opening _ _ r.further r.legal refl refl ((λ i. Some (record { scan = kept i; at_begin = c.asking.inside.at_begin })) ∙ sym r.query))

pub returns-in_default-clause-refused : goal.returns-in_default-clause-refused
returns-in_default-clause-refused g c = rw (← c.self.view_is) (c.in_default.is, refl)
