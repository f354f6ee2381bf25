use Rattle.pref_share.proofs.Common.{◌≡◌, suc, ◌+◌, length, subst, arith, IsPageOf}
use Rattle.pref_share.proofs.StandingLaws.{end_done, end_takes_no_memory, joins, only_memory, stands_ended}
use Rattle.pref_share.proofs.client.Client.end.Goals as goal

pub unreachable-requires : goal.unreachable-requires
unreachable-requires g c =
    let accepted = rw (← c.self.view_is) at c.requires.accepted in
    let memory = only_memory g.J.BoardBrand.opening _ _ c.args.call c.in_default.field-0 c.self.invariant.2 c.self.invariant.3.counted accepted c.in_default.ensures.refused in
    end_takes_no_memory c.args.call c.requires.ends memory.1

pub invariant_of-self : goal.invariant_of-self
invariant_of-self g c =
    let counted = c.self.invariant.3.counted in
    let made : suc (length c.self.inside.page.ops) ≡ c.self.inside.counter + 1 = omega arith in (
      c.self.invariant.0,
      c.self.invariant.1,
      stands_ended g.J.BoardBrand.opening _ _ c.args.call c.in-Ok.field-0 c.self.invariant.2 counted c.in-Ok.ensures.joined _ c.requires.ends (omega arith),
      subst (λ n. IsPageOf g.J.BoardBrand.book c.self.inside.number n c.join.new.page) made c.in-Ok.ensures.page,
    )

pub returns : goal.returns
returns g c = grind (arith, joins, end_done)
