use Rattle.pref_sky.proofs.Common.{All, Suit, arith, inl, inr, eqb-true, nil_from_length, subst, sym, order_of, vec_len, ◌∙◌}
use Rattle.pref_sky.proofs.LeadLaws.{leads_behind, leads_by_suit}
use Rattle.pref_term.specs.Signatures.{IsBy}
use Rattle.pref_sky.proofs.lead.Lead.of.Goals.{then-is_empty+in_ok-scales, else-is_empty+in_ok-scales-2}
use Rattle.pref_sky.proofs.lead.Lead.of.Goals as goal

pub returns : goal.returns
returns c =
    let order = c.args.order.now in
    let entries = c.args.entries.now in
    let keys = c.leading-leading.result.behind.now in
    let chosen = c.in_ok-chains.ensures {u = tt} in
    elim c.if-is_empty.branch [
      | then-is_empty+in_ok-scales w ↦
          let chains = c.in_ok-chains.chains in
          let none = nil_from_length chains.items (omega (arith, eqb-true (vec_len chains) 0 (sym c.is_empty.ensures ∙ w.if-is_empty.true), chains.ok.0)) in
          leads_by_suit order _ entries c.requires.in_order c.requires.held none (subst (Suit (order_of order.ask)) (sym w.scales-is) (w.in_ok-scales.ensures {u = tt}))
      | else-is_empty+in_ok-scales-2 w ↦
          leads_behind order _ entries c.requires.in_order c.requires.held chosen.few c.leading-leading.result.chains.now keys c.leading-leading.ensures
          (elim chosen.same [ inl none ↦ absurd (grind (arith, none, w.if-is_empty.false, c.is_empty.ensures)) | inr same ↦ same ])
          (subst (All (IsBy keys)) (sym w.scales-is) (w.in_ok-scales-2.ensures {u = tt}))
    ]
