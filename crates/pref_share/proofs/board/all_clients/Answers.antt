use Rattle.pref_share.proofs.Common.{◌≡◌, ◌∙◌, ◌+◌, ◌++◌, ap, ◌∷◌, [], arith, rules, sym, newcomer}
use Rattle.std.proofs.lemmas.List.FromFn.{map-range_with_len_more}
use Rattle.pref_share.proofs.board.all_clients.Goals as goal

pub loop-client-preserved : goal.loop-client-preserved
loop-client-preserved g c =
    let n = c.loop-client.client in
    let now = c.loop-client.invariant in
    let grown : c.push.new.self.items ≡ c.loop-client.all.items ++ c.new-client.result ∷ [] = search rules in (
      grown ∙ (λ i. now.0 i ++ c.new-client.ensures i ∷ []) ∙ sym (map-range_with_len_more newcomer 1 n (n + 1) (omega arith)),
      c.in-Ok.ensures.kept ∙ now.1,
      c.in-Some.ensures.rights.0 ∙ now.2,
      c.in-Some.ensures.rights.1 ∙ ap (λ k. k + 1) now.3,
      c.in-Some.ensures.rights.2,
    )
