use Rattle.pref_script.proofs.Common.{◌≡◌, ◌∙◌, ◌+◌, ℕ, List, ap, arith, length, length_push, map, refl, subst, sym, ArePartsUpTo, Part}
use Rattle.std.proofs.Common.{Bor}
use Rattle.pref_script.proofs.PartLaws.{are-more}
use Rattle.pref_script.proofs.parts.empty_parts.Goals as goal

pub loop-client-preserved : goal.loop-client-preserved
loop-client-preserved c =
    let parts = c.loop-client.parts.items in
    let count : c.loop-client.client + 1 ≡ 1 + length parts = omega (arith, c.loop-client.invariant.0) in
    let size : length c.push.new.self.items ≡ c.loop-client.client + 1 = ap length c.in_ok-push.ensures.items ∙ length_push parts _ ∙ ap (λ n. n + 1) c.loop-client.invariant.0 in (
      size,
      λ raws. subst (λ (all : List Part). ArePartsUpTo c.args.schema.now raws raws all) (sym c.in_ok-push.ensures.items)
          (are-more c.args.schema.now raws 1 parts _ (c.loop-client.invariant.1 raws) refl count (ap (map (λ (r : Bor (List ℕ)). r.now)) c.new.ensures.items) refl c.new-in-loop-client.ensures.bytes),
    )
