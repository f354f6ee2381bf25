use Rattle.pref_script.proofs.Common.{arith, string_bytes, sym, Part}
use Rattle.pref_script.proofs.TextLaws.{texts-end, texts-more}
use Rattle.pref_script.proofs.parts.push_parts.Goals as goal

pub loop-part-preserved : goal.loop-part-preserved
loop-part-preserved c =
    texts-more (λ (part : Part). string_bytes part.text) _ _ _ c.args.parts.now c.loop-part.part-index c.part-item.result c.part-item.result c.loop-part-test.true (sym c.part-item.is) c.loop-part.invariant (rw c.as_str.ensures.value at c.in_ok-push_str.ensures.bytes)

pub returns : goal.returns
returns c = texts-end (λ (part : Part). string_bytes part.text) _ _ c.args.parts.now c.loop-part.part-index (omega arith) c.loop-part.invariant
