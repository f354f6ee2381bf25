use Rattle.pref_script.proofs.Common.{◌≡◌, ◌++◌, drop, string_bytes, texts}
use Rattle.pref_script.proofs.parts.push_parts.Given as goal

abbrev pub invariant-loop-part : goal.invariant-loop-part
invariant-loop-part l = string_bytes l.out ++ texts (λ part. string_bytes part.text) (drop l.part-index l.parts) ≡ string_bytes l.fn.out ++ texts (λ part. string_bytes part.text) l.parts
