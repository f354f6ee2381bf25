use Rattle.pref_script.proofs.Common.{◌≡◌, ◌∙◌, ◌++◌, ap, exits, drop, take, take-append-le, length, arith, Consumes-trans, length-append, length-take}
use Rattle.pref_script.proofs.input.read_input.Goals as goal

pub returns-in_err-extend_from_slice : goal.returns-in_err-extend_from_slice
returns-in_err-extend_from_slice g c =
    grind (arith, exits, Consumes-trans _ _ _ c.loop-chunk.input.items (take c.in-Ok.count c.read.new.buf) c.loop-chunk.invariant.1 c.in-Ok.ensures.bytes.0, length-append, length-take)

pub loop-chunk-preserved : goal.loop-chunk-preserved
loop-chunk-preserved g c =
    let buf = c.read.new.buf in
    let part = take c.in-Ok.count buf in
    let input = c.loop-chunk.input.items in
    let room = c.room_after-room.result in
    let size : length buf ≡ length (take room c.loop-chunk.chunk) = c.read.auto.buf in
    let kept = take-append-le c.in-Ok.count buf (drop room c.loop-chunk.chunk) (omega (arith, c.in-Ok.ensures.bound)) in
    let grown : c.extend_from_slice.new.self.items ≡ input ++ part = c.in_ok-extend_from_slice.ensures.items ∙ ap (λ l. input ++ l) kept in (
      omega (
        arith,
        ap length grown,
        c.extend_from_slice.new.self.ok.0,
        length-append input part,
        length-take c.in-Ok.count buf,
        size,
        length-take room c.loop-chunk.chunk,
        c.room_after-room.ensures.most,
        c.len-in-loop-chunk.ensures,
        c.loop-chunk.input.ok.0,
      ),
      rw grown (Consumes-trans _ _ _ input part c.loop-chunk.invariant.1 c.in-Ok.ensures.bytes.0),
    )

-- an input that has come to its end has no fault
pub returns-then-count-eq0-clause-fault : goal.returns-then-count-eq0-clause-fault
returns-then-count-eq0-clause-fault g c = tt

pub loop-chunk-smaller : goal.loop-chunk-smaller
loop-chunk-smaller g c = grind (arith, length-append, length-take)
