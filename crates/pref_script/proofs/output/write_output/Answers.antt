use Rattle.pref_script.proofs.Common.{◌+◌, arith, length-drop}
use Rattle.pref_script.proofs.BytesLaws.{written_more}
use Rattle.pref_script.proofs.output.write_output.Goals as goal

pub loop-rest-preserved : goal.loop-rest-preserved
loop-rest-preserved g c =
    let (done, inside, parts, before) = c.loop-rest.invariant in
    let after = g.W.Write.contents c.write.new.self.inner in
    let next = written_more _ _ after _ _ done c.in-Ok.count inside parts (omega (arith, c.in-Ok.ensures.bound)) before (grind (arith)) in
    (done + c.in-Ok.count, next.0, next.1, next.2)

pub loop-rest-smaller : goal.loop-rest-smaller
loop-rest-smaller g c = grind (arith, length-drop)
