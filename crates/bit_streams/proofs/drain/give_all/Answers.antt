use Rattle.std.proofs.Common.{◌≤◌, drop, length, take, subst, arith}
use Rattle.std.proofs.lemmas.List.{length-drop, take_rest}
use Rattle.std.specs.Io.KnownBytes.{Appends}
use Rattle.bit_streams.proofs.Buffers.{given_on}
use Rattle.bit_streams.proofs.drain.give_all.Goals as goal

pub loop-taken-preserved : goal.loop-taken-preserved
loop-taken-preserved g c =
    let at = c.loop-taken in
    let bytes = c.args.bytes.now in
    let n = c.in-Ok.n in
    let all = take_rest bytes at.taken in
    let most : n ≤ length (drop at.taken bytes) = subst (λ l. n ≤ length l) all c.in-Ok.ensures.few in
    let left = length-drop at.taken bytes in
    let inside = at.invariant.within in
    record {
      within = omega arith;
      given = given_on (g.W.Write.contents c.args.out.now) (g.W.Write.contents at.out) (g.W.Write.contents c.give_some.new.out) bytes at.taken n at.invariant.given (subst (λ l. Appends (g.W.Write.contents at.out) (g.W.Write.contents c.give_some.new.out) (take n l)) all c.in-Ok.ensures.given);
    }
