use Rattle.std.proofs.Common.{◌≡◌, ◌+◌, ◌-◌, ◌≤◌, length, rules, refl, sym, ◌∙◌, ap, take, arith}
use Rattle.bit_addressing.specs.Row.{moved, number_bits, put}
use Rattle.bit_addressing.proofs.lists.Moved.{length-moved}
use Rattle.bit_addressing.proofs.lists.Put.{length-put}
use Rattle.bit_rows.proofs.Binary.{length-number_bits}
use Rattle.bit_containers.specs.Repeated.{alternating}
use Rattle.bit_containers.proofs.Alternating.{turns_copied, turns_written}
use Rattle.bit_containers.proofs.vec.BitVec.alternate.Goals as goal

pub loop-at-init : goal.loop-at-init
loop-at-init g c =
    let xs = c.args.self.now.list in
    let at = c.min-at.result in
    let number = c.in_turn.result in
    let ys = number_bits number at in
    let size = length-number_bits number at in
    let room : 0 + at ≤ length xs = omega (arith, c.min-at.ensures, c.len-len.ensures.value) in
    let is = c.store_le_at.ensures.list in
    let long : length c.store_le_at.new.self.list ≡ length xs = ap length is ∙ length-put xs ys 0 (omega (arith, size, room)) in
    let e : 0 + at ≡ at = omega arith in
    record {
      ends = omega (arith, c.min-at.ensures);
      size = omega (arith, long, c.len-len.ensures.value);
      some = λ goes. omega (arith, goes, c.min-at.ensures);
      even = λ goes. omega (arith, goes, c.min-at.ensures);
      done = ap (take at) is ∙ ap (λ k. take k (put xs 0 ys)) (sym e) ∙ turns_written xs 0 at number c.args.first room (omega (arith, c.min-at.ensures)) refl c.in_turn.ensures refl ∙ ap (λ k. alternating k c.args.first) e;
      head = search rules;
      capacity = search rules;
    }

pub loop-at-smaller : goal.loop-at-smaller
loop-at-smaller g c = omega (arith, c.min-more.ensures, c.loop-at-test.true, c.loop-at.invariant.some c.loop-at-test.true)

pub loop-at-preserved : goal.loop-at-preserved
loop-at-preserved g c =
    let at = c.loop-at in
    let xs = at.self.list in
    let more = c.min-more.result in
    let goes = c.loop-at-test.true in
    let even = at.invariant.even goes in
    let few : more ≤ at.at = omega (arith, c.min-more.ensures) in
    let room : at.at + more ≤ length xs = omega (arith, c.min-more.ensures, at.invariant.size, goes) in
    let all : more - 0 ≡ more = omega arith in
    let is : c.copy_within.new.self.list ≡ moved xs 0 at.at more = c.copy_within.ensures.list ∙ ap (moved xs 0 at.at) all in
    record {
      ends = omega (arith, room, at.invariant.size);
      size = ap length is ∙ length-moved xs 0 at.at more ∙ at.invariant.size;
      some = λ on. omega (arith, at.invariant.some goes);
      even = λ on. omega (arith, on, c.min-more.ensures, even);
      done = ap (take (at.at + more)) is ∙ turns_copied xs at.at more c.args.first room few even at.invariant.done;
      head = search rules;
      capacity = search rules;
    }
