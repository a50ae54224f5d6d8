use Rattle.std.proofs.Common.{◌≡◌, ◌+◌, ◌-◌, ◌*◌, length, ap, arith}
use Rattle.bit_addressing.specs.Typed.{row}
use Rattle.bit_addressing.specs.Row.{words_for}
use Rattle.bit_addressing.proofs.Rows.{width_positive}
use Rattle.bit_addressing.proofs.lists.Sized.{room}
use Rattle.bit_streams.specs.Streams.{padded}
use Rattle.bit_streams.proofs.Both.{emptied}
use Rattle.bit_streams.proofs.Windows.{nothing_held}
use Rattle.bit_streams.proofs.reader.BitReader.new.Goals as goal

pub invariant_of-result : goal.invariant_of-result
invariant_of-result g c =
    let w = g.T.BitStore.BITS in
    let end = c.head-start.result + c.len-len.result in
    let most = (room w end (width_positive w g.met.T.BitStore.width)).0 in
    let count : length c.as_raw_slice.result.now ≡ words_for w end = grind arith in
    let size : w * length c.as_raw_slice.result.now ≡ w * words_for w end = ap (λ n. w * n) count in
    let few = c.len-len.ensures.few in
    emptied (row g.T.BitStore g.O.BitOrder c.as_raw_slice.result.now) w (length c.as_raw_slice.result.now) c.head-start.result c.len-len.result end 0 0 (record {
      held = nothing_held (padded (row g.T.BitStore g.O.BitOrder c.as_raw_slice.result.now)) (end - c.len-len.result);
      ahead = omega arith;
      begins = omega arith;
      within = omega arith;
      few = omega arith;
      in_word = omega arith;
      exact = count;
    })
