use Rattle.std.proofs.Common.{◌≡◌, ℕ, ◌+◌, ◌*◌, ◌/◌, List, Bool, [], ◌∷◌, length, slice_range, refl, sym, ◌∙◌, ap, arith, rules, mul_comm}
use Rattle.std.specs.Simd.Lanes.{zip2}
use Rattle.bit_addressing.specs.Row.{put, row_of}
use Rattle.bit_addressing.specs.Typed.{row}
use Rattle.bit_addressing.proofs.Blocks.{stands}
use Rattle.bit_rows.proofs.Combinations.{combined_next, combined_none}
use Rattle.bit_addressing.proofs.Packs.{pack_fills}
use Rattle.bit_addressing.proofs.Rows.{width_small}
use Rattle.bit_addressing.proofs.Runs.{mul_mono}
use Rattle.bit_addressing.proofs.Typed.{length_row}
use Rattle.bit_addressing.proofs.lists.Sized.{right_sum}
use Rattle.bit_rows.proofs.combined.combine_blocks.Goals as goal

pub loop-t-init : goal.loop-t-init
loop-t-init g c = record {
  bits = combined_none g.F.BitOperator.made (row g.T.BitStore g.O.BitOrder c.args.words.now) (row g.U.BitStore g.P.BitOrder c.args.source.now) (c.args.first * g.T.BitStore.BITS) (c.args.begin * g.U.BitStore.BITS + c.args.skip) 0 refl;
  size = refl;
}

pub overflow_mul-t : goal.overflow_mul-t
overflow_mul-t g c = let room = rw (← c.BITS.ensures) at (c.requires.target c.loop-t.t c.loop-t-test.true) in omega arith

pub overflow_add-first : goal.overflow_add-first
overflow_add-first g c = let room = rw (← c.BITS.ensures) at (c.requires.target c.loop-t.t c.loop-t-test.true) in omega arith

pub combine_block-requires : goal.combine_block-requires
combine_block-requires g c = rw (c.BITS.ensures, c.loop-t.invariant.size) (c.requires.target c.loop-t.t c.loop-t-test.true)

pub loop-t-preserved : goal.loop-t-preserved
loop-t-preserved g c =
    let w = g.T.BitStore.BITS in
    let u = g.U.BitStore.BITS in
    let f = g.F.BitOperator.made in
    let place = g.O.BitOrder.place in
    let first = c.args.first in
    let begin = c.args.begin in
    let skip = c.args.skip in
    let t = c.loop-t.t in
    let words = c.args.words.now in
    let source = c.args.source.now in
    let old = row g.T.BitStore g.O.BitOrder words in
    let cur = row g.T.BitStore g.O.BitOrder c.loop-t.words in
    let zs = row g.U.BitStore g.P.BitOrder source in
    let block = c.block_after-block.result in
    let each : ℕ = 64 / c.BITS.result in
    let k : ℕ = first + t * each in
    let at : ℕ = first * w in
    let from : ℕ = begin * u + skip in
    let p : ℕ = at + t * 64 in
    let q : ℕ = at + (t + 1) * 64 in
    let a : ℕ = from + t * 64 in
    let upto : ℕ = from + (t + 1) * 64 in
    let below = c.loop-t-test.true in
    let fills : 64 / w * w ≡ 64 = pack_fills w g.met.T.BitStore.width in
    let begins : k * w ≡ p = (let d = stands w c.BITS.result first 0 t g.met.T.BitStore.width c.BITS.ensures in omega arith) in
    let ends : (k + 64 / w) * w ≡ q = (let d = right_sum k (64 / w) w in omega arith) in
    let size : length old ≡ w * length words = length_row g.T.BitStore.value place w words in
    let long : length zs ≡ u * length source = length_row g.U.BitStore.value g.P.BitOrder.place u source in
    let room = c.requires.target t below in
    let held : first + t * (64 / w) + 64 / w ≡ k + 64 / w = ap (λ n. first + t * (64 / n) + 64 / w) (sym c.BITS.ensures) in
    let fit = mul_mono (k + 64 / w) (length words) w (omega arith) in
    let turned = mul_comm (length words) w in
    let lies : (begin + t * (64 / u)) * u + skip ≡ a = stands u u begin skip t g.met.U.BitStore.width refl in
    let beyond = c.requires.source t below in
    let small = width_small u g.met.U.BitStore.width in
    let within = c.requires.within in
    let next : a + 64 ≡ upto = omega arith in
    let one : List Bool = zip2 f (slice_range cur (k * w) ((k + 64 / w) * w)) (row_of place 64 (block ∷ [])) in
    let bits : row_of place 64 (block ∷ []) ≡ slice_range zs a upto = c.block_after-block.ensures
    ∙ ap (slice_range zs a) next in
    let is : one ≡ zip2 f (slice_range cur p q) (slice_range zs a upto) = ap (zip2 f (slice_range cur (k * w) ((k + 64 / w) * w))) bits ∙ ap (λ n. zip2 f (slice_range cur n ((k + 64 / w) * w)) (slice_range zs a upto)) begins ∙ ap (λ n. zip2 f (slice_range cur p n) (slice_range zs a upto)) ends in
    record {
      bits = c.combine_block.ensures.bits
          ∙ ap (λ d. put cur d one) begins
          ∙ combined_next f old cur zs one at p q from a upto (omega arith) (omega arith) (omega arith) (omega arith) (omega arith) (omega arith) c.loop-t.invariant.bits is;
      size = search rules;
    }
