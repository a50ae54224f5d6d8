use Rattle.std.proofs.Common.{◌≡◌, ℕ, ◌+◌, ◌-◌, ◌*◌, ◌/◌, ◌≤◌, List, Bool, length, slice_range, ◌∙◌, ap, subst, arith, mul_comm}
use Rattle.std.proofs.Math.Nat.{le-mul_of_pos_right}
use Rattle.std.specs.Simd.Lanes.{zip2}
use Rattle.std.proofs.lemmas.Grind.{common_steps}
use Rattle.bit_addressing.specs.Bits.{IsWidth}
use Rattle.bit_addressing.specs.Row.{put}
use Rattle.bit_addressing.specs.Typed.{row}
use Rattle.bit_addressing.proofs.Blocks.{blocks_inside, stands}
use Rattle.bit_rows.proofs.Combinations.{combined_next}
use Rattle.bit_addressing.proofs.Rows.{width_positive}
use Rattle.bit_addressing.proofs.Runs.{mul_mono}
use Rattle.bit_addressing.proofs.lists.Sized.{one_more_word}
use Rattle.bit_addressing.proofs.Typed.{length_row}
use Rattle.bit_rows.proofs.Wholes.{split_sum}
use Rattle.bit_rows.proofs.combined.combine_unlike.Goals as goal

-- the words that follow the blocks
record Reached (w u first last begin skip blocks next beyond : ℕ) : Type 0 where
  ordered : next ≤ last
  begins : next * w ≡ first * w + blocks * 64
  stood : beyond * u + skip ≡ begin * u + skip + blocks * 64
  rest : blocks * 64 + (last - next) * w ≡ (last - first) * w
  low : beyond ≤ beyond * u

reached : {w u each others first last : ℕ} (begin skip blocks : ℕ) → IsWidth w → IsWidth u → each ≡ w → others ≡ u → first ≤ last → blocks ≤ (last - first) / (64 / each)
    → Reached w u first last begin skip blocks (first + blocks * (64 / each)) (begin + blocks * (64 / others))
reached {w} {u} {each} {others} {first} {last} begin skip blocks is other e d ordered few =
    let most = mul_mono blocks ((last - first) / (64 / each)) (64 / each) few in
    let all = blocks_inside (64 / each) first last ordered in
    let next : first + blocks * (64 / each) ≤ last = omega arith in
    let begins = stands w each first 0 blocks is e in
    let left = split_sum w (first + blocks * (64 / each)) last next in
    let whole = split_sum w first last ordered in
    record { ordered = next; begins = omega arith; stood = stands u others begin skip blocks other d; rest = omega arith; low = le-mul_of_pos_right (begin + blocks * (64 / others)) (width_positive u other) }

pub combine_blocks-requires-clause-target : goal.combine_blocks-requires-clause-target
combine_blocks-requires-clause-target g c t h =
    let next = one_more_word t (64 / c.BITS.result) in
    subst (λ n. c.args.first + t * (64 / n) + 64 / n ≤ length c.args.words.now) c.BITS.ensures
    (let r = reached c.args.begin c.args.skip (t + 1) g.met.T.BitStore.width g.met.U.BitStore.width c.BITS.ensures c.BITS-2.ensures c.requires.ordered (omega arith) in omega arith)

pub overflow_mul-next : goal.overflow_mul-next
overflow_mul-next g c = let r = reached c.args.begin c.args.skip c.min-blocks.result g.met.T.BitStore.width g.met.U.BitStore.width c.BITS.ensures c.BITS-2.ensures c.requires.ordered (omega arith) in omega arith

pub overflow_add-next : goal.overflow_add-next
overflow_add-next g c = let r = reached c.args.begin c.args.skip c.min-blocks.result g.met.T.BitStore.width g.met.U.BitStore.width c.BITS.ensures c.BITS-2.ensures c.requires.ordered (omega arith) in omega arith

pub overflow_mul-from : goal.overflow_mul-from
overflow_mul-from g c = let r = reached c.args.begin c.args.skip c.min-blocks.result g.met.T.BitStore.width g.met.U.BitStore.width c.BITS.ensures c.BITS-2.ensures c.requires.ordered (omega arith) in omega arith

pub overflow_add-from : goal.overflow_add-from
overflow_add-from g c = let r = reached c.args.begin c.args.skip c.min-blocks.result g.met.T.BitStore.width g.met.U.BitStore.width c.BITS.ensures c.BITS-2.ensures c.requires.ordered (omega arith) in omega arith

pub combine_after-requires-clause-ordered : goal.combine_after-requires-clause-ordered
combine_after-requires-clause-ordered g c = let r = reached c.args.begin c.args.skip c.min-blocks.result g.met.T.BitStore.width g.met.U.BitStore.width c.BITS.ensures c.BITS-2.ensures c.requires.ordered (omega arith) in omega arith

pub combine_after-requires-clause-source : goal.combine_after-requires-clause-source
combine_after-requires-clause-source g c = let r = reached c.args.begin c.args.skip c.min-blocks.result g.met.T.BitStore.width g.met.U.BitStore.width c.BITS.ensures c.BITS-2.ensures c.requires.ordered (omega arith) in omega arith

pub combine_after-requires-clause-source_fits : goal.combine_after-requires-clause-source_fits
combine_after-requires-clause-source_fits g c = let r = reached c.args.begin c.args.skip c.min-blocks.result g.met.T.BitStore.width g.met.U.BitStore.width c.BITS.ensures c.BITS-2.ensures c.requires.ordered (omega arith) in omega arith

pub returns-clause-bits : goal.returns-clause-bits
returns-clause-bits g c =
    let w = g.T.BitStore.BITS in
    let u = g.U.BitStore.BITS in
    let f = g.F.BitOperator.made in
    let first = c.args.first in
    let last = c.args.last in
    let begin = c.args.begin in
    let skip = c.args.skip in
    let words = c.args.words.now in
    let source = c.args.source.now in
    let old = row g.T.BitStore g.O.BitOrder words in
    let cur = row g.T.BitStore g.O.BitOrder c.combine_blocks.new.words in
    let zs = row g.U.BitStore g.P.BitOrder source in
    let blocks = c.min-blocks.result in
    let each : ℕ = 64 / c.BITS.result in
    let next : ℕ = first + blocks * each in
    let beyond : ℕ = begin + blocks * (64 / c.BITS-2.result) in
    let at : ℕ = first * w in
    let from : ℕ = begin * u + skip in
    let p : ℕ = at + blocks * 64 in
    let a : ℕ = from + blocks * 64 in
    let upto : ℕ = from + (last - first) * w in
    let r = reached c.args.begin c.args.skip c.min-blocks.result g.met.T.BitStore.width g.met.U.BitStore.width c.BITS.ensures c.BITS-2.ensures c.requires.ordered (omega arith) in
    let whole = split_sum w first last c.requires.ordered in
    let end : a + (last - next) * w ≡ upto = omega arith in
    let size : length old ≡ w * length words = length_row g.T.BitStore.value g.O.BitOrder.place w words in
    let long : length zs ≡ u * length source = length_row g.U.BitStore.value g.P.BitOrder.place u source in
    let fit = mul_mono last (length words) w c.requires.target in
    let turned = mul_comm (length words) w in
    let one : List Bool = zip2 f (slice_range cur (next * w) (last * w)) (slice_range zs (beyond * u + skip) (beyond * u + skip + (last - next) * w)) in
    let is : one ≡ zip2 f (slice_range cur p (last * w)) (slice_range zs a upto) =
    ap (λ n. zip2 f (slice_range cur n (last * w)) (slice_range zs (beyond * u + skip) (beyond * u + skip + (last - next) * w))) r.begins
    ∙ ap (λ n. zip2 f (slice_range cur p (last * w)) (slice_range zs n (n + (last - next) * w))) r.stood
    ∙ ap (λ n. zip2 f (slice_range cur p (last * w)) (slice_range zs a n)) end in
    c.combine_after.ensures.bits
    ∙ ap (λ d. put cur d one) r.begins
    ∙ combined_next f old cur zs one at p (last * w) from a upto (omega arith) (omega arith) (omega arith) (omega arith) (omega arith) (omega arith) c.combine_blocks.ensures.bits is

pub combine_blocks-requires-clause-source : goal.combine_blocks-requires-clause-source
combine_blocks-requires-clause-source g c = grind (arith, common_steps)
