use Rattle.std.proofs.Common.{◌≡◌, ◌+◌, ◌≤◌, length, map, not, slice_range, w64, ◌∙◌, ap, arith, rules}
use Rattle.std.specs.Int.{bit_not}
use Rattle.bit_addressing.specs.Row.{put, number_bits, number_of}
use Rattle.bit_addressing.specs.Typed.{row}
use Rattle.bit_addressing.proofs.lists.Shown.{length-run}
use Rattle.bit_slice.proofs.Parts.{in_row}
use Rattle.bit_slice.proofs.Ranges.{flipped_number, rest_of_flipped, flipped_more, flipped_none}
use Rattle.bit_slice.proofs.edits.flip_bits.Goals as goal

pub loop-at-init : goal.loop-at-init
loop-at-init g c = record {
  begins = omega arith;
  ends = c.requires.ordered;
  size = search rules;
  done = flipped_none (row g.T.BitStore g.O.BitOrder c.args.words.now) c.args.from;
}

pub loop-at-preserved : goal.loop-at-preserved
loop-at-preserved g c =
    let n = c.min-n.result in
    let at = c.loop-at.at in
    let from = c.args.from in
    let xs = row g.T.BitStore g.O.BitOrder c.args.words.now in
    let now = row g.T.BitStore g.O.BitOrder c.loop-at.words in
    let room : at + n ≤ length xs = in_row g.T.BitStore g.O.BitOrder c.args.words.now (at + n) (omega arith) in
    let same : slice_range now at (at + n) ≡ slice_range xs at (at + n) = ap (λ l. slice_range l at (at + n)) c.loop-at.invariant.done ∙ rest_of_flipped xs from at n c.loop-at.invariant.begins room in
    let bits : number_bits (bit_not w64 c.read_chunk-chunk.result) n ≡ map not (slice_range xs at (at + n)) = ap (λ x. number_bits (bit_not w64 x) n) (c.read_chunk-chunk.ensures ∙ ap number_of same) ∙ flipped_number (slice_range xs at (at + n)) n (length-run xs at n room) (omega arith) in
    record {
      begins = omega arith;
      ends = omega arith;
      size = c.write_chunk.ensures.size ∙ c.loop-at.invariant.size;
      done = c.write_chunk.ensures.bits ∙ ap (put now at) bits ∙ ap (λ l. put l at (map not (slice_range xs at (at + n)))) c.loop-at.invariant.done ∙ flipped_more xs from at n c.loop-at.invariant.begins room;
    }
