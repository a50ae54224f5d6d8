use Rattle.std.proofs.Common.{◌+◌, slice_range, sym, ◌∙◌, arith}
use Rattle.bit_addressing.proofs.Chunks.{number_from_bits}
use Rattle.bit_addressing.proofs.Words.{has_none}
use Rattle.bit_addressing.proofs.lists.Shown.{get_or-run, length-run}
use Rattle.bit_slice.specs.BitSlice.{list_of}
use Rattle.bit_slice.specs.Edges.{edges_of}
use Rattle.bit_slice.proofs.BitRuns.{edges_of_chunk, length-edges, none_absent}
use Rattle.bit_slice.proofs.Parts.{view_length}
use Rattle.bit_slice.proofs.slice.BitSlice.edges_of_block.Goals as goal

pub returns-then-is_block_of : goal.returns-then-is_block_of
returns-then-is_block_of g c =
    let xs = list_of c.args.self in
    let at = c.args.at in
    let inside = c.requires.inside in
    let size = view_length c.args.self in
    let long = length-edges xs in
    let run = length-run (edges_of xs) at 64 (omega arith) in
    let none = none_absent xs at (at + 64) c.args.before c.requires.later (omega arith) c.requires.before (c.is_block_of.ensures c.if-is_block_of.true) in
    record {
      ordered = omega arith;
      few = omega arith;
      number = number_from_bits 0 (slice_range (edges_of xs) at (at + 64)) (omega arith) (omega arith)
          (λ i h. has_none i ∙ sym (get_or-run (edges_of xs) at 64 i h ∙ none.each (at + i) (omega arith) (omega arith)));
    }

pub returns : goal.returns
returns g c =
    let xs = list_of c.args.self in
    let at = c.args.at in
    let inside = c.requires.inside in
    let size = view_length c.args.self in
    let long = length-edges xs in
    let run = length-run (edges_of xs) at 64 (omega arith) in
    record {
      ordered = omega arith;
      few = omega arith;
      number = number_from_bits c.steps.result (slice_range (edges_of xs) at (at + 64)) (omega arith) (omega arith)
          (edges_of_chunk xs at 64 c.block_at.result c.steps.result c.args.before (omega arith) (omega arith) c.requires.later c.requires.before c.block_at.ensures.number c.steps.ensures.first c.steps.ensures.next);
    }
