use Rattle.std.proofs.Common.{◌+◌, ◌≤◌, length, min, true, arith}
use Rattle.bit_slice.specs.BitSlice.{list_of}
use Rattle.bit_slice.specs.Operators.{combined}
use Rattle.bit_slice.specs.Places.{IsChunk}
use Rattle.bit_slice.proofs.Chunked.{absent_joined, chunk_absent}
use Rattle.bit_slice.proofs.Pairs.{found_from, found_past, next_in_chunk, next_on, none_past}
use Rattle.bit_slice.proofs.Parts.{view_length}
use Rattle.bit_slice.proofs.slice.BitSlice.find_pair.Goals as goal

pub loop-at-init : goal.loop-at-init
loop-at-init g c = record {
  begins = omega arith;
  ends = c.requires.inside;
  none = record { each = λ j a b. absurd (omega arith) };
}

pub returns-then-chunk-ne0 : goal.returns-then-chunk-ne0
returns-then-chunk-ne0 g c =
    let cs = combined g.F.BitOperator.made (list_of c.args.self) (list_of c.args.other) in
    let at = c.loop-at.at in
    let n = c.min-n.result in
    let chunk = c.pair_chunk-chunk.result in
    let end = c.args.self.len in
    let is : IsChunk cs at (at + n) chunk = record { ordered = omega arith; few = omega (arith, c.min-n.ensures); number = c.pair_chunk-chunk.ensures } in
    next_on true cs c.args.from at end _ c.loop-at.invariant.begins c.loop-at.invariant.none
    (next_in_chunk cs at (at + n) end chunk is c.if-chunk-ne0.true c.pair_chunk-chunk.type_inv (omega (arith, c.min-n.ensures, c.min-both.ensures, c.loop-at-test.true)))

pub loop-at-preserved : goal.loop-at-preserved
loop-at-preserved g c =
    let cs = combined g.F.BitOperator.made (list_of c.args.self) (list_of c.args.other) in
    let at = c.loop-at.at in
    let n = c.min-n.result in
    let chunk = c.pair_chunk-chunk.result in
    let is : IsChunk cs at (at + n) chunk = record { ordered = omega arith; few = omega (arith, c.min-n.ensures); number = c.pair_chunk-chunk.ensures } in
    record {
      begins = omega (arith, c.loop-at.invariant.begins);
      ends = omega (arith, c.min-n.ensures, c.min-both.ensures, c.loop-at-test.true);
      none = absent_joined true cs c.args.from at (at + n) c.loop-at.invariant.none (chunk_absent cs at (at + n) chunk is c.if-chunk-ne0.false);
    }

pub find_next-requires-clause-ordered : goal.find_next-requires-clause-ordered
find_next-requires-clause-ordered g c = c.loop-at.invariant.ends

pub returns-then-clears : goal.returns-then-clears
returns-then-clears g c =
    let v = c.args.self in
    let u = c.args.other in
    let f = g.F.BitOperator.made in
    let past : min v.len (length (list_of u)) ≤ c.loop-at.at = omega (arith, c.loop-at-test.false, c.min-both.ensures, view_length u) in
    absent_joined true (combined f (list_of v) (list_of u)) c.args.from c.loop-at.at v.len c.loop-at.invariant.none
    (none_past f (list_of v) (list_of u) c.loop-at.at v.len (view_length v) past c.if-clears.ensures)

pub returns : goal.returns
returns g c =
    let v = c.args.self in
    let u = c.args.other in
    let f = g.F.BitOperator.made in
    let at = c.loop-at.at in
    let past : min v.len (length (list_of u)) ≤ at = omega (arith, c.loop-at-test.false, c.min-both.ensures, view_length u) in
    found_from f (list_of v) (list_of u) at v.len (view_length v) past c.args.from c.loop-at.invariant.begins c.loop-at.invariant.none c.find_next.result
    (found_past f (list_of v) (list_of u) at v.len (view_length v) past c.if-clears.ensures c.find_next.result c.find_next.ensures)
