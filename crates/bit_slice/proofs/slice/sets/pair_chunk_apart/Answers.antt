use Rattle.std.proofs.Common.{◌+◌, slice_range, ◌∙◌, ap, arith}
use Rattle.std.specs.Simd.Lanes.{zip2}
use Rattle.bit_addressing.specs.Row.{number_of}
use Rattle.bit_addressing.specs.Typed.{row}
use Rattle.bit_slice.specs.BitSlice.{list_of}
use Rattle.bit_slice.proofs.Parts.{view_length}
use Rattle.bit_slice.proofs.Sets.{pair_run}
use Rattle.bit_slice.proofs.Writing.{chunk_of_list}
use Rattle.bit_slice.proofs.slice.sets.pair_chunk_apart.Goals as goal

pub returns : goal.returns
returns g c =
    let v = c.args.left in
    let u = c.args.right in
    let at = c.args.at in
    let n = c.args.n in
    let f = g.F.BitOperator.made in
    let left = view_length v in
    let right = view_length u in
    c.read_pair.ensures
    ∙ ap (λ l. number_of (zip2 f l (slice_range (row g.U.BitStore g.P.BitOrder u.words.now) (u.head + at) (u.head + at + n)))) (chunk_of_list g.T.BitStore g.O.BitOrder v at n c.requires.left)
    ∙ ap (λ l. number_of (zip2 f (slice_range (list_of v) at (at + n)) l)) (chunk_of_list g.U.BitStore g.P.BitOrder u at n c.requires.right)
    ∙ ap number_of (pair_run f (list_of v) (list_of u) at n c.requires.quiet (omega (arith, left, c.requires.left)) (omega (arith, right, c.requires.right)))
