use Rattle.std.proofs.Common.{◌≡◌, ℕ, ◌+◌, ◌%◌, length, replicate, slice_range, sym, ◌∙◌, ap, arith}
use Rattle.std.proofs.lemmas.List.{length-map, length-replicate}
use Rattle.std.specs.Simd.Lanes.{zip2}
use Rattle.bit_addressing.specs.Row.{put}
use Rattle.bit_addressing.specs.Typed.{row}
use Rattle.bit_addressing.proofs.lists.Shown.{length-run}
use Rattle.bit_slice.proofs.Combining.{zipped}
use Rattle.bit_slice.proofs.Parts.{in_row}
use Rattle.bit_slice.proofs.Turned.{kept_back}
use Rattle.bit_slice.proofs.edits.combine_kept.Goals as goal

pub returns-clause-bits : goal.returns-clause-bits
returns-clause-bits g c =
    let f = g.F.BitOperator.made in
    let xs = row g.T.BitStore g.O.BitOrder c.args.words.now in
    let at = c.args.at in
    let from = c.args.from in
    let n = c.args.n in
    let skip : ℕ = from % 64 in
    let old = slice_range xs at (at + n) in
    let new = slice_range xs from (from + n) in
    let a : length old ≡ n = length-run xs at n (in_row g.T.BitStore g.O.BitOrder c.args.words.now (at + n) c.requires.target) in
    let b : length new ≡ n = length-run xs from n (in_row g.T.BitStore g.O.BitOrder c.args.words.now (from + n) c.requires.source) in
    let kept = ap (λ l. slice_range l skip (skip + n)) c.copy_bits.ensures.bits ∙ kept_back g.O.BitOrder.place _ new skip n b (omega (arith, c.requires.few, length-replicate {A = ℕ} g.row.N 0, length-map (replicate g.row.N 0) (λ (x : ℕ). x))) in
    c.combine_bits.ensures.bits ∙ ap (λ l. put xs at (zip2 f old l)) kept ∙ ap (put xs at) (sym (zipped f old new (a ∙ sym b)))
