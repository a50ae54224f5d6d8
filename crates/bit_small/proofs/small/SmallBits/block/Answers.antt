use Rattle.std.proofs.Common.{◌≡◌, ◌+◌, ◌-◌, ◌*◌, ◌≤◌, length, min, slice_range, ◌∙◌, ap, arith}
use Rattle.bit_addressing.specs.Row.{number_of}
use Rattle.bit_addressing.specs.Typed.{row}
use Rattle.bit_small.proofs.Blocks.{block_masked}
use Rattle.bit_small.proofs.small.SmallBits.block.Goals as goal

pub returns : goal.returns
returns g c =
    let s = c.self.inside in
    let xs = row g.A.Store.BitStore g.O.BitOrder (g.A.BitWords.words s.array) in
    let at = 64 * c.args.t in
    let size = c.len-len.ensures in
    let inside : s.len ≤ length xs = omega (arith, size.value, size.list, c.self.invariant) in
    let room : at + 64 ≤ length xs = omega (arith, size.value, size.list, c.requires) in
    let few : c.min.result ≡ min 64 (s.len - at) = omega (arith, c.min.ensures, c.saturating_sub.ensures) in
    let is = c.read_block-number.ensures ∙ ap (λ ws. number_of (slice_range (row g.A.Store.BitStore g.O.BitOrder ws) at (at + 64))) c.as_raw_slice.ensures.words in
    rw (← c.self.view_is) (block_masked xs s.len at c.min.result inside room few c.read_block-number.result c.low_ones.result is c.low_ones.ensures.some c.low_ones.ensures.none)
