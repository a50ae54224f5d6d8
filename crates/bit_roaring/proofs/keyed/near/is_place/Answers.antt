use Rattle.std.proofs.Common.{arith}
use Rattle.bit_roaring.proofs.Keys.{is_place}
use Rattle.bit_roaring.proofs.keyed.near.is_place.Goals as goal
use Rattle.bit_roaring.proofs.keyed.near.is_place.Goals.{else-place-gt0-via-then-place-gt0+else-key-blocks, else-place-gt0-via-else-place-gt0, else-place-blocks-via-then-place-blocks+else-blocks-place, else-place-blocks-via-else-place-blocks}

pub returns : goal.returns
returns c =
    λ yes. is_place c.args.blocks.now c.args.key c.args.place c.requires.keyed c.requires.within
    (λ some. elim c.else-place-gt0.branch [
      | else-place-gt0-via-then-place-gt0+else-key-blocks w ↦ (w.index-blocks-place.result, omega (arith, w.if-key-blocks.false))
      | else-place-gt0-via-else-place-gt0 w ↦ absurd (omega (arith, w.if-place-gt0.false))
    ])
    (λ inside. elim c.else-place-blocks.branch [
      | else-place-blocks-via-then-place-blocks+else-blocks-place w ↦ (w.index-blocks-place-then-place-blocks.result, omega (arith, w.if-blocks-place.false))
      | else-place-blocks-via-else-place-blocks w ↦ absurd (omega (arith, w.if-place-blocks.false))
    ])
