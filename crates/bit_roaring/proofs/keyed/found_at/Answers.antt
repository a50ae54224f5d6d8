use Rattle.std.proofs.Common.{arith}
use Rattle.bit_roaring.proofs.Keys.{is_absent, is_past, is_there}
use Rattle.bit_roaring.proofs.keyed.found_at.Goals as goal

pub returns-then-place-blocks : goal.returns-then-place-blocks
returns-then-place-blocks c = is_past c.args.blocks.now c.args.key c.args.place c.requires.keyed (omega arith) c.requires.place

pub returns-then-blocks-place : goal.returns-then-blocks-place
returns-then-blocks-place c =
    let within = c.requires.within in
    let some = c.if-place-blocks.false in
    is_there c.args.blocks.now c.args.key c.args.place c.index-blocks-place.result c.requires.keyed (omega arith) c.if-blocks-place.true

pub returns : goal.returns
returns c = is_absent c.args.blocks.now c.args.key c.args.place c.index-blocks-place.result c.requires.keyed c.requires.within c.requires.place c.if-blocks-place.false
