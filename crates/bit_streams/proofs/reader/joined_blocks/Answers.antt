use Rattle.std.proofs.Common.{◌≡◌, ◌*◌, ◌%◌, ◌<◌, ◌≤◌, length, arith}
use Rattle.std.proofs.lemmas.Nat.{div-add-mod', mod_below}
use Rattle.bit_addressing.specs.Typed.{row}
use Rattle.bit_addressing.proofs.Typed.{length_row}
use Rattle.bit_addressing.proofs.Rows.{width_positive, width_small}
use Rattle.bit_streams.proofs.Padded.{across}
use Rattle.bit_streams.proofs.reader.joined_blocks.Goals as goal

pub returns : goal.returns
returns g c =
    let w = g.T.BitStore.BITS in
    let rows = row g.T.BitStore g.O.BitOrder c.args.words.now in
    let long : length rows ≡ w * length c.args.words.now = length_row g.T.BitStore.value g.O.BitOrder.place w c.args.words.now in
    let small = width_small w g.met.T.BitStore.width in
    let positive = width_positive w g.met.T.BitStore.width in
    let below : c.args.at % w < w = mod_below c.args.at w positive in
    let before = c.requires.before in
    let within = c.requires.within in
    let least : c.args.skip ≤ c.args.at = (let d = div-add-mod' c.args.at w in omega arith) in
    (across rows c.args.at c.args.skip c.block_at-first.result c.block_at-second.result c.requires.some (omega arith) least (omega arith) (omega arith) (omega arith) c.block_at-first.ensures c.block_at-second.ensures).0

pub overflow_add-at : goal.overflow_add-at
overflow_add-at g c =
    let fits = c.requires.fits in
    let within = c.requires.within in
    omega (arith, fits, within)

pub overflow_add-result : goal.overflow_add-result
overflow_add-result g c =
    let w = g.T.BitStore.BITS in
    let rows = row g.T.BitStore g.O.BitOrder c.args.words.now in
    let long : length rows ≡ w * length c.args.words.now = length_row g.T.BitStore.value g.O.BitOrder.place w c.args.words.now in
    let small = width_small w g.met.T.BitStore.width in
    let positive = width_positive w g.met.T.BitStore.width in
    let below : c.args.at % w < w = mod_below c.args.at w positive in
    let before = c.requires.before in
    let within = c.requires.within in
    let least : c.args.skip ≤ c.args.at = (let d = div-add-mod' c.args.at w in omega arith) in
    let most = (across rows c.args.at c.args.skip c.block_at-first.result c.block_at-second.result c.requires.some (omega arith) least (omega arith) (omega arith) (omega arith) c.block_at-first.ensures c.block_at-second.ensures).1 in
    omega (arith, most)
