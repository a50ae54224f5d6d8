use Rattle.std.proofs.Common.{◌+◌, ◌*◌, length, ◌∙◌, ap}
use Rattle.bit_rows.proofs.Pushed.{block_more}
use Rattle.bit_streams.proofs.register.push_block.Goals as goal

pub returns-clause-size : goal.returns-clause-size
returns-clause-size g c =
    let w = g.T.BitStore.BITS in
    ap (λ n. w * n) c.append_block_in_vec.ensures.size ∙ block_more w _ g.met.T.BitStore.width ∙ ap (λ l. w * length l + 64) c.in_ok-make_room_in_vec.ensures.items
