use Rattle.std.proofs.Common.{◌≡◌, ◌+◌, ◌-◌, ◌*◌, replicate, length, sym, ◌∙◌, ap, arith}
use Rattle.bit_addressing.specs.Row.{put}
use Rattle.bit_addressing.specs.Typed.{row}
use Rattle.bit_addressing.proofs.lists.Put.{put_ends}
use Rattle.bit_addressing.proofs.Typed.{length_row}
use Rattle.bit_rows.proofs.single.fill_outside.Goals as goal

pub returns-clause-bits : goal.returns-clause-bits
returns-clause-bits g c =
    let old = row g.T.BitStore g.O.BitOrder c.args.words.now in
    let size : length old ≡ g.T.BitStore.BITS * length c.args.words.now = length_row g.T.BitStore.value g.O.BitOrder.place g.T.BitStore.BITS c.args.words.now in
    c.fill_bits-2.ensures.bits
    ∙ ap (λ r. put r (c.args.head + c.args.len) (replicate ((c.BITS.result * length c.args.words.now) - (c.args.head + c.args.len)) c.args.bit)) c.fill_bits.ensures.bits
    ∙ put_ends old c.args.head c.args.len (c.BITS.result * length c.args.words.now) c.args.bit (ap (λ n. n * length c.args.words.now) c.BITS.ensures ∙ sym size) (omega arith)
