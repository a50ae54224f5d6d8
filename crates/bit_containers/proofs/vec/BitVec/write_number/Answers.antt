use Rattle.std.proofs.Common.{◌≡◌, ◌+◌, length, slice_range, sym, ◌∙◌, ap, arith}
use Rattle.bit_addressing.specs.Row.{put, number_bits}
use Rattle.bit_addressing.specs.Typed.{row}
use Rattle.bit_rows.proofs.Binary.{length-number_bits}
use Rattle.bit_addressing.proofs.lists.Shown.{shown_written}
use Rattle.bit_containers.proofs.Vectors.{shown}
use Rattle.bit_containers.proofs.vec.BitVec.write_number.Goals as goal

pub returns-clause-list : goal.returns-clause-list
returns-clause-list g c =
    let i = c.self.inside in
    let bits = number_bits c.args.number c.args.n in
    let size = length-number_bits c.args.number c.args.n in
    let fits = shown g.T.BitStore g.O.BitOrder i.words.items i.head i.len g.met.T.BitStore.width c.self.invariant in
    let len : i.len ≡ length c.args.self.now.list = sym c.self.invariant.shows ∙ ap (λ v. length v.list) c.self.view_is in
    ap (λ r. slice_range r i.head (i.head + i.len)) c.write_chunk_in_vec.ensures.bits
    ∙ shown_written (row g.T.BitStore g.O.BitOrder i.words.items) bits i.head i.len c.args.at (omega (arith, c.requires.within)) fits
    ∙ ap (λ v. put v.list c.args.at bits) c.self.view_is
