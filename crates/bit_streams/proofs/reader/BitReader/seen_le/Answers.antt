use Rattle.std.proofs.Common.{◌≡◌, ◌+◌, ◌-◌, ◌*◌, ◌^◌, ◌<◌, length, slice_range, take, sym, subst, ◌∙◌, ap, arith}
use Rattle.bit_addressing.specs.Typed.{row}
use Rattle.bit_addressing.proofs.Typed.{length_row}
use Rattle.bit_addressing.proofs.lists.Shown.{length-run}
use Rattle.bit_slice.proofs.Writing.{number_below, run_of_number}
use Rattle.bit_streams.proofs.Padded.{length_rest, seen_first}
use Rattle.bit_streams.proofs.reader.BitReader.seen_le.Goals as goal

pub returns-clause-digits : goal.returns-clause-digits
returns-clause-digits g c =
    let i = c.self.inside in
    let r = c.self.invariant.reading in
    let rows = row g.T.BitStore g.O.BitOrder i.words.now in
    let w = g.T.BitStore.BITS in
    let count = length i.words.now in
    let long : length rows ≡ w * count = length_row g.T.BitStore.value g.O.BitOrder.place w i.words.now in
    let rest_long : length c.args.self.now.rest ≡ i.left = ap (λ v. length v.rest) (sym c.self.view_is) ∙ length_rest rows w count i.start i.left i.end i.have i.window r long in
    let left = c.requires.left in
    let begins = r.begins in
    let within = r.within in
    run_of_number rows c.read_chunk.result (i.end - i.left) c.args.n (omega arith) c.read_chunk.ensures
    ∙ seen_first rows w count i.start i.left i.end i.have i.window r long c.args.n (omega arith) ∙ ap (λ v. take c.args.n v.rest) c.self.view_is

pub returns-clause-below : goal.returns-clause-below
returns-clause-below g c =
    let i = c.self.inside in
    let r = c.self.invariant.reading in
    let rows = row g.T.BitStore g.O.BitOrder i.words.now in
    let w = g.T.BitStore.BITS in
    let count = length i.words.now in
    let long : length rows ≡ w * count = length_row g.T.BitStore.value g.O.BitOrder.place w i.words.now in
    let rest_long : length c.args.self.now.rest ≡ i.left = ap (λ v. length v.rest) (sym c.self.view_is) ∙ length_rest rows w count i.start i.left i.end i.have i.window r long in
    let left = c.requires.left in
    let begins = r.begins in
    let within = r.within in
    subst (λ x. x < 2 ^ c.args.n) (sym c.read_chunk.ensures) (number_below (slice_range rows (i.end - i.left) (i.end - i.left + c.args.n)) c.args.n (length-run rows (i.end - i.left) c.args.n (omega arith)))

pub read_chunk-requires-clause-within : goal.read_chunk-requires-clause-within
read_chunk-requires-clause-within g c =
    let i = c.self.inside in
    let r = c.self.invariant.reading in
    let rows = row g.T.BitStore g.O.BitOrder i.words.now in
    let w = g.T.BitStore.BITS in
    let count = length i.words.now in
    let long : length rows ≡ w * count = length_row g.T.BitStore.value g.O.BitOrder.place w i.words.now in
    let rest_long : length c.args.self.now.rest ≡ i.left = ap (λ v. length v.rest) (sym c.self.view_is) ∙ length_rest rows w count i.start i.left i.end i.have i.window r long in
    let left = c.requires.left in
    let begins = r.begins in
    let within = r.within in
    omega arith
