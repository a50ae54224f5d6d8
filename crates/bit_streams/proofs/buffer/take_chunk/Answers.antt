use Rattle.std.proofs.Common.{◌≡◌, ◌+◌, ◌*◌, ◌++◌, ◌≤◌, drop, length, take, refl, sym, ◌∙◌, ap, subst, rules}
use Rattle.std.proofs.lemmas.List.{drop_at, length-append, length-take-le, map-id}
use Rattle.bit_addressing.specs.Row.{row_of}
use Rattle.bit_addressing.proofs.Rows.{length-row_of}
use Rattle.bit_slice.specs.BitSlice.{list_of}
use Rattle.bit_streams.specs.Buffers.{known_bits}
use Rattle.bit_streams.specs.Streamed.{Passes}
use Rattle.bit_streams.proofs.Buffers.{bytes_passed}
use Rattle.bit_streams.proofs.buffer.take_chunk.Goals as goal

pub returns-in-Ok-extend_from_bitslice-clause-taken : goal.returns-in-Ok-extend_from_bitslice-clause-taken
returns-in-Ok-extend_from_bitslice-clause-taken g c =
    let place = g.O.BitOrder.place in
    let old = c.args.bits.now.list in
    let bytes = take c.in-Ok-read.n c.read.new.buf in
    let view = c.from_slice.ensures.list ∙ ap (row_of place 8) (map-id bytes) in
    let all : c.extend_from_bitslice.new.self.list ≡ old ++ row_of place 8 bytes = c.in-Ok-extend_from_bitslice.ensures.list ∙ ap (λ l. l ++ list_of c.from_slice.result) c.in-Ok.ensures.kept.list ∙ ap (λ l. old ++ l) view in
    let rest : drop (length old) c.extend_from_bitslice.new.self.list ≡ row_of place 8 bytes = ap (drop (length old)) all ∙ drop_at old (row_of place 8 bytes) (length old) refl in
    subst (Passes (known_bits place (g.R.Read.remaining c.args.inner.now)) (known_bits place (g.R.Read.remaining c.read.new.self))) (sym rest)
    (bytes_passed place (g.R.Read.remaining c.args.inner.now) (g.R.Read.remaining c.read.new.self) bytes c.in-Ok-read.ensures.bytes.0)

pub returns-in-Ok-extend_from_bitslice-clause-count : goal.returns-in-Ok-extend_from_bitslice-clause-count
returns-in-Ok-extend_from_bitslice-clause-count g c =
    let place = g.O.BitOrder.place in
    let old = c.args.bits.now.list in
    let n = c.in-Ok-read.n in
    let bytes = take n c.read.new.buf in
    let view = c.from_slice.ensures.list ∙ ap (row_of place 8) (map-id bytes) in
    let all : c.extend_from_bitslice.new.self.list ≡ old ++ row_of place 8 bytes = c.in-Ok-extend_from_bitslice.ensures.list ∙ ap (λ l. l ++ list_of c.from_slice.result) c.in-Ok.ensures.kept.list ∙ ap (λ l. old ++ l) view in
    let size = length-row_of place 8 bytes in
    let bound : n ≤ length c.read.new.buf = search rules in
    let cut = length-take-le n c.read.new.buf bound in
    ap length all ∙ length-append old (row_of place 8 bytes) ∙ ap (λ k. length old + k) (size ∙ ap (λ k. 8 * k) cut)
