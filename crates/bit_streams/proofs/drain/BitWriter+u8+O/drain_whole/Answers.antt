use Rattle.std.proofs.Common.{◌≡◌, ◌+◌, ◌-◌, ◌*◌, ◌/◌, ◌≤◌, drop, length, slice_range, take, sym, ◌∙◌, ap, subst, rules, arith}
use Rattle.std.proofs.lemmas.List.{length-take-le, map-id}
use Rattle.bit_addressing.specs.Row.{row_of}
use Rattle.bit_streams.specs.Buffers.{known_bits}
use Rattle.bit_streams.specs.Streamed.{Gains}
use Rattle.bit_streams.proofs.Buffers.{bytes_gained, front_given}
use Rattle.bit_streams.proofs.drain.«BitWriter+u8+O».drain_whole.Goals as goal

pub returns-in-Ok-finish-clause-given : goal.returns-in-Ok-finish-clause-given
returns-in-Ok-finish-clause-given g c =
    let place = g.O.BitOrder.place in
    let bits = c.in-Ok-finish.bits in
    let words = c.as_raw_slice.result.now in
    let whole = c.len-whole.result / 8 in
    let count = ap (λ n. n / 8) c.len-whole.ensures.value in
    let t = c.give_all-taken.result.0 in
    let now = c.args.self.now.list in
    let same : bits.list ≡ now = search rules in
    let rest : c.replace-empty.new.dest.list ≡ drop (8 * t) bits.list = search rules in
    let row : row_of place 8 words ≡ bits.row = ap (row_of place 8) (sym (map-id words)) ∙ c.as_raw_slice.ensures.row in
    let shows : slice_range bits.row 0 (0 + length bits.list) ≡ bits.list = search rules in
    let size : length words ≡ length bits.words = ap length c.as_raw_slice.ensures.words in
    let fits : bits.head + length bits.list ≤ 8 * length bits.words = c.as_raw_slice.ensures.fits in
    let value : c.len-whole.result ≡ length bits.list = c.len-whole.ensures.value in
    let within : whole ≤ length words = omega arith in
    let few : t ≤ whole = (let k = c.give_all-taken.ensures.few in let l = length-take-le whole words within in omega (arith, k, l)) in
    let front = front_given place words bits.row bits.list c.replace-empty.new.dest.list t whole row shows count few within rest in
    subst (λ xs. Gains (known_bits place (g.W.Write.contents c.args.out.now)) (known_bits place (g.W.Write.contents c.give_all-taken.new.out)) (take (length xs - length c.replace-empty.new.dest.list) xs)) same
    (subst (Gains (known_bits place (g.W.Write.contents c.args.out.now)) (known_bits place (g.W.Write.contents c.give_all-taken.new.out))) front
    (bytes_gained place (g.W.Write.contents c.args.out.now) (g.W.Write.contents c.give_all-taken.new.out) (take t (take whole words)) c.give_all-taken.ensures.given))
