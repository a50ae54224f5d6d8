use Rattle.std.proofs.Common.{◌≡◌, ◌+◌, ◌-◌, ◌*◌, ◌/◌, ◌%◌, ◌^◌, length, refl, sym, ◌∙◌, ap, arith}
use Rattle.std.proofs.Math.Pow.{pow_mono}
use Rattle.bit_addressing.specs.Row.{binary, words_for}
use Rattle.bit_addressing.proofs.Rows.{width_positive, width_small}
use Rattle.bit_addressing.proofs.lists.Sized.{room}
use Rattle.bit_addressing.specs.Typed.{row}
use Rattle.bit_addressing.proofs.Typed.{length_row}
use Rattle.bit_streams.specs.Streams.{padded}
use Rattle.bit_streams.proofs.Both.{emptied, first_on}
use Rattle.bit_streams.proofs.Windows.{taken_next}
use Rattle.bit_streams.proofs.Padded.{length_rest, length-padded, reading_on, taken_any, taken_off}
use Rattle.bit_streams.proofs.reader.BitReader.next.Goals as goal

pub returns-then-self-n-clause-none : goal.returns-then-self-n-clause-none
returns-then-self-n-clause-none g c =
    let i = c.self.inside in
    let r = c.self.invariant.reading in
    let rows = row g.T.BitStore g.O.BitOrder i.words.now in
    let w = g.T.BitStore.BITS in
    let count = length i.words.now in
    let long : length rows ≡ w * count = length_row g.T.BitStore.value g.O.BitOrder.place w i.words.now in
    let rest_long : length c.args.self.now.rest ≡ i.left = ap (λ v. length v.rest) (sym c.self.view_is) ∙ length_rest rows w count i.start i.left i.end i.have i.window r long in
    (λ e. omega arith, λ h. refl)

pub invariant_of-self : goal.invariant_of-self
invariant_of-self g c =
    let i = c.self.inside in
    let r = c.self.invariant.reading in
    let rows = row g.T.BitStore g.O.BitOrder i.words.now in
    let w = g.T.BitStore.BITS in
    let count = length i.words.now in
    let long : length rows ≡ w * count = length_row g.T.BitStore.value g.O.BitOrder.place w i.words.now in
    let few = r.held.few in
    let ahead = r.ahead in
    let wide = length-padded rows in
    let t = taken_any (padded rows) (i.end - i.left) i.have i.window c.args.n r.held (omega arith) (omega arith) in
    first_on rows w count i.start i.left i.end i.have i.window i.lows i.low c.self.invariant long c.args.n (i.have - c.args.n) (i.window * 2 ^ c.args.n % 2 ^ 64) (omega arith) (omega arith) refl
    (reading_on rows w count i.start i.left i.end i.have i.window r long c.args.n (i.have - c.args.n) (i.window * 2 ^ c.args.n % 2 ^ 64) (omega arith) (omega arith) t.2)

pub returns-then-n-self-clause-none : goal.returns-then-n-self-clause-none
returns-then-n-self-clause-none g c =
    let i = c.self.inside in
    let r = c.self.invariant.reading in
    let rows = row g.T.BitStore g.O.BitOrder i.words.now in
    let w = g.T.BitStore.BITS in
    let count = length i.words.now in
    let long : length rows ≡ w * count = length_row g.T.BitStore.value g.O.BitOrder.place w i.words.now in
    let rest_long : length c.args.self.now.rest ≡ i.left = ap (λ v. length v.rest) (sym c.self.view_is) ∙ length_rest rows w count i.start i.left i.end i.have i.window r long in
    (λ e. absurd cc, λ h. absurd (omega arith))

pub returns-then-n-self-clause-digits : goal.returns-then-n-self-clause-digits
returns-then-n-self-clause-digits g c =
    let i = c.self.inside in
    let r = c.self.invariant.reading in
    let rows = row g.T.BitStore g.O.BitOrder i.words.now in
    let w = g.T.BitStore.BITS in
    let count = length i.words.now in
    let long : length rows ≡ w * count = length_row g.T.BitStore.value g.O.BitOrder.place w i.words.now in
    let few = r.held.few in
    let ahead = r.ahead in
    let wide = length-padded rows in
    let t = taken_any (padded rows) (i.end - i.left) i.have i.window c.args.n r.held (omega arith) (omega arith) in
    ap (λ v. v.rest) (sym c.self.view_is) ∙ taken_off rows w count i.start i.left i.end i.have i.window r long (binary c.args.n (i.window / 2 ^ 1 / 2 ^ (63 - c.args.n))) c.args.n (omega arith) t.0

pub returns-then-n-self-clause-below : goal.returns-then-n-self-clause-below
returns-then-n-self-clause-below g c =
    let i = c.self.inside in
    let r = c.self.invariant.reading in
    let rows = row g.T.BitStore g.O.BitOrder i.words.now in
    let w = g.T.BitStore.BITS in
    let count = length i.words.now in
    let long : length rows ≡ w * count = length_row g.T.BitStore.value g.O.BitOrder.place w i.words.now in
    let few = r.held.few in
    let ahead = r.ahead in
    let wide = length-padded rows in
    let t = taken_any (padded rows) (i.end - i.left) i.have i.window c.args.n r.held (omega arith) (omega arith) in
    t.1

pub overflow_add-x : goal.overflow_add-x
overflow_add-x g c =
    let i = c.self.inside in
    let r = c.self.invariant.reading in
    let rows = row g.T.BitStore g.O.BitOrder i.words.now in
    let w = g.T.BitStore.BITS in
    let count = length i.words.now in
    let long : length rows ≡ w * count = length_row g.T.BitStore.value g.O.BitOrder.place w i.words.now in
    let few = r.held.few in
    let ahead = r.ahead in
    let wide = length-padded rows in
    let begins = r.begins in
    let within = r.within in
    let enough = c.in-Some.ensures.enough in
    let t = taken_next (padded rows) (i.end - i.left) i.have i.window c.args.n c.in-Some.block r.held (omega arith) c.requires (omega arith) (omega arith) c.in-Some.ensures.digits in
    let below = t.1 in
    let most = pow_mono c.requires in
    omega (arith, below, most)

pub invariant_of-self-2 : goal.invariant_of-self-2
invariant_of-self-2 g c =
    let i = c.self.inside in
    let r = c.self.invariant.reading in
    let rows = row g.T.BitStore g.O.BitOrder i.words.now in
    let w = g.T.BitStore.BITS in
    let count = length i.words.now in
    let long : length rows ≡ w * count = length_row g.T.BitStore.value g.O.BitOrder.place w i.words.now in
    let few = r.held.few in
    let ahead = r.ahead in
    let wide = length-padded rows in
    let begins = r.begins in
    let within = r.within in
    let enough = c.in-Some.ensures.enough in
    let t = taken_next (padded rows) (i.end - i.left) i.have i.window c.args.n c.in-Some.block r.held (omega arith) c.requires (omega arith) (omega arith) c.in-Some.ensures.digits in
    emptied rows w count i.start (i.left - c.args.n) i.end (64 - (c.args.n - i.have)) (c.in-Some.block * 2 ^ (c.args.n - i.have - 1) % 2 ^ 64 * 2 ^ 1 % 2 ^ 64)
    (reading_on rows w count i.start i.left i.end i.have i.window r long c.args.n (64 - (c.args.n - i.have)) (c.in-Some.block * 2 ^ (c.args.n - i.have - 1) % 2 ^ 64 * 2 ^ 1 % 2 ^ 64) (omega arith) (omega arith) t.2)

pub returns-clause-none : goal.returns-clause-none
returns-clause-none g c =
    let i = c.self.inside in
    let r = c.self.invariant.reading in
    let rows = row g.T.BitStore g.O.BitOrder i.words.now in
    let w = g.T.BitStore.BITS in
    let count = length i.words.now in
    let long : length rows ≡ w * count = length_row g.T.BitStore.value g.O.BitOrder.place w i.words.now in
    let rest_long : length c.args.self.now.rest ≡ i.left = ap (λ v. length v.rest) (sym c.self.view_is) ∙ length_rest rows w count i.start i.left i.end i.have i.window r long in
    let enough = c.in-Some.ensures.enough in
    (λ e. absurd cc, λ h. absurd (omega arith))

pub returns-clause-digits : goal.returns-clause-digits
returns-clause-digits g c =
    let i = c.self.inside in
    let r = c.self.invariant.reading in
    let rows = row g.T.BitStore g.O.BitOrder i.words.now in
    let w = g.T.BitStore.BITS in
    let count = length i.words.now in
    let long : length rows ≡ w * count = length_row g.T.BitStore.value g.O.BitOrder.place w i.words.now in
    let few = r.held.few in
    let ahead = r.ahead in
    let wide = length-padded rows in
    let begins = r.begins in
    let within = r.within in
    let enough = c.in-Some.ensures.enough in
    let t = taken_next (padded rows) (i.end - i.left) i.have i.window c.args.n c.in-Some.block r.held (omega arith) c.requires (omega arith) (omega arith) c.in-Some.ensures.digits in
    ap (λ v. v.rest) (sym c.self.view_is) ∙ taken_off rows w count i.start i.left i.end i.have i.window r long (binary c.args.n (i.window / 2 ^ (64 - c.args.n) + c.in-Some.block / 2 ^ (64 - (c.args.n - i.have)))) c.args.n (omega arith) t.0

pub returns-clause-below : goal.returns-clause-below
returns-clause-below g c =
    let i = c.self.inside in
    let r = c.self.invariant.reading in
    let rows = row g.T.BitStore g.O.BitOrder i.words.now in
    let w = g.T.BitStore.BITS in
    let count = length i.words.now in
    let long : length rows ≡ w * count = length_row g.T.BitStore.value g.O.BitOrder.place w i.words.now in
    let few = r.held.few in
    let ahead = r.ahead in
    let wide = length-padded rows in
    let begins = r.begins in
    let within = r.within in
    let enough = c.in-Some.ensures.enough in
    let t = taken_next (padded rows) (i.end - i.left) i.have i.window c.args.n c.in-Some.block r.held (omega arith) c.requires (omega arith) (omega arith) c.in-Some.ensures.digits in
    t.1

pub bits_for-requires-clause-fits : goal.bits_for-requires-clause-fits
bits_for-requires-clause-fits g c =
    let i = c.self.inside in
    let r = c.self.invariant.reading in
    let w = g.T.BitStore.BITS in
    let count = length i.words.now in
    let most = (room w i.end (width_positive w g.met.T.BitStore.width)).1 in
    let size : w * count ≡ w * words_for w i.end = ap (λ n. w * n) r.exact in
    let small = width_small w g.met.T.BitStore.width in
    let few = r.few in
    let start = r.in_word in
    omega arith
