use Rattle.std.proofs.Common.{◌≡◌, ◌-◌, ◌*◌, ◌/◌, ◌%◌, ◌^◌, ◌<◌, length, refl, sym, ◌∙◌, ap, subst, arith}
use Rattle.std.proofs.lemmas.Nat.{mod_below}
use Rattle.std.proofs.Math.Pow.{pow_pos}
use Rattle.bit_addressing.specs.Row.{number_bits, words_for}
use Rattle.bit_addressing.proofs.Rows.{width_positive, width_small}
use Rattle.bit_addressing.proofs.lists.Sized.{room}
use Rattle.bit_addressing.specs.Typed.{row}
use Rattle.bit_addressing.proofs.Typed.{length_row}
use Rattle.bit_streams.specs.Streams.{padded}
use Rattle.bit_streams.proofs.Both.{second_filled, second_on}
use Rattle.bit_streams.proofs.Lows.{low_next, low_taken}
use Rattle.bit_streams.proofs.Padded.{length_rest, length-padded, passed_off, taken_off}
use Rattle.bit_streams.proofs.reader.BitReader.next_le.Goals as goal

pub returns-then-self-n-clause-none : goal.returns-then-self-n-clause-none
returns-then-self-n-clause-none g c =
    let i = c.self.inside in
    let r = c.self.invariant.reading in
    let rows = row g.T.BitStore g.O.BitOrder i.words.now in
    let w = g.T.BitStore.BITS in
    let count = length i.words.now in
    let long : length rows ≡ w * count = length_row g.T.BitStore.value g.O.BitOrder.place w i.words.now in
    let rest_long : length c.args.self.now.rest ≡ i.left = ap (λ v. length v.rest) (sym c.self.view_is) ∙ length_rest rows w count i.start i.left i.end i.have i.window r long in
    (λ e. omega arith, λ h. refl)

pub invariant_of-self : goal.invariant_of-self
invariant_of-self g c =
    let i = c.self.inside in
    let r = c.self.invariant.reading in
    let rows = row g.T.BitStore g.O.BitOrder i.words.now in
    let w = g.T.BitStore.BITS in
    let count = length i.words.now in
    let long : length rows ≡ w * count = length_row g.T.BitStore.value g.O.BitOrder.place w i.words.now in
    let held = c.self.invariant.low_held in
    let ahead = c.self.invariant.low_ahead in
    let wide = length-padded rows in
    let few = held.few in
    let one = c.low_digits-x.ensures in
    let t = low_taken (padded rows) (i.end - i.left) i.lows i.low c.args.n held (omega arith) (omega arith) in
    second_on rows w count i.start i.left i.end i.have i.window i.lows i.low c.self.invariant long c.args.n (i.lows - c.args.n) (i.low / 2 ^ c.args.n) (omega arith) (omega arith) refl t.1

pub returns-then-n-self-clause-none : goal.returns-then-n-self-clause-none
returns-then-n-self-clause-none g c =
    let i = c.self.inside in
    let r = c.self.invariant.reading in
    let rows = row g.T.BitStore g.O.BitOrder i.words.now in
    let w = g.T.BitStore.BITS in
    let count = length i.words.now in
    let long : length rows ≡ w * count = length_row g.T.BitStore.value g.O.BitOrder.place w i.words.now in
    let rest_long : length c.args.self.now.rest ≡ i.left = ap (λ v. length v.rest) (sym c.self.view_is) ∙ length_rest rows w count i.start i.left i.end i.have i.window r long in
    (λ e. absurd cc, λ h. absurd (omega arith))

pub returns-then-n-self-clause-digits : goal.returns-then-n-self-clause-digits
returns-then-n-self-clause-digits g c =
    let i = c.self.inside in
    let r = c.self.invariant.reading in
    let rows = row g.T.BitStore g.O.BitOrder i.words.now in
    let w = g.T.BitStore.BITS in
    let count = length i.words.now in
    let long : length rows ≡ w * count = length_row g.T.BitStore.value g.O.BitOrder.place w i.words.now in
    let held = c.self.invariant.low_held in
    let ahead = c.self.invariant.low_ahead in
    let wide = length-padded rows in
    let few = held.few in
    let one = c.low_digits-x.ensures in
    let t = low_taken (padded rows) (i.end - i.left) i.lows i.low c.args.n held (omega arith) (omega arith) in
    ap (λ v. v.rest) (sym c.self.view_is)
    ∙ taken_off rows w count i.start i.left i.end i.have i.window r long (number_bits c.low_digits-x.result c.args.n) c.args.n (omega arith) (ap (λ k. number_bits k c.args.n) one ∙ t.0)

pub returns-then-n-self-clause-below : goal.returns-then-n-self-clause-below
returns-then-n-self-clause-below g c =
    let i = c.self.inside in
    let r = c.self.invariant.reading in
    let rows = row g.T.BitStore g.O.BitOrder i.words.now in
    let w = g.T.BitStore.BITS in
    let count = length i.words.now in
    let long : length rows ≡ w * count = length_row g.T.BitStore.value g.O.BitOrder.place w i.words.now in
    let held = c.self.invariant.low_held in
    let ahead = c.self.invariant.low_ahead in
    let wide = length-padded rows in
    let few = held.few in
    let one = c.low_digits-x.ensures in
    let t = low_taken (padded rows) (i.end - i.left) i.lows i.low c.args.n held (omega arith) (omega arith) in
    subst (λ k. k < 2 ^ c.args.n) (sym one) (mod_below i.low (2 ^ c.args.n) (pow_pos c.args.n))

pub returns-then-n-self-clause-passed : goal.returns-then-n-self-clause-passed
returns-then-n-self-clause-passed g c =
    let i = c.self.inside in
    let r = c.self.invariant.reading in
    let rows = row g.T.BitStore g.O.BitOrder i.words.now in
    let w = g.T.BitStore.BITS in
    let count = length i.words.now in
    let long : length rows ≡ w * count = length_row g.T.BitStore.value g.O.BitOrder.place w i.words.now in
    passed_off rows w count i.start i.left i.end i.have i.window r long c.args.n c.args.self.now c.self.view_is (omega arith)

pub invariant_of-self-2 : goal.invariant_of-self-2
invariant_of-self-2 g c =
    let i = c.self.inside in
    let r = c.self.invariant.reading in
    let rows = row g.T.BitStore g.O.BitOrder i.words.now in
    let w = g.T.BitStore.BITS in
    let count = length i.words.now in
    let long : length rows ≡ w * count = length_row g.T.BitStore.value g.O.BitOrder.place w i.words.now in
    let held = c.self.invariant.low_held in
    let ahead = c.self.invariant.low_ahead in
    let wide = length-padded rows in
    let few = held.few in
    let begins = r.begins in
    let within = r.within in
    let enough = c.in-Some.ensures.enough in
    let t = low_next (padded rows) (i.end - i.left) i.lows i.low c.args.n c.in-Some.block c.filled_le-ahead.result held (omega arith) c.requires (omega arith) (omega arith) c.in-Some.ensures.digits c.filled_le-ahead.ensures in
    second_filled rows w count i.start i.left i.end i.have i.window i.lows i.low c.self.invariant long c.args.n (64 - (c.args.n - i.lows)) (c.in-Some.block / 2 ^ 1 / 2 ^ (c.args.n - i.lows - 1)) (omega arith) (omega arith) t.2

pub returns-clause-none : goal.returns-clause-none
returns-clause-none g c =
    let i = c.self.inside in
    let r = c.self.invariant.reading in
    let rows = row g.T.BitStore g.O.BitOrder i.words.now in
    let w = g.T.BitStore.BITS in
    let count = length i.words.now in
    let long : length rows ≡ w * count = length_row g.T.BitStore.value g.O.BitOrder.place w i.words.now in
    let rest_long : length c.args.self.now.rest ≡ i.left = ap (λ v. length v.rest) (sym c.self.view_is) ∙ length_rest rows w count i.start i.left i.end i.have i.window r long in
    let enough = c.in-Some.ensures.enough in
    (λ e. absurd cc, λ h. absurd (omega arith))

pub returns-clause-digits : goal.returns-clause-digits
returns-clause-digits g c =
    let i = c.self.inside in
    let r = c.self.invariant.reading in
    let rows = row g.T.BitStore g.O.BitOrder i.words.now in
    let w = g.T.BitStore.BITS in
    let count = length i.words.now in
    let long : length rows ≡ w * count = length_row g.T.BitStore.value g.O.BitOrder.place w i.words.now in
    let held = c.self.invariant.low_held in
    let ahead = c.self.invariant.low_ahead in
    let wide = length-padded rows in
    let few = held.few in
    let begins = r.begins in
    let within = r.within in
    let enough = c.in-Some.ensures.enough in
    let t = low_next (padded rows) (i.end - i.left) i.lows i.low c.args.n c.in-Some.block c.filled_le-ahead.result held (omega arith) c.requires (omega arith) (omega arith) c.in-Some.ensures.digits c.filled_le-ahead.ensures in
    ap (λ v. v.rest) (sym c.self.view_is) ∙ taken_off rows w count i.start i.left i.end i.have i.window r long (number_bits (c.filled_le-ahead.result * 2 ^ (64 - c.args.n) % 2 ^ 64 / 2 ^ (64 - c.args.n)) c.args.n) c.args.n (omega arith) t.0

pub returns-clause-below : goal.returns-clause-below
returns-clause-below g c =
    let i = c.self.inside in
    let r = c.self.invariant.reading in
    let rows = row g.T.BitStore g.O.BitOrder i.words.now in
    let w = g.T.BitStore.BITS in
    let count = length i.words.now in
    let long : length rows ≡ w * count = length_row g.T.BitStore.value g.O.BitOrder.place w i.words.now in
    let held = c.self.invariant.low_held in
    let ahead = c.self.invariant.low_ahead in
    let wide = length-padded rows in
    let few = held.few in
    let begins = r.begins in
    let within = r.within in
    let enough = c.in-Some.ensures.enough in
    let t = low_next (padded rows) (i.end - i.left) i.lows i.low c.args.n c.in-Some.block c.filled_le-ahead.result held (omega arith) c.requires (omega arith) (omega arith) c.in-Some.ensures.digits c.filled_le-ahead.ensures in
    t.1

pub returns-clause-passed : goal.returns-clause-passed
returns-clause-passed g c =
    let i = c.self.inside in
    let r = c.self.invariant.reading in
    let rows = row g.T.BitStore g.O.BitOrder i.words.now in
    let w = g.T.BitStore.BITS in
    let count = length i.words.now in
    let long : length rows ≡ w * count = length_row g.T.BitStore.value g.O.BitOrder.place w i.words.now in
    let enough = c.in-Some.ensures.enough in
    passed_off rows w count i.start i.left i.end i.have i.window r long c.args.n c.args.self.now c.self.view_is (omega arith)

pub lows_for-requires-clause-fits : goal.lows_for-requires-clause-fits
lows_for-requires-clause-fits g c =
    let i = c.self.inside in
    let r = c.self.invariant.reading in
    let w = g.T.BitStore.BITS in
    let count = length i.words.now in
    let most = (room w i.end (width_positive w g.met.T.BitStore.width)).1 in
    let size : w * count ≡ w * words_for w i.end = ap (λ n. w * n) r.exact in
    let small = width_small w g.met.T.BitStore.width in
    let few = r.few in
    let start = r.in_word in
    omega arith
