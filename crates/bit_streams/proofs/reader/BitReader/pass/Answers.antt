use Rattle.std.proofs.Common.{◌≡◌, ◌+◌, ◌-◌, ◌*◌, ◌%◌, ◌^◌, length, sym, ◌∙◌, ap, arith}
use Rattle.bit_addressing.specs.Typed.{row}
use Rattle.bit_addressing.proofs.Typed.{length_row}
use Rattle.bit_streams.specs.Streams.{padded}
use Rattle.bit_streams.proofs.Both.{emptied}
use Rattle.bit_streams.proofs.Windows.{nothing_held}
use Rattle.bit_streams.proofs.Padded.{length-padded, length_rest, passed_off, reading_on, taken_any}
use Rattle.bit_streams.proofs.reader.BitReader.pass.Goals as goal

pub invariant_of-self : goal.invariant_of-self
invariant_of-self g c =
    let i = c.self.inside in
    let r = c.self.invariant.reading in
    let rows = row g.T.BitStore g.O.BitOrder i.words.now in
    let w = g.T.BitStore.BITS in
    let count = length i.words.now in
    let long : length rows ≡ w * count = length_row g.T.BitStore.value g.O.BitOrder.place w i.words.now in
    let rest_long : length c.args.self.now.rest ≡ i.left = ap (λ v. length v.rest) (sym c.self.view_is) ∙ length_rest rows w count i.start i.left i.end i.have i.window r long in
    let few = c.requires in
    let ahead = r.ahead in
    let wide = length-padded rows in
    let t = taken_any (padded rows) (i.end - i.left) i.have i.window c.args.n r.held (omega arith) (omega arith) in
    emptied rows w count i.start (i.left - c.args.n) i.end (i.have - c.args.n) (i.window * 2 ^ c.args.n % 2 ^ 64)
    (reading_on rows w count i.start i.left i.end i.have i.window r long c.args.n (i.have - c.args.n) (i.window * 2 ^ c.args.n % 2 ^ 64) (omega arith) (omega arith) t.2)

pub invariant_of-self-2 : goal.invariant_of-self-2
invariant_of-self-2 g c =
    let i = c.self.inside in
    let r = c.self.invariant.reading in
    let rows = row g.T.BitStore g.O.BitOrder i.words.now in
    let w = g.T.BitStore.BITS in
    let count = length i.words.now in
    let long : length rows ≡ w * count = length_row g.T.BitStore.value g.O.BitOrder.place w i.words.now in
    let rest_long : length c.args.self.now.rest ≡ i.left = ap (λ v. length v.rest) (sym c.self.view_is) ∙ length_rest rows w count i.start i.left i.end i.have i.window r long in
    let few = c.requires in
    let begins = r.begins in
    let within = r.within in
    emptied rows w count i.start (i.left - c.args.n) i.end 0 0
    (reading_on rows w count i.start i.left i.end i.have i.window r long c.args.n 0 0 (omega arith) (omega arith) (nothing_held (padded rows) (i.end - i.left + c.args.n)))

pub returns-then-n-self : goal.returns-then-n-self
returns-then-n-self g c =
    let i = c.self.inside in
    let r = c.self.invariant.reading in
    let rows = row g.T.BitStore g.O.BitOrder i.words.now in
    let w = g.T.BitStore.BITS in
    let count = length i.words.now in
    let long : length rows ≡ w * count = length_row g.T.BitStore.value g.O.BitOrder.place w i.words.now in
    let rest_long : length c.args.self.now.rest ≡ i.left = ap (λ v. length v.rest) (sym c.self.view_is) ∙ length_rest rows w count i.start i.left i.end i.have i.window r long in
    let few = c.requires in
    passed_off rows w count i.start i.left i.end i.have i.window r long c.args.n c.args.self.now c.self.view_is (omega arith)

pub returns : goal.returns
returns g c =
    let i = c.self.inside in
    let r = c.self.invariant.reading in
    let rows = row g.T.BitStore g.O.BitOrder i.words.now in
    let w = g.T.BitStore.BITS in
    let count = length i.words.now in
    let long : length rows ≡ w * count = length_row g.T.BitStore.value g.O.BitOrder.place w i.words.now in
    let rest_long : length c.args.self.now.rest ≡ i.left = ap (λ v. length v.rest) (sym c.self.view_is) ∙ length_rest rows w count i.start i.left i.end i.have i.window r long in
    let few = c.requires in
    passed_off rows w count i.start i.left i.end i.have i.window r long c.args.n c.args.self.now c.self.view_is (omega arith)
