use Rattle.std.proofs.Common.{◌≡◌, ℕ, ◌+◌, ◌-◌, ◌*◌, ◌/◌, ◌%◌, ◌≤◌, List, length, slice_range, sym, ◌∙◌, ap, subst, rules, arith, vec_capacity}
use Rattle.std.proofs.lemmas.Nat.{div-add-mod'}
use Rattle.std.specs.List.{refill, length_refill}
use Rattle.bit_addressing.specs.Row.{words_for}
use Rattle.bit_addressing.specs.Typed.{row}
use Rattle.bit_addressing.proofs.lists.Sized.{room}
use Rattle.bit_addressing.proofs.Rows.{width_positive}
use Rattle.bit_slice.specs.BitSliceMut.{head_of, len_of}
use Rattle.bit_slice.proofs.Parts.{part_room, part_shows}
use Rattle.bit_slice.specs.Held.{bits_in, with_words}
use Rattle.bit_boxed.specs.Lends.{written_over}
use Rattle.bit_boxed.proofs.Boxes.{refilled, lands}
use Rattle.bit_boxed.proofs.boxed.BitBox.part_mut.Goals as goal

pub overflow_add-first : goal.overflow_add-first
overflow_add-first g c =
    let i = c.self.inside in
    let w = g.T.BitStore.BITS in
    let len : i.len ≡ length c.args.self.now.list = sym c.self.invariant.shows ∙ ap (λ v. length v.list) c.self.view_is in
    let room : i.head + c.args.from + (c.args.upto - c.args.from) ≤ w * length i.words.items = omega (arith, c.requires.ordered, c.requires.inside, len, c.self.invariant.fits) in
    let there : (i.head + c.args.from) / c.BITS-width.result + c.elts-count.result ≤ length i.words.items = rw (c.elts-count.ensures.value, c.BITS-width.ensures) (part_room w (length i.words.items) (i.head + c.args.from) (c.args.upto - c.args.from) (width_positive w g.met.T.BitStore.width) room) in
    search (rules, there)

pub slice_mut-requires-clause-in_bounds : goal.slice_mut-requires-clause-in_bounds
slice_mut-requires-clause-in_bounds g c =
    let i = c.self.inside in
    let w = g.T.BitStore.BITS in
    let n : i.words.len ≡ length i.words.items = search rules in
    let len : i.len ≡ length c.args.self.now.list = sym c.self.invariant.shows ∙ ap (λ v. length v.list) c.self.view_is in
    let room : i.head + c.args.from + (c.args.upto - c.args.from) ≤ w * length i.words.items = omega (arith, c.requires.ordered, c.requires.inside, len, c.self.invariant.fits) in
    rw (n, c.elts-count.ensures.value, c.BITS-width.ensures) (part_room w (length i.words.items) (i.head + c.args.from) (c.args.upto - c.args.from) (width_positive w g.met.T.BitStore.width) room)

pub invariant_of-self-lent : goal.invariant_of-self-lent
invariant_of-self-lent g c = λ ws.
    let i = c.self.inside in
    let xs = i.words.items in
    let n : i.words.len ≡ length xs = search rules in
    let over : List g.row.T.Denot = written_over xs ((i.head + c.args.from) / c.BITS-width.result) ws in
    refilled g.T.BitStore g.O.BitOrder xs (refill i.words.len xs over) i.head i.len (sym (length_refill i.words.len xs over n) ∙ n) c.self.invariant

pub returns : goal.returns
returns g c =
    let i = c.self.inside in
    let xs = i.words.items in
    let b = c.self.invariant in
    let from = c.args.from in
    let upto = c.args.upto in
    let W = g.T.BitStore in
    let P = g.O.BitOrder in
    let w = W.BITS in
    let bits = row W P in
    let positive = width_positive w g.met.T.BitStore.width in
    let view = c.from_parts_mut.result in
    let made = c.from_parts_mut.ensures in
    let is : c.BITS-width.result ≡ w = c.BITS-width.ensures in
    let n : i.words.len ≡ length xs = search rules in
    let size : i.len ≡ length c.args.self.now.list = sym b.shows ∙ ap (λ v. length v.list) c.self.view_is in
    let at : ℕ = i.head + from in
    let len : ℕ = upto - from in
    let fits : at + len ≤ w * length xs = omega (arith, c.requires.ordered, c.requires.inside, size, b.fits) in
    let count : c.elts-count.result ≡ words_for w (head_of view + len_of view) = c.elts-count.ensures.value ∙ ap (λ h. words_for w (h + len)) (sym made.head) ∙ ap (λ l. words_for w (head_of view + l)) (sym made.len) in
    let cut : c.slice_mut.result.now ≡ slice_range xs (at / w) (at / w + words_for w (at % w + len)) =
    c.slice_mut.ensures.value ∙ ap (λ k. slice_range xs (at / c.BITS-width.result) (at / c.BITS-width.result + k)) c.elts-count.ensures.value ∙ ap (λ k. slice_range xs (at / k) (at / k + words_for w (at % k + len))) is in (
      (
        sym made.same_words,
        λ ws.
            lands W P i.head i.len (bits_in w (vec_capacity i.words) i.head) i.words.len xs n b (written_over xs (at / c.BITS-width.result) ws)
            ∙ ap (λ k. with_words W P (record { words = xs; row = bits xs; head = i.head; list = slice_range (bits xs) i.head (i.head + i.len); capacity = bits_in w (vec_capacity i.words) i.head }) (written_over xs (at / k) ws)) is
            ∙ ap (λ v. with_words W P v (written_over v.words ((v.head + from) / w) ws)) c.self.view_is,
      ),
      record {
        writes_back = tt;
        words = made.words ∙ c.slice_mut.ensures.value
            ∙ ap (λ k. slice_range xs (at / c.BITS-width.result) (at / c.BITS-width.result + k)) count
            ∙ ap (λ k. slice_range xs (at / k) (at / k + words_for w (head_of view + len_of view))) is
            ∙ ap (λ v. slice_range v.words ((v.head + from) / w) ((v.head + from) / w + words_for w (head_of view + len_of view))) c.self.view_is;
        head = made.head ∙ ap (λ k. at % k) is ∙ ap (λ v. (v.head + from) % w) c.self.view_is;
        len = made.len;
        list = made.list
            ∙ ap (λ k. slice_range (bits c.slice_mut.result.now) (at % k) (at % k + len)) is
            ∙ ap (λ l. slice_range (bits l) (at % w) (at % w + len)) cut
            ∙ part_shows W.value P.place w xs i.head i.len from upto (at / w) (words_for w (at % w + len)) (at % w) positive b.fits c.requires.ordered (omega (arith, c.requires.inside, size))
            (let same : at / w * w + at % w ≡ i.head + from = omega (arith, div-add-mod' at w) in same) ((room w (at % w + len) positive).0) (part_room w (length xs) at len positive fits)
            ∙ ap (λ v. slice_range v.list from upto) c.self.view_is;
        fits = subst (λ v. v.head + length v.list ≤ w * length v.words) c.self.view_is (omega (arith, b.fits, b.shows));
        shows = subst (λ v. slice_range (bits v.words) v.head (v.head + length v.list) ≡ v.list) c.self.view_is (ap (λ k. slice_range (bits xs) i.head (i.head + k)) b.shows);
      },
    )
