use Rattle.std.proofs.Common.{◌≡◌, ◌+◌, ◌-◌, List, ◌++◌, length, take, drop, slice_range, refl, sym, ◌∙◌, ap, rules, arith, vec_capacity}
use Rattle.std.proofs.lemmas.List.{length-take-le}
use Rattle.bit_addressing.specs.Row.{words_for}
use Rattle.bit_addressing.specs.Typed.{row}
use Rattle.std.specs.List.{refill, length_refill}
use Rattle.bit_slice.specs.Held.{bits_in, with_words}
use Rattle.bit_boxed.proofs.Boxes.{refilled, visible, visible_show, front_lands}
use Rattle.bit_boxed.proofs.boxed.BitBox.visible_mut.Goals as goal

pub slice_mut-requires-clause-in_bounds : goal.slice_mut-requires-clause-in_bounds
slice_mut-requires-clause-in_bounds g c =
    let i = c.self.inside in
    let n : i.words.len ≡ length i.words.items = search rules in
    omega (arith, c.elts-count.ensures.value, visible g.T.BitStore g.O.BitOrder i.words.items i.head i.len g.met.T.BitStore.width c.self.invariant, n)

pub invariant_of-self-lent : goal.invariant_of-self-lent
invariant_of-self-lent g c = λ w.
    let i = c.self.inside in
    let xs = i.words.items in
    let n : i.words.len ≡ length xs = search rules in
    let front : List g.row.T.Denot = w ++ drop (length w) xs in
    refilled g.T.BitStore g.O.BitOrder xs (refill i.words.len xs front) i.head i.len (sym (length_refill i.words.len xs front n) ∙ n) c.self.invariant

pub returns : goal.returns
returns g c =
    let i = c.self.inside in
    let now = c.args.self.now in
    let w = g.T.BitStore.BITS in
    let bits = row g.T.BitStore g.O.BitOrder in
    let n : i.words.len ≡ length i.words.items = search rules in
    let len : i.len ≡ length now.list = sym c.self.invariant.shows ∙ ap (λ v. length v.list) c.self.view_is in
    let head : i.head ≡ now.head = ap (λ v. v.head) c.self.view_is in
    let count : c.elts-count.result - 0 ≡ words_for w (i.head + i.len) = omega (arith, c.elts-count.ensures.value) in
    let words : c.slice_mut.result.now ≡ take (words_for w (i.head + i.len)) i.words.items = c.slice_mut.ensures.value ∙ ap (λ n. take n i.words.items) count in
    let seen : c.slice_mut.result.now ≡ take (words_for w (now.head + length now.list)) now.words = words ∙ ap (λ v. take (words_for w (v.head + i.len)) v.words) c.self.view_is ∙ ap (λ n. take (words_for w (now.head + n)) now.words) len in (
      (refl, λ ws. front_lands g.T.BitStore g.O.BitOrder i.head i.len (bits_in g.T.BitStore.BITS (vec_capacity i.words) i.head) i.words.len i.words.items n c.self.invariant ws ∙ ap (λ v. with_words g.T.BitStore g.O.BitOrder v ws) c.self.view_is),
      record {
        writes_back = tt;
        words = seen;
        exact = ap length words ∙ length-take-le (words_for w (i.head + i.len)) i.words.items (visible g.T.BitStore g.O.BitOrder i.words.items i.head i.len g.met.T.BitStore.width c.self.invariant) ∙ ap (λ v. words_for w (v.head + i.len)) c.self.view_is ∙ ap (λ n. words_for w (now.head + n)) len;
        shows = ap (λ n. slice_range (bits c.slice_mut.result.now) now.head (now.head + n)) (sym len) ∙ ap (λ h. slice_range (bits c.slice_mut.result.now) h (h + i.len)) (sym head)
            ∙ ap (λ ws. slice_range (bits ws) i.head (i.head + i.len)) words
            ∙ visible_show g.T.BitStore g.O.BitOrder i.words.items i.head i.len g.met.T.BitStore.width c.self.invariant ∙ ap (λ v. v.list) c.self.view_is;
      },
    )
