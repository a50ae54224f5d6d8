use Rattle.std.proofs.Common.{◌≡◌, length, refl, sym, ◌∙◌, ap, rules, vec_capacity}
use Rattle.std.specs.List.{refill, length_refill}
use Rattle.bit_addressing.specs.Typed.{row}
use Rattle.bit_addressing.proofs.Rows.{width_positive}
use Rattle.bit_containers.specs.BitVec.{bits_in}
use Rattle.bit_containers.specs.Lends.{with_words}
use Rattle.bit_containers.proofs.Vectors.{few_words, lands, refilled}
use Rattle.bit_containers.proofs.vec.BitVec.as_raw_mut_slice.Goals as goal

pub invariant_of-self-lent : goal.invariant_of-self-lent
invariant_of-self-lent g c = λ w.
    let i = c.self.inside in
    let n : i.words.len ≡ length i.words.items = search rules in
    refilled g.T.BitStore g.O.BitOrder i.words.items (refill i.words.len i.words.items w) i.head i.len (sym (length_refill i.words.len i.words.items w n) ∙ n) c.self.invariant

pub returns : goal.returns
returns g c =
    let i = c.self.inside in
    let W = g.T.BitStore in
    let P = g.O.BitOrder in
    let b = c.self.invariant in
    let positive = width_positive W.BITS g.met.T.BitStore.width in
    let n : i.words.len ≡ length i.words.items = search rules in (
      (refl, λ w. lands W P i.head i.len (bits_in W.BITS (vec_capacity i.words) i.head) i.words.len i.words.items n positive b w ∙ ap (λ v. with_words W P v w) c.self.view_is),
      record {
        writes_back = tt;
        value = c.as_mut_slice.ensures.value ∙ ap (λ v. v.words) c.self.view_is;
        row = ap (row W P) c.as_mut_slice.ensures.value ∙ ap (λ v. v.row) c.self.view_is;
        fits = rw (← c.self.view_is, b.shows) b.fits;
        few = rw (← c.self.view_is) (few_words W.BITS (length i.words.items) i.head i.len positive b);
        shows = rw (← c.self.view_is, b.shows) refl;
        exact = rw (← c.self.view_is, b.shows, c.as_mut_slice.ensures.value) b.count;
      },
    )
