use Rattle.std.proofs.Common.{◌≡◌, length, refl, sym, ◌∙◌, ap, rules, vec_capacity}
use Rattle.std.specs.List.{refill, length_refill}
use Rattle.bit_addressing.specs.Typed.{row}
use Rattle.bit_slice.specs.Held.{bits_in, with_words}
use Rattle.bit_boxed.proofs.Boxes.{lands, refilled}
use Rattle.bit_boxed.proofs.boxed.BitBox.as_raw_mut_slice.Goals as goal

pub invariant_of-self-lent : goal.invariant_of-self-lent
invariant_of-self-lent g c = λ w.
    let i = c.self.inside in
    let n : i.words.len ≡ length i.words.items = search rules in
    refilled g.T.BitStore g.O.BitOrder i.words.items (refill i.words.len i.words.items w) i.head i.len (sym (length_refill i.words.len i.words.items w n) ∙ n) c.self.invariant

pub returns : goal.returns
returns g c =
    let i = c.self.inside in
    let n : i.words.len ≡ length i.words.items = search rules in (
      (refl, λ w. lands g.T.BitStore g.O.BitOrder i.head i.len (bits_in g.T.BitStore.BITS (vec_capacity i.words) i.head) i.words.len i.words.items n c.self.invariant w ∙ ap (λ v. with_words g.T.BitStore g.O.BitOrder v w) c.self.view_is),
      record {
        writes_back = tt;
        value = c.as_mut_slice.ensures.value ∙ ap (λ v. v.words) c.self.view_is;
        row = ap (row g.T.BitStore g.O.BitOrder) c.as_mut_slice.ensures.value ∙ ap (λ v. v.row) c.self.view_is;
        fits = rw (← c.self.view_is, c.self.invariant.shows) c.self.invariant.fits;
        few = rw (← c.self.view_is) c.self.invariant.few;
        shows = rw (← c.self.view_is, c.self.invariant.shows) refl;
      },
    )
