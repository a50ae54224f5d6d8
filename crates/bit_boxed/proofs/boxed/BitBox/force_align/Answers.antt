use Rattle.std.proofs.Common.{◌≡◌, ◌+◌, ◌*◌, ◌≤◌, length, slice_range, refl, sym, ◌∙◌, ap, arith}
use Rattle.bit_addressing.specs.Row.{moved, sized}
use Rattle.bit_addressing.specs.Typed.{row}
use Rattle.bit_addressing.proofs.Rows.{width_positive}
use Rattle.bit_slice.proofs.Clean.{moved_nowhere}
use Rattle.bit_slice.proofs.Parts.{in_row, shown_length}
use Rattle.bit_slice.proofs.Shown.{moved_lands}
use Rattle.bit_boxed.proofs.boxed.BitBox.force_align.Goals as goal

pub returns-clause-list : goal.returns-clause-list
returns-clause-list g c =
    let i = c.self.inside in
    let bits = row g.T.BitStore g.O.BitOrder i.words.items in
    let fits = in_row g.T.BitStore g.O.BitOrder i.words.items (i.head + i.len) c.self.invariant.fits in
    ap (λ r. slice_range r 0 (0 + i.len)) c.move_bits_in_vec.ensures.bits
    ∙ moved_lands bits i.head 0 i.len fits (omega arith)
    ∙ ap (λ v. v.list) c.self.view_is

pub invariant_of-self : goal.invariant_of-self
invariant_of-self g c =
    let i = c.self.inside in
    let w = g.T.BitStore.BITS in
    let ws = c.move_bits_in_vec.new.words.items in
    let same : length ws ≡ length i.words.items = c.move_bits_in_vec.ensures.size in
    let all : w * length ws ≡ w * length i.words.items = ap (λ n. w * n) same in
    let fits : 0 + i.len ≤ w * length ws = omega (arith, c.self.invariant.fits, all) in
    record {
      head_below = width_positive w g.met.T.BitStore.width;
      len_small = c.self.invariant.len_small;
      fits = fits;
      few = omega (arith, c.self.invariant.few, all);
      shows = shown_length g.T.BitStore g.O.BitOrder ws 0 i.len fits;
    }

pub returns-clause-clean : goal.returns-clause-clean
returns-clause-clean g c clean =
    let i = c.self.inside in
    let now = c.args.self.now in
    let len : i.len ≡ length now.list = sym c.self.invariant.shows ∙ ap (λ v. length v.list) c.self.view_is in
    let list = returns-clause-list g c in
    let row : row g.T.BitStore g.O.BitOrder c.move_bits_in_vec.new.words.items ≡ now.row =
    c.move_bits_in_vec.ensures.bits ∙ ap (λ v. moved v.row v.head 0 i.len) c.self.view_is ∙ ap (moved now.row now.head 0) len ∙ ap (λ h. moved now.row h 0 (length now.list)) clean.head ∙ moved_nowhere now.row 0 (length now.list) in
    record { head = refl; row = row ∙ clean.row ∙ ap (λ l. sized g.T.BitStore.BITS l (length l)) (sym list) }
