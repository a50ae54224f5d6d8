use Rattle.std.proofs.Common.{◌≡◌, ℕ, ◌+◌, ◌≤◌, length, slice_range, refl, sym, ◌∙◌, ap, arith}
use Rattle.bit_addressing.specs.Row.{put}
use Rattle.bit_addressing.specs.Typed.{row}
use Rattle.bit_addressing.proofs.lists.Put.{put_none}
use Rattle.bit_slice.specs.BitSlice.{list_of}
use Rattle.bit_slice.specs.Operators.{combined}
use Rattle.bit_slice.proofs.Assigned.{assigned_all, assigned_more}
use Rattle.bit_slice.proofs.Combining.{length-combined}
use Rattle.bit_slice.proofs.Overwritten.{rewritten_in}
use Rattle.bit_slice.proofs.Parts.{in_row, view_length}
use Rattle.bit_slice.proofs.over.assign_over.Goals as goal

pub pieces-init : goal.pieces-init
pieces-init g c = record {
  inside = omega arith;
  size = refl;
  bits = sym (put_none (row g.T.BitStore g.O.BitOrder c.args.words.now) c.args.head);
}

pub pieces-preserved : goal.pieces-preserved
pieces-preserved g c =
    let old = row g.T.BitStore g.O.BitOrder c.args.words.now in
    let cur = row g.T.BitStore g.O.BitOrder c.pieces.words in
    let f = g.F.BitOperator.made in
    let ls = list_of c.args.left in
    let rs = list_of c.args.right in
    let i = c.pieces.invariant in
    let done = c.pieces.done in
    let n = c.min-count.result in
    let at : ℕ = c.args.head + done in
    let size : length ls ≡ c.args.len = view_length c.args.left ∙ c.requires.left in
    let room : c.args.head + c.args.len ≤ length old = in_row g.T.BitStore g.O.BitOrder c.args.words.now (c.args.head + c.args.len) c.requires.within in
    record {
      inside = omega arith;
      size = c.combine_over.ensures.size ∙ c.copy_over.ensures.size ∙ i.size;
      bits = c.combine_over.ensures.row
          ∙ ap (λ l. put (row g.T.BitStore g.O.BitOrder c.copy_over.new.words) at (combined f (slice_range (row g.T.BitStore g.O.BitOrder c.copy_over.new.words) at (at + n)) l)) c.get_range-in-pieces.ensures.list
          ∙ ap (λ r. put r at (combined f (slice_range r at (at + n)) (slice_range rs done (done + n)))) (c.copy_over.ensures.row ∙ ap (put cur at) c.get_range.ensures.list)
          ∙ assigned_more f old ls rs c.args.head c.args.len size room cur done n i.bits (omega arith);
    }

pub returns : goal.returns
returns g c =
    let W = g.T.BitStore in
    let P = g.O.BitOrder in
    let old = row W P c.args.words.now in
    let f = g.F.BitOperator.made in
    let ls = list_of c.args.left in
    let rs = list_of c.args.right in
    let i = c.pieces.invariant in
    let size : length ls ≡ c.args.len = view_length c.args.left ∙ c.requires.left in
    let room : c.args.head + c.args.len ≤ length old = in_row W P c.args.words.now (c.args.head + c.args.len) c.requires.within in
    rewritten_in W P c.args.words.now c.pieces.words c.args.head c.args.len g.met.T.BitStore.width c.requires.within i.size (combined f ls rs) (length-combined f ls rs ∙ size)
    (i.bits ∙ assigned_all f old ls rs c.args.head c.args.len size room c.pieces.done (omega arith))
