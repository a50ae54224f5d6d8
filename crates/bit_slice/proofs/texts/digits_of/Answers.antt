use Rattle.std.proofs.Common.{◌≡◌, ◌+◌, ◌-◌, ◌++◌, map, take, drop, slice_range, sym, ◌∙◌, ap, arith}
use Rattle.std.proofs.Math.Seq.{take-add}
use Rattle.std.proofs.lemmas.List.{map-append}
use Rattle.bit_addressing.specs.Text.{digit_of}
use Rattle.bit_slice.specs.BitSlice.{list_of}
use Rattle.bit_slice.proofs.texts.digits_of.Goals as goal

pub loop-at-preserved : goal.loop-at-preserved
loop-at-preserved g c =
    let xs = list_of c.args.view in
    let at = c.loop-at.at in
    let n = c.min-n.result in
    let size : at + n - at ≡ n = omega arith in
    record {
      ends = omega (arith, c.min-n.ensures, c.loop-at-test.true, c.len-in-loop-at.ensures.value, c.len-in-loop-at-2.ensures.value);
      text = c.in_ok-push_digits.ensures
          ∙ ap (λ l. l ++ map digit_of (slice_range xs at (at + n))) c.loop-at.invariant.text
          ∙ sym (map-append digit_of (take at xs) (slice_range xs at (at + n)))
          ∙ ap (λ k. map digit_of (take at xs ++ take k (drop at xs))) size
          ∙ ap (map digit_of) (sym (take-add at n xs));
    }
