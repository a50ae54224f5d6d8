use Rattle.std.proofs.Common.{◌≡◌, ◌+◌, ◌-◌, ◌++◌, take, length, slice_range, sym, ◌∙◌, ap, arith}
use Rattle.std.proofs.lemmas.List.{length-map}
use Rattle.bit_addressing.specs.Row.{moved, put}
use Rattle.bit_addressing.specs.Typed.{row}
use Rattle.bit_addressing.proofs.lists.Shown.{length-run}
use Rattle.bit_slice.proofs.Combining.{rest_of_run}
use Rattle.bit_slice.proofs.Parts.{in_row}
use Rattle.bit_slice.proofs.Turned.{kept_back, moved_back}
use Rattle.bit_slice.proofs.edits.rotate.rotate_all_but_few.Goals as goal

pub returns-clause-bits : goal.returns-clause-bits
returns-clause-bits g c =
    let xs = row g.T.BitStore g.O.BitOrder c.args.words.now in
    let head = c.args.head in
    let len = c.args.len in
    let by = c.args.by in
    let n = len - by in
    let ms = slice_range xs head (head + len) in
    let room = in_row g.T.BitStore g.O.BitOrder c.args.words.now (head + len) c.requires.within in
    let rest = slice_range xs (head + by) (head + by + n) in
    let count : length rest ≡ n = length-run xs (head + by) n (omega arith) in
    let end : head + by + n ≡ head + len = omega arith in
    let others : len - n ≡ by = omega arith in
    let back = ap (λ l. slice_range l 0 (0 + n)) c.copy_bits.ensures.bits ∙ kept_back g.O.BitOrder.place _ rest 0 n count (omega (arith, length-map c.args.kept.now (λ x. x), c.requires.few)) in
    c.copy_bits-2.ensures.bits
    ∙ ap (put (row g.T.BitStore g.O.BitOrder c.move_bits.new.words) head) back
    ∙ ap (λ l. put l head rest) (c.move_bits.ensures.bits ∙ ap (moved xs head (head + n)) (sym others))
    ∙ moved_back xs head len n (omega arith) room rest count
    ∙ ap (λ k. put xs head (rest ++ take k ms)) others
    ∙ ap (λ l. put xs head (l ++ take by ms)) (ap (slice_range xs (head + by)) end ∙ sym (rest_of_run xs head len by c.requires.inside room))
