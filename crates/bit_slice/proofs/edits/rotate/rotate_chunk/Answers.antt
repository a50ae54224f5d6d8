use Rattle.std.proofs.Common.{◌≡◌, ◌+◌, ◌-◌, ◌++◌, drop, take, length, slice_range, sym, ◌∙◌, ap, arith}
use Rattle.bit_addressing.specs.Row.{moved, put}
use Rattle.bit_addressing.specs.Typed.{row}
use Rattle.bit_addressing.proofs.lists.Shown.{shows_fewer, length-run}
use Rattle.bit_slice.proofs.Combining.{rest_of_run}
use Rattle.bit_slice.proofs.Parts.{in_row}
use Rattle.bit_slice.proofs.Turned.{moved_back, moved_front}
use Rattle.bit_slice.proofs.Writing.{run_of_number}
use Rattle.bit_slice.proofs.edits.rotate.rotate_chunk.Goals as goal

pub returns-then-by-rest-clause-bits : goal.returns-then-by-rest-clause-bits
returns-then-by-rest-clause-bits g c =
    let xs = row g.T.BitStore g.O.BitOrder c.args.words.now in
    let head = c.args.head in
    let len = c.args.len in
    let by = c.args.by in
    let room = in_row g.T.BitStore g.O.BitOrder c.args.words.now (head + len) c.requires.within in
    let front = slice_range xs head (head + by) in
    let count : length front ≡ by = length-run xs head by (omega arith) in
    c.write_chunk.ensures.bits
    ∙ ap (put (row g.T.BitStore g.O.BitOrder c.move_bits.new.words) (head + (len - by))) (run_of_number xs _ head by (omega arith) c.read_chunk-kept.ensures)
    ∙ ap (λ l. put l (head + (len - by)) front) c.move_bits.ensures.bits
    ∙ moved_front xs head len by c.requires.inside room front count
    ∙ ap (λ l. put xs head (drop by (slice_range xs head (head + len)) ++ l)) (shows_fewer xs head by len c.requires.inside room)

pub returns-else-by-rest-clause-bits : goal.returns-else-by-rest-clause-bits
returns-else-by-rest-clause-bits g c =
    let xs = row g.T.BitStore g.O.BitOrder c.args.words.now in
    let head = c.args.head in
    let len = c.args.len in
    let by = c.args.by in
    let n = len - by in
    let ms = slice_range xs head (head + len) in
    let room = in_row g.T.BitStore g.O.BitOrder c.args.words.now (head + len) c.requires.within in
    let rest = slice_range xs (head + by) (head + by + n) in
    let count : length rest ≡ n = length-run xs (head + by) n (omega arith) in
    let end : head + by + n ≡ head + len = omega arith in
    let others : len - n ≡ by = omega arith in
    c.write_chunk-else-by-rest.ensures.bits
    ∙ ap (put (row g.T.BitStore g.O.BitOrder c.move_bits-else-by-rest.new.words) head) (run_of_number xs _ (head + by) n (omega arith) c.read_chunk-kept-else-by-rest.ensures)
    ∙ ap (λ l. put l head rest) (c.move_bits-else-by-rest.ensures.bits ∙ ap (moved xs head (head + n)) (sym others))
    ∙ moved_back xs head len n (omega arith) room rest count
    ∙ ap (λ k. put xs head (rest ++ take k ms)) others
    ∙ ap (λ l. put xs head (l ++ take by ms)) (ap (slice_range xs (head + by)) end ∙ sym (rest_of_run xs head len by c.requires.inside room))
