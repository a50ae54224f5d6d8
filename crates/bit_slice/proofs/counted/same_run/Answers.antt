use Rattle.std.proofs.Common.{◌≡◌, ◌+◌, slice_range, sym, ◌∙◌, ap}
use Rattle.bit_addressing.specs.Row.{number_of}
use Rattle.bit_addressing.specs.Typed.{row}
use Rattle.bit_addressing.proofs.lists.Shown.{length-run}
use Rattle.bit_slice.proofs.Counting.{one_number, told_by}
use Rattle.bit_slice.proofs.Parts.{in_row}
use Rattle.bit_slice.proofs.counted.same_run.Goals as goal

pub returns-clause-value : goal.returns-clause-value
returns-clause-value g c =
    let n = c.args.n in
    let xs = row g.T.BitStore g.O.BitOrder c.args.left.now.words.now in
    let ys = row g.T.BitStore g.O.BitOrder c.args.right.now.words.now in
    let a = length-run xs c.args.from n (in_row g.T.BitStore g.O.BitOrder c.args.left.now.words.now (c.args.from + n) c.requires.within_left) in
    let b = length-run ys c.args.at n (in_row g.T.BitStore g.O.BitOrder c.args.right.now.words.now (c.args.at + n) c.requires.within_right) in
    told_by c.load_chunk-ours.result c.load_chunk-theirs.result (slice_range xs c.args.from (c.args.from + n) ≡ slice_range ys c.args.at (c.args.at + n))
    (λ e. one_number (slice_range xs c.args.from (c.args.from + n)) (slice_range ys c.args.at (c.args.at + n)) (a ∙ sym b) (sym c.load_chunk-ours.ensures.bits ∙ e ∙ c.load_chunk-theirs.ensures.bits))
    (λ e. c.load_chunk-ours.ensures.bits ∙ ap number_of e ∙ sym c.load_chunk-theirs.ensures.bits)
