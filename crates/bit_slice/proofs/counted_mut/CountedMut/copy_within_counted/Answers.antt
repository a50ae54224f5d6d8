use Rattle.std.proofs.Common.{◌+◌, ◌-◌, Bool, ℕ, List, slice_range, ◌∙◌, ap, arith}
use Rattle.bit_addressing.specs.Row.{moved}
use Rattle.bit_addressing.specs.Typed.{row}
use Rattle.bit_addressing.proofs.lists.Moved.{shows_moved}
use Rattle.bit_slice.proofs.Parts.{in_row}
use Rattle.bit_slice.proofs.counted_mut.CountedMut.copy_within_counted.Goals as goal

pub returns-clause-list : goal.returns-clause-list
returns-clause-list g c =
    let v = c.args.self.now in
    let to = c.args.dest in
    let ordered = c.requires.lies.0 in
    let within = c.requires.lies.1 in
    let target = c.requires.target in
    let from : ℕ = g.R.RangeExt.start_of c.args.range in
    let upto : ℕ = g.R.RangeExt.end_of c.args.range v.len in
    let old : List Bool = row g.T.BitStore g.O.BitOrder v.row.words.now in
    ap (λ r. slice_range r v.head (v.head + v.len))
    (c.move_run.ensures.bits ∙ ap (λ m. moved old (v.head + m) (v.head + to) (c.normalize-run.result.end - m)) c.normalize-run.ensures.start ∙ ap (λ m. moved old (v.head + from) (v.head + to) (m - from)) c.normalize-run.ensures.end)
    ∙ shows_moved old v.head v.len from to (upto - from) (omega arith) target (in_row g.T.BitStore g.O.BitOrder v.row.words.now (v.head + v.len) v.fits.room)
