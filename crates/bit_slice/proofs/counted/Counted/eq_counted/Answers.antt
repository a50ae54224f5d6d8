use Rattle.std.proofs.Common.{◌≡◌, ◌+◌, length, sym, ◌∙◌, ap}
use Rattle.bit_addressing.specs.Typed.{row}
use Rattle.bit_addressing.proofs.lists.Shown.{length-run}
use Rattle.bit_slice.proofs.Counting.{told_false}
use Rattle.bit_slice.proofs.Parts.{in_row}
use Rattle.bit_slice.specs.Counted.{list_of}
use Rattle.bit_slice.proofs.counted.Counted.eq_counted.Goals as goal

pub returns-then-self-other-clause-value : goal.returns-then-self-other-clause-value
returns-then-self-other-clause-value g c =
    let a = c.args.self.now in
    let b = c.args.other.now in
    let left = length-run (row g.T.BitStore g.O.BitOrder a.row.words.now) a.head a.len (in_row g.T.BitStore g.O.BitOrder a.row.words.now (a.head + a.len) a.fits.room) in
    let right = length-run (row g.T.BitStore g.O.BitOrder b.row.words.now) b.head b.len (in_row g.T.BitStore g.O.BitOrder b.row.words.now (b.head + b.len) b.fits.room) in
    told_false (list_of a ≡ list_of b) (λ e. c.if-self-other.true (sym left ∙ ap length e ∙ right))
