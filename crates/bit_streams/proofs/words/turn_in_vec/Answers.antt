use Rattle.std.proofs.Common.{◌≡◌, sym, ◌∙◌, ap, arith}
use Rattle.bit_streams.specs.Streams.{written_row}
use Rattle.bit_streams.proofs.Late.{none_late}
use Rattle.bit_streams.proofs.words.turn_in_vec.Goals as goal

pub returns-else-late-gt0-clause-bits : goal.returns-else-late-gt0-clause-bits
returns-else-late-gt0-clause-bits g c =
    let none : 0 ≡ c.args.late = omega arith in
    sym (none_late g.T.BitStore g.O.BitOrder c.args.words.now.items) ∙ ap (λ n. written_row g.T.BitStore g.O.BitOrder n c.args.words.now.items) none
