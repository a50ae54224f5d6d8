use Rattle.std.proofs.Common.{ap, ◌∙◌, arith}
use Rattle.bit_addressing.specs.Row.{put}
use Rattle.bit_addressing.specs.Typed.{row}
use Rattle.bit_rows.proofs.Binary.{chunk_of, no_digits}
use Rattle.bit_rows.proofs.chunks.write_binary.Goals as goal

pub returns-then-n-eq0-clause-bits : goal.returns-then-n-eq0-clause-bits
returns-then-n-eq0-clause-bits g c = no_digits (row g.T.BitStore g.O.BitOrder c.args.words.now) c.args.at c.args.n c.args.number (omega arith)

pub returns-clause-bits : goal.returns-clause-bits
returns-clause-bits g c = c.write_chunk.ensures.bits ∙ ap (put (row g.T.BitStore g.O.BitOrder c.args.words.now) c.args.at) (chunk_of c.args.n c.args.number c.reverse.result (omega arith) c.requires.few c.reverse.ensures)
