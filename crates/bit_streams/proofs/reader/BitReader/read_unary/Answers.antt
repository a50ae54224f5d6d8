use Rattle.std.proofs.Common.{Some, sym, ◌∙◌, ap, rules, refl}
use Rattle.std.specs.Int.{w64, leading_zeros}
use Rattle.bit_streams.proofs.Tops.{unary_first}
use Rattle.bit_streams.proofs.Zeros.{same_unary}
use Rattle.bit_streams.proofs.reader.BitReader.read_unary.Goals as goal

pub returns-then-block-ne0-clause-found : goal.returns-then-block-ne0-clause-found
returns-then-block-ne0-clause-found g c =
    let block = c.block_ahead-block.result in
    unary_first block (leading_zeros w64 block) c.args.self.now.rest c.pass.new.self.rest (search rules) (search rules) refl (c.block_ahead-block.ensures.bits (search rules)) c.pass.ensures.rest

pub returns-then-block-ne0-clause-back : goal.returns-then-block-ne0-clause-back
returns-then-block-ne0-clause-back g c zeros more e =
    let found = returns-then-block-ne0-clause-found g c in
    let same = same_unary (leading_zeros w64 c.block_ahead-block.result) zeros c.pass.new.self.rest more (sym found ∙ e) in
    (ap Some same.0, same.1)
