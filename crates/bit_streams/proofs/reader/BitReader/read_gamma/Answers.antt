use Rattle.std.proofs.Common.{◌*◌, ◌-◌, ◌/◌, ◌^◌, ◌<◌, Ok, sym, ◌∙◌, ap, rules, refl, arith}
use Rattle.std.specs.Int.{w64, leading_zeros}
use Rattle.bit_streams.proofs.Tops.{gamma_first, not_all_zeros, same_gamma}
use Rattle.bit_streams.proofs.reader.BitReader.read_gamma.Goals as goal

pub pass-requires : goal.pass-requires
pass-requires g c =
    let block = c.block_ahead-block.result in
    let few : leading_zeros w64 block < 32 = c.if-zeros-lt32.true in
    let some = not_all_zeros block (leading_zeros w64 block) refl (omega arith) in
    let there = c.block_ahead-block.ensures.there some in
    omega arith

pub returns-then-zeros-lt32-clause-found : goal.returns-then-zeros-lt32-clause-found
returns-then-zeros-lt32-clause-found g c =
    let block = c.block_ahead-block.result in
    let zeros = leading_zeros w64 block in
    let some = not_all_zeros block zeros refl (omega arith) in
    let f = gamma_first block zeros c.args.self.now.rest c.pass.new.self.rest some (search rules) refl c.if-zeros-lt32.true (c.block_ahead-block.ensures.bits some) c.pass.ensures.rest in
    f.is

pub returns-then-zeros-lt32-clause-some : goal.returns-then-zeros-lt32-clause-some
returns-then-zeros-lt32-clause-some g c =
    let block = c.block_ahead-block.result in
    let zeros = leading_zeros w64 block in
    let some = not_all_zeros block zeros refl (omega arith) in
    let f = gamma_first block zeros c.args.self.now.rest c.pass.new.self.rest some (search rules) refl c.if-zeros-lt32.true (c.block_ahead-block.ensures.bits some) c.pass.ensures.rest in
    f.some

pub returns-then-zeros-lt32-clause-back : goal.returns-then-zeros-lt32-clause-back
returns-then-zeros-lt32-clause-back g c x more positive below e =
    let block = c.block_ahead-block.result in
    let zeros = leading_zeros w64 block in
    let some = not_all_zeros block zeros refl (omega arith) in
    let f = gamma_first block zeros c.args.self.now.rest c.pass.new.self.rest some (search rules) refl c.if-zeros-lt32.true (c.block_ahead-block.ensures.bits some) c.pass.ensures.rest in
    let same = same_gamma (block / 2 ^ (63 - 2 * zeros)) x c.pass.new.self.rest more f.some f.below positive below (sym f.is ∙ e) in
    (ap Ok same.0, same.1)
