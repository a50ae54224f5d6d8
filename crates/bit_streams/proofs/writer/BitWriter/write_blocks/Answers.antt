use Rattle.std.proofs.Common.{◌≡◌, ◌+◌, ◌-◌, ◌*◌, ◌%◌, ◌++◌, take, sym, ◌∙◌, ap, arith}
use Rattle.std.proofs.lemmas.List.{take_all}
use Rattle.bit_addressing.specs.Row.{binary}
use Rattle.bit_slice.specs.BitSlice.{len_of, list_of}
use Rattle.bit_streams.proofs.Windows.{part_written}
use Rattle.bit_streams.proofs.writer.BitWriter.write_blocks.Goals as goal

pub loop-i-preserved : goal.loop-i-preserved
loop-i-preserved g c =
    let xs = list_of c.args.bits in
    let i = c.loop-i.i in
    let long = c.len-len.ensures.list in
    let end = c.loop-i-test.true in
    let inv = c.loop-i.invariant in
    let size : len_of c.get_range.result ≡ 64 = c.get_range.ensures.len ∙ omega arith in
    let digits : binary 64 c.load_be-block.result ≡ list_of c.get_range.result = ap (λ k. binary k c.load_be-block.result) (sym size) ∙ c.load_be-block.ensures.digits in
    let next : i * 64 + 64 ≡ (i + 1) * 64 = omega arith in
    let more = c.in-Ok-write.ensures.len in
    let grew = c.in-Ok-write.ensures.capacity in
    let was = inv.1 in
    let room = inv.2 in
    let kept = inv.3 in (
      part_written c.args.self.now.list c.loop-i.self.list c.write.new.self.list xs (list_of c.get_range.result) (binary 64 c.load_be-block.result) (i * 64) (i * 64 + 64) inv.0 c.get_range.ensures.list digits c.in-Ok-write.ensures.list (omega arith) (omega arith)
          ∙ ap (λ k. c.args.self.now.list ++ take k xs) next,
      omega arith,
      omega arith,
      omega arith,
    )

pub returns-in-Ok-write-2-clause-list : goal.returns-in-Ok-write-2-clause-list
returns-in-Ok-write-2-clause-list g c =
    let xs = list_of c.args.bits in
    let len = c.len-len.result in
    let long = c.len-len.ensures.list in
    let value = c.len-len.ensures.value in
    let end = c.loop-i-test.false in
    let last = c.loop-i.auto.i-end in
    let at : c.loop-i.i * 64 ≡ len - len % 64 = omega arith in
    let size : len_of c.get_range-2.result ≡ len % 64 = c.get_range-2.ensures.len ∙ omega arith in
    let digits : binary (len % 64) c.load_be.result ≡ list_of c.get_range-2.result = ap (λ k. binary k c.load_be.result) (sym size) ∙ c.load_be.ensures.digits in
    part_written c.args.self.now.list c.loop-i.self.list c.write-2.new.self.list xs (list_of c.get_range-2.result) (binary (len % 64) c.load_be.result) (len - len % 64) (len_of c.args.bits)
    (c.loop-i.invariant.0 ∙ ap (λ k. c.args.self.now.list ++ take k xs) at) c.get_range-2.ensures.list digits c.in-Ok-write-2.ensures.list (omega arith) (omega arith)
    ∙ ap (λ l. c.args.self.now.list ++ l) (take_all (len_of c.args.bits) xs (omega arith))
