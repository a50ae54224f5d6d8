use Rattle.std.proofs.Common.{◌<◌, length, get_or, arith}
use Rattle.std.proofs.lemmas.List.{at_drop_more}
use Rattle.std.proofs.lemmas.Nat.{ones-le}
use Rattle.bit_portable.specs.Stored.{word_total}
use Rattle.bit_portable.proofs.reading.word_total.Goals as goal

pub loop-word-preserved : goal.loop-word-preserved
loop-word-preserved c =
    let words = c.args.words.now in
    let i = c.loop-word.word-index in
    let inside : i < length words = omega arith in
    let step = at_drop_more word_total words i 0 inside in
    let few = ones-le 64 (get_or words i 0) (omega (arith, c.type_inv.words i)) in
    record { so_far = omega (arith, step); bound = omega (arith, few) }
