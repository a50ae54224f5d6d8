use Rattle.std.proofs.Common.{◌≡◌, ◌+◌, ◌-◌, replicate, ◌∙◌, ap, arith}
use Rattle.std.proofs.lemmas.List.{length-replicate}
use Rattle.bit_addressing.specs.Row.{put}
use Rattle.bit_addressing.specs.Typed.{row}
use Rattle.bit_slice.proofs.Overwritten.{rewritten_in}
use Rattle.bit_slice.proofs.over.fill_over.Goals as goal

pub returns : goal.returns
returns g c =
    let old = c.args.words.now in
    let head = c.args.head in
    let len = c.args.len in
    let bit = c.args.bit in
    let W = g.T.BitStore in
    let P = g.O.BitOrder in
    let count : head + len - head ≡ len = omega arith in
    rewritten_in W P old c.fill_bits.new.words head len g.met.T.BitStore.width c.requires.within c.fill_bits.ensures.size (replicate len bit) (length-replicate len bit)
    (c.fill_bits.ensures.bits ∙ ap (λ n. put (row W P old) head (replicate n bit)) count)
