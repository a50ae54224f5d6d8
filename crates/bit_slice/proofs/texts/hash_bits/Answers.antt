use Rattle.std.proofs.Common.{◌≡◌, ◌+◌, ◌-◌, length, ◌∙◌, ap, arith}
use Rattle.std.proofs.lemmas.List.{take_all}
use Rattle.std.specs.List.{fold}
use Rattle.bit_slice.specs.BitSlice.{list_of}
use Rattle.bit_slice.specs.Comparisons.{bits_fed}
use Rattle.bit_slice.proofs.Hashing.{fed_range}
use Rattle.bit_slice.proofs.texts.hash_bits.Goals as goal

pub loop-at-preserved : goal.loop-at-preserved
loop-at-preserved g c =
    let xs = list_of c.args.view in
    let at = c.loop-at.at in
    record {
      within = omega arith;
      fed = c.hash_number.ensures ∙ fed_range g.H.Hasher.write c.args.state.now c.loop-at.state xs at 64 c.chunk_at.result (omega (arith, c.len-len.ensures.list)) c.loop-at.invariant.fed c.chunk_at.ensures.number;
    }

pub returns : goal.returns
returns g c =
    let xs = list_of c.args.view in
    let write = g.H.Hasher.write in
    let at = c.loop-at.at in
    let n = c.len-len.result - at in
    let whole : at + n ≡ length xs = omega (arith, c.len-len.ensures.list, c.loop-at.invariant.within) in
    c.hash_number-2.ensures
    ∙ fed_range write c.args.state.now c.loop-at.state xs at n c.chunk_at-2.result (omega (arith, whole)) c.loop-at.invariant.fed c.chunk_at-2.ensures.number
    ∙ ap (λ l. fold write c.args.state.now (bits_fed l)) (take_all (at + n) xs (omega (arith, whole)))
