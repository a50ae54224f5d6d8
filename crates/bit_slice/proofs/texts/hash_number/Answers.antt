use Rattle.std.proofs.Common.{[], ◌∷◌, sym, ◌∙◌, ap}
use Rattle.std.specs.List.{fold}
use Rattle.bit_addressing.specs.Bits.{has_bit}
use Rattle.bit_addressing.specs.Row.{number_bits}
use Rattle.bit_rows.proofs.Binary.{number_bits_none}
use Rattle.bit_slice.specs.Comparisons.{bits_fed}
use Rattle.bit_slice.proofs.Hashing.{fed_after, one_more}
use Rattle.bit_slice.proofs.texts.hash_number.Goals as goal

pub loop-i-init : goal.loop-i-init
loop-i-init g c = sym (ap (λ l. fold g.H.Hasher.write c.args.state.now (bits_fed l)) (number_bits_none c.args.number))

pub loop-i-preserved : goal.loop-i-preserved
loop-i-preserved g c =
    let write = g.H.Hasher.write in
    let x = c.args.number in
    let i = c.loop-i.i in
    c.hash.ensures
    ∙ fed_after write c.args.state.now c.loop-i.state (number_bits x i) (has_bit x i ∷ []) c.loop-i.invariant
    ∙ ap (λ l. fold write c.args.state.now (bits_fed l)) (one_more x i)
