use Rattle.std.proofs.Common.{ℕ, ◌+◌, ◌*◌, ◌/◌, ◌^◌, ◌&&◌, refl, ◌∙◌, ap, arith, rules, bit_and, bit_or, get_or}
use Rattle.std.proofs.lemmas.Bool.{lt-ltb}
use Rattle.bit_addressing.specs.Bits.{has_bit}
use Rattle.bit_addressing.proofs.Tables.{taken_more}
use Rattle.bit_addressing.proofs.pair_table.taken.Goals as goal

pub loop-k-preserved : goal.loop-k-preserved
loop-k-preserved c =
    let k = c.loop-k.k in
    let four : ℕ = bit_and (c.args.word / 2 ^ (4 * k)) 15 in
    λ p q b table. taken_more c.args.entries.now c.loop-k.made c.args.word k four (bit_or c.loop-k.made (get_or c.args.entries.now (k * 16 + four) 0)) p q b table (omega arith) refl (search rules) refl (c.loop-k.invariant p q b table)

pub returns : goal.returns
returns c = λ p q b below table. c.loop-k.invariant p q b table ∙ ap (λ t. t && (b && has_bit c.args.word p)) (lt-ltb (p / 4) c.loop-k.k (omega arith))
