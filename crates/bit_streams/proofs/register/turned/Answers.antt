use Rattle.std.proofs.Common.{◌≡◌, ◌-◌, ◌/◌, ◌^◌, ◌∙◌, ap, arith}
use Rattle.bit_addressing.specs.Row.{binary, number_bits}
use Rattle.bit_rows.proofs.Binary.{chunk_of}
use Rattle.bit_slice.proofs.Signed.{turned_digits}
use Rattle.bit_streams.proofs.register.turned.Goals as goal

pub returns-clause-written : goal.returns-clause-written
returns-clause-written c =
    let same : c.reverse_pair.result.0 ≡ c.reverse_pair.result.0 / 2 ^ (64 - 64) = omega arith in
    ap (binary 64) same ∙ turned_digits 64 c.args.number c.reverse_pair.result.0 (omega arith) (omega arith) c.reverse_pair.ensures.front

pub returns-clause-read : goal.returns-clause-read
returns-clause-read c =
    let same : c.reverse_pair.result.0 ≡ c.reverse_pair.result.0 / 2 ^ (64 - 64) = omega arith in
    ap (λ k. number_bits k 64) same ∙ chunk_of 64 c.args.number c.reverse_pair.result.0 (omega arith) (omega arith) c.reverse_pair.ensures.front
