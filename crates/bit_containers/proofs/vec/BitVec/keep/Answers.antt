use Rattle.std.proofs.Common.{◌≡◌, ◌+◌, ◌-◌, ◌%◌, [], ◌∷◌, ◌++◌, take, drop, sym, ◌∙◌, ap, arith, append-nil, append_assoc}
use Rattle.bit_addressing.specs.Row.{number_bits}
use Rattle.bit_rows.proofs.Binary.{length-number_bits, number_bits_none}
use Rattle.bit_containers.proofs.Removing.{take_put, drop_put}
use Rattle.bit_containers.proofs.vec.BitVec.keep.Goals as goal

pub returns-then-got-eq63-clause-front : goal.returns-then-got-eq63-clause-front
returns-then-got-eq63-clause-front g c =
    let count = c.args.count in
    let old = c.args.self.now.list in
    let new = c.write_number.new.self.list in
    let number = c.with_next-number.result in
    let size = length-number_bits number 64 in
    let last : count % 64 ≡ 63 = omega (arith, c.if-got-eq63.true) in
    let none : (count + 1) % 64 ≡ 0 = omega arith in
    let at : count - 63 ≡ count - count % 64 = omega arith in
    let all : 64 ≡ count % 64 + 1 = omega arith in
    ap (λ k. take (count + 1 - k) new ++ number_bits number k) none
    ∙ ap (λ l. take (count + 1 - 0) new ++ l) (number_bits_none number) ∙ append-nil (take (count + 1 - 0) new)
    ∙ ap (take (count + 1 - 0)) c.write_number.ensures.list
    ∙ take_put old (number_bits number 64) (count - 63) (count + 1 - 0) (omega arith) (omega (arith, c.requires))
    ∙ ap (λ k. take k old ++ number_bits number 64) at
    ∙ ap (λ k. take (count - count % 64) old ++ number_bits number k) all
    ∙ ap (λ l. take (count - count % 64) old ++ l) c.with_next-number.ensures
    ∙ sym (append_assoc (take (count - count % 64) old) (number_bits c.args.number (count % 64)) (c.args.bit ∷ []))

pub returns-then-got-eq63-clause-rest : goal.returns-then-got-eq63-clause-rest
returns-then-got-eq63-clause-rest g c =
    let count = c.args.count in
    let size = length-number_bits c.with_next-number.result 64 in
    let last : count % 64 ≡ 63 = omega (arith, c.if-got-eq63.true) in
    ap (drop (count + 1)) c.write_number.ensures.list
    ∙ drop_put c.args.self.now.list (number_bits c.with_next-number.result 64) (count - 63) (count + 1) (omega arith) (omega (arith, c.requires))
