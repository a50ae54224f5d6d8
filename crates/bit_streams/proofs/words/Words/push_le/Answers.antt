use Rattle.std.proofs.Common.{◌≡◌, ◌+◌, ◌*◌, ◌++◌, length, sym, ◌∙◌, ap, arith, vec_capacity}
use Rattle.std.proofs.lemmas.List.{length-append}
use Rattle.bit_addressing.specs.Row.{number_bits}
use Rattle.bit_addressing.specs.Typed.{row}
use Rattle.bit_rows.proofs.Binary.{length-number_bits}
use Rattle.bit_containers.specs.BitVec.{bits_in}
use Rattle.bit_streams.proofs.Late.{length-written_row, none_late}
use Rattle.bit_streams.proofs.words.Words.push_le.Goals as goal

pub returns-clause-list : goal.returns-clause-list
returns-clause-list g c =
    none_late g.T.BitStore g.O.BitOrder c.push_block.new.words.items
    ∙ c.in-Ok.ensures.bits ∙ ap (λ l. row g.T.BitStore g.O.BitOrder c.turn_in_vec.new.words.items ++ l) c.block_of_le.ensures
    ∙ ap (λ l. l ++ number_bits c.args.number 64) (c.turn_in_vec.ensures.bits ∙ ap (λ v. v.list) c.self.view_is)

pub returns-clause-len : goal.returns-clause-len
returns-clause-len g c =
    ap length (returns-clause-list g c) ∙ length-append c.args.self.now.list (number_bits c.args.number 64) ∙ ap (λ k. length c.args.self.now.list + k) (length-number_bits c.args.number 64)

pub returns-in-Err-clause-full : goal.returns-in-Err-clause-full
returns-in-Err-clause-full g c =
    let i = c.self.inside in
    let w = g.T.BitStore.BITS in
    let all : length c.args.self.now.list ≡ w * length i.words.items = ap (λ v. length v.list) (sym c.self.view_is) ∙ length-written_row g.T.BitStore g.O.BitOrder i.late i.words.items in
    let capacity : c.args.self.now.capacity ≡ bits_in w (vec_capacity i.words) 0 = ap (λ v. v.capacity) (sym c.self.view_is) in
    let same : w * length c.turn_in_vec.new.words.items ≡ w * length i.words.items = ap (λ n. w * n) c.turn_in_vec.ensures.size in
    let kept : w * vec_capacity c.turn_in_vec.new.words ≡ w * vec_capacity i.words = ap (λ n. w * n) c.turn_in_vec.ensures.capacity in
    let full = c.in-Err.ensures.full in
    omega arith

pub returns-in-Err-clause-unchanged : goal.returns-in-Err-clause-unchanged
returns-in-Err-clause-unchanged g c =
    none_late g.T.BitStore g.O.BitOrder c.push_block.new.words.items ∙ ap (row g.T.BitStore g.O.BitOrder) c.in-Err.ensures.unchanged
    ∙ c.turn_in_vec.ensures.bits ∙ ap (λ v. v.list) c.self.view_is
