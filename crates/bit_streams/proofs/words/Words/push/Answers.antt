use Rattle.std.proofs.Common.{◌≡◌, ◌+◌, ◌*◌, ◌++◌, [], ◌∷◌, length, sym, ◌∙◌, ap, arith, vec_capacity}
use Rattle.std.proofs.lemmas.List.{length-append}
use Rattle.bit_addressing.specs.Row.{binary}
use Rattle.bit_addressing.specs.Typed.{row}
use Rattle.bit_addressing.proofs.Rows.{width_positive}
use Rattle.bit_rows.proofs.Binary.{length-binary}
use Rattle.bit_containers.specs.BitVec.{bits_in}
use Rattle.bit_streams.specs.Streams.{written_row}
use Rattle.bit_streams.proofs.Late.{late_pushed, length-written_row, none_late, one_block}
use Rattle.bit_streams.proofs.words.Words.push.Goals as goal

pub returns-then-is_turned_later-clause-list : goal.returns-then-is_turned_later-clause-list
returns-then-is_turned_later-clause-list g c =
    let i = c.self.inside in
    let w = g.T.BitStore.BITS in
    let x = c.from_u64.result in
    let wide : w ≡ 64 = c.is_turned_later.ensures c.if-is_turned_later.true in
    ap (written_row g.T.BitStore g.O.BitOrder (i.late + 1)) (c.push_reserved.ensures.items ∙ ap (λ l. l ++ x ∷ []) c.make_room_in_vec.ensures.items)
    ∙ late_pushed g.T.BitStore g.O.BitOrder i.words.items i.late x (width_positive w g.met.T.BitStore.width) c.self.invariant
    ∙ ap (λ l. written_row g.T.BitStore g.O.BitOrder i.late i.words.items ++ l) (one_block w (g.T.BitStore.value x) c.args.number wide c.from_u64.ensures)
    ∙ ap (λ v. v.list ++ binary 64 c.args.number) c.self.view_is

pub returns-then-is_turned_later-clause-len : goal.returns-then-is_turned_later-clause-len
returns-then-is_turned_later-clause-len g c =
    ap length (returns-then-is_turned_later-clause-list g c) ∙ length-append c.args.self.now.list (binary 64 c.args.number) ∙ ap (λ k. length c.args.self.now.list + k) (length-binary 64 c.args.number)

pub returns-in-Err-clause-full : goal.returns-in-Err-clause-full
returns-in-Err-clause-full g c =
    let i = c.self.inside in
    let w = g.T.BitStore.BITS in
    let all : length c.args.self.now.list ≡ w * length i.words.items = ap (λ v. length v.list) (sym c.self.view_is) ∙ length-written_row g.T.BitStore g.O.BitOrder i.late i.words.items in
    let capacity : c.args.self.now.capacity ≡ bits_in w (vec_capacity i.words) 0 = ap (λ v. v.capacity) (sym c.self.view_is) in
    let wide : w ≡ 64 = c.is_turned_later.ensures c.if-is_turned_later.true in
    let full = c.in-Err.ensures.full in
    let a : w * length i.words.items ≡ 64 * length i.words.items = ap (λ n. n * length i.words.items) wide in
    let b : w * vec_capacity i.words ≡ 64 * vec_capacity i.words = ap (λ n. n * vec_capacity i.words) wide in
    omega arith

pub returns-clause-list : goal.returns-clause-list
returns-clause-list g c =
    none_late g.T.BitStore g.O.BitOrder c.push_block.new.words.items
    ∙ c.in-Ok-push_block.ensures.bits ∙ ap (λ l. row g.T.BitStore g.O.BitOrder c.turn_in_vec.new.words.items ++ l) c.block_of.ensures
    ∙ ap (λ l. l ++ binary 64 c.args.number) (c.turn_in_vec.ensures.bits ∙ ap (λ v. v.list) c.self.view_is)

pub returns-clause-len : goal.returns-clause-len
returns-clause-len g c =
    ap length (returns-clause-list g c) ∙ length-append c.args.self.now.list (binary 64 c.args.number) ∙ ap (λ k. length c.args.self.now.list + k) (length-binary 64 c.args.number)

pub returns-in-Err-push_block-clause-full : goal.returns-in-Err-push_block-clause-full
returns-in-Err-push_block-clause-full g c =
    let i = c.self.inside in
    let w = g.T.BitStore.BITS in
    let all : length c.args.self.now.list ≡ w * length i.words.items = ap (λ v. length v.list) (sym c.self.view_is) ∙ length-written_row g.T.BitStore g.O.BitOrder i.late i.words.items in
    let capacity : c.args.self.now.capacity ≡ bits_in w (vec_capacity i.words) 0 = ap (λ v. v.capacity) (sym c.self.view_is) in
    let same : w * length c.turn_in_vec.new.words.items ≡ w * length i.words.items = ap (λ n. w * n) c.turn_in_vec.ensures.size in
    let kept : w * vec_capacity c.turn_in_vec.new.words ≡ w * vec_capacity i.words = ap (λ n. w * n) c.turn_in_vec.ensures.capacity in
    let full = c.in-Err-push_block.ensures.full in
    omega arith

pub returns-in-Err-push_block-clause-unchanged : goal.returns-in-Err-push_block-clause-unchanged
returns-in-Err-push_block-clause-unchanged g c =
    none_late g.T.BitStore g.O.BitOrder c.push_block.new.words.items ∙ ap (row g.T.BitStore g.O.BitOrder) c.in-Err-push_block.ensures.unchanged
    ∙ c.turn_in_vec.ensures.bits ∙ ap (λ v. v.list) c.self.view_is
