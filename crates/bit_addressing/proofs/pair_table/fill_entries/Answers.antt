use Rattle.std.proofs.Common.{ℕ, ◌+◌, ◌*◌, refl, arith, rules, bit_or}
use Rattle.bit_addressing.specs.Table.{IsEntry}
use Rattle.bit_addressing.proofs.Tables.{entry_more}
use Rattle.bit_addressing.proofs.Words.{has_or}
use Rattle.bit_addressing.proofs.pair_table.fill_entries.Goals as goal

pub loop-v-preserved : goal.loop-v-preserved
loop-v-preserved c =
    let k = c.loop-k.k in
    let v = c.loop-v.v in
    let first = c.column_if.result in
    let second = c.column_if-in-loop-v.result in
    let third = c.column_if-in-loop-v-2.result in
    let fourth = c.column_if-in-loop-v-3.result in
    let new : ℕ = bit_or (bit_or (bit_or first second) third) fourth in
    let made : IsEntry c.args.columns.now k v new = λ q. rw (has_or (bit_or (bit_or first second) third) fourth q, has_or (bit_or first second) third q, has_or first second q, c.column_if.ensures q, c.column_if-in-loop-v.ensures q, c.column_if-in-loop-v-2.ensures q, c.column_if-in-loop-v-3.ensures q) refl in
    record {
      size = search rules;
      bits = λ f u h below. entry_more c.args.columns.now c.loop-v.entries k v (k * 16 + v) new refl (omega arith) (omega arith) made c.loop-v.invariant.bits f u h (omega arith);
    }

pub loop-v-init : goal.loop-v-init
loop-v-init c = record { size = c.loop-k.invariant.size; bits = λ f u h below. c.loop-k.invariant.bits f u h (omega arith) }

pub loop-k-preserved : goal.loop-k-preserved
loop-k-preserved c = record { size = c.loop-v.invariant.size; bits = λ f u h below. c.loop-v.invariant.bits f u h (omega arith) }

pub returns : goal.returns
returns c = λ k v h below. c.loop-k.invariant.bits k v below (omega arith)
