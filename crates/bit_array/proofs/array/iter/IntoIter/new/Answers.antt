use Rattle.std.proofs.Common.{◌≡◌, ◌*◌, ◌-◌, length, ◌∙◌, ap, sym, arith, mul_comm}
use Rattle.std.proofs.lemmas.List.{take_all}
use Rattle.bit_addressing.specs.Typed.{row}
use Rattle.bit_addressing.proofs.Typed.{length_row}
use Rattle.bit_slice.specs.Owned.{rest_of}
use Rattle.bit_slice.proofs.Owned.{gives_in_order, gives_in_reverse}
use Rattle.bit_array.proofs.array.iter.IntoIter.new.Goals as goal

pub returns-clause-runs : goal.returns-clause-runs
returns-clause-runs g c = gives_in_order rest_of

pub returns-clause-runs_back : goal.returns-clause-runs_back
returns-clause-runs_back g c = gives_in_reverse rest_of

pub returns-clause-list : goal.returns-clause-list
returns-clause-list g c =
    let w = g.A.Store.BitStore.BITS in
    let ws = g.A.BitWords.words c.args.array in
    let bits = row g.A.Store.BitStore g.O.BitOrder ws in
    let all = length c.as_raw_slice.result.now * c.BITS.result in
    let size : length bits ≡ all = length_row g.A.Store.BitStore.value g.O.BitOrder.place w ws ∙ ap (λ l. w * length l) (sym c.as_raw_slice.ensures.words) ∙ mul_comm w (length c.as_raw_slice.result.now) ∙ ap (λ k. length c.as_raw_slice.result.now * k) (sym c.BITS.ensures) in
    take_all (all - 0) bits (omega (arith, size))

pub returns-clause-len : goal.returns-clause-len
returns-clause-len g c =
    ap length (returns-clause-list g c)
    ∙ length_row g.A.Store.BitStore.value g.O.BitOrder.place g.A.Store.BitStore.BITS (g.A.BitWords.words c.args.array)
    ∙ ap (λ l. g.A.Store.BitStore.BITS * length l) (sym c.as_raw_slice.ensures.words)
    ∙ ap (λ n. g.A.Store.BitStore.BITS * n) c.as_raw_slice.ensures.len
