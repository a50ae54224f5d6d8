use Rattle.std.proofs.Common.{◌≡◌, ℕ, ◌+◌, ◌*◌, Bool, false, List, get_or, length, slice_range, sym, ◌∙◌, ap, inl, inr, arith}
use Rattle.std.specs.Simd.Lanes.{zip2}
use Rattle.std.proofs.lemmas.Bool.{cases_lt}
use Rattle.std.proofs.lemmas.List.{get_or_past}
use Rattle.std.proofs.lemmas.Simd.{get_or-zip2, length-zip2}
use Rattle.std.proofs.lemmas.Grind.{common_steps}
use Rattle.bit_addressing.specs.Bits.{has_bit}
use Rattle.bit_addressing.specs.Typed.{row}
use Rattle.bit_addressing.proofs.Chunks.{has_number, number_from_bits}
use Rattle.bit_addressing.proofs.Typed.{length_row}
use Rattle.bit_addressing.proofs.lists.Shown.{length-run}
use Rattle.bit_rows.proofs.pairs.read_pair.Goals as goal

pub returns : goal.returns
returns g c =
    let f = g.F.BitOperator.made in
    let a = c.args.a.now in
    let b = c.args.b.now in
    let n = c.args.n in
    let x = c.read_chunk-old.result in
    let y = c.read_chunk-new.result in
    let xs = row g.T.BitStore g.O.BitOrder a in
    let ys = row g.U.BitStore g.P.BitOrder b in
    let size : length xs ≡ g.T.BitStore.BITS * length a = length_row g.T.BitStore.value g.O.BitOrder.place g.T.BitStore.BITS a in
    let other_size : length ys ≡ g.U.BitStore.BITS * length b = length_row g.U.BitStore.value g.P.BitOrder.place g.U.BitStore.BITS b in
    let sx : List Bool = slice_range xs c.args.i (c.args.i + n) in
    let sy : List Bool = slice_range ys c.args.j (c.args.j + n) in
    let one : length sx ≡ n = length-run xs c.args.i n (omega (arith, size, c.requires.first)) in
    let two : length sy ≡ n = length-run ys c.args.j n (omega (arith, other_size, c.requires.second)) in
    let long : length (zip2 f sx sy) ≡ n = length-zip2 f sx sy (one ∙ sym two) ∙ one in
    let old : (p : ℕ) → has_bit x p ≡ get_or sx p false = λ p. ap (λ m. has_bit m p) c.read_chunk-old.ensures ∙ has_number sx p in
    let new : (p : ℕ) → has_bit y p ≡ get_or sy p false = λ p. ap (λ m. has_bit m p) c.read_chunk-new.ensures ∙ has_number sy p in
    number_from_bits c.apply.result (zip2 f sx sy) c.apply.type_inv (omega (arith, long, c.requires.few)) (λ p h.
    c.apply.ensures p h ∙ ap (λ v. f v (has_bit y p)) (old p) ∙ ap (f (get_or sx p false)) (new p) ∙ elim (cases_lt p n) [
      | inl l ↦ sym (get_or-zip2 f sx sy p false false false (omega (arith, l, one)) (omega (arith, l, two)))
      | inr l ↦ ap (λ v. f v (get_or sy p false)) (get_or_past sx p false (omega (arith, l, one))) ∙ ap (f false) (get_or_past sy p false (omega (arith, l, two))) ∙ c.requires.quiet ∙ sym (get_or_past (zip2 f sx sy) p false (omega (arith, l, long)))
    ])

pub pair_short-requires-clause-second : goal.pair_short-requires-clause-second
pair_short-requires-clause-second g c = grind (arith, common_steps)

pub pair_short-requires-clause-first : goal.pair_short-requires-clause-first
pair_short-requires-clause-first g c = grind (arith, common_steps)
