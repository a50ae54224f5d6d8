use Rattle.std.proofs.Common.{◌≡◌, ℕ, ◌+◌, ◌-◌, ◌*◌, ◌/◌, ◌%◌, ◌<◌, ◌≤◌, Bool, List, drop, length, map, slice_range, take, sym, ◌∙◌, ap, arith, rules}
use Rattle.std.proofs.lemmas.List.{drop-map, length-map, places, same_lists, take-map}
use Rattle.std.proofs.lemmas.Nat.{div-add-mod'}
use Rattle.std.proofs.Math.Nat.{le_of_mul-le-mul_left}
use Rattle.std.proofs.Common.{mul_comm}
use Rattle.bit_addressing.specs.Row.{row_of}
use Rattle.bit_addressing.specs.Typed.{row}
use Rattle.bit_addressing.proofs.Rows.{row_take, width_positive}
use Rattle.bit_addressing.proofs.Typed.{length_row}
use Rattle.bit_slice.proofs.Parts.{row_drop}
use Rattle.bit_slice.proofs.run.split_run_mut.Goals as goal

-- a run of a front, and one from an index on
run_of_front : (xs : List Bool) (n from at : ℕ) → from ≤ at → at ≤ n → n ≤ length xs → slice_range (take n xs) from at ≡ slice_range xs from at
run_of_front xs n from at a b c = same_lists _ _ (search (rules, places)) (λ i d below. grind (arith, places))

run_from : (xs : List Bool) (n m : ℕ) → n + m ≤ length xs → slice_range (drop n xs) 0 m ≡ slice_range xs n (n + m)
run_from xs n m h = same_lists _ _ (search (rules, places)) (λ i d below. grind (arith, places))

-- an index at which a word begins
edge : (w at n : ℕ) → 0 < w → at % w ≡ 0 → at ≤ w * n → (w * (at / w) ≡ at) × (at / w ≤ n)
edge w at n positive begins within =
    let d = div-add-mod' at w in
    let m = mul_comm w (at / w) in
    let is : w * (at / w) ≡ at = omega arith in
    let below : w * (at / w) ≤ w * n = omega arith in
    (is, le_of_mul-le-mul_left below positive)

pub returns-clause-left : goal.returns-clause-left
returns-clause-left g c =
    let W = g.T.BitStore in
    let P = g.O.BitOrder in
    let ws = c.args.words.now in
    let positive = width_positive W.BITS g.met.T.BitStore.width in
    let e = edge W.BITS c.args.at (length ws) positive c.requires.edge (omega (arith, c.requires.after, c.requires.inside)) in
    let size = length_row W.value P.place W.BITS ws in
    let cut : row W P c.split_at_mut-left.result.0.now ≡ take (W.BITS * (c.args.at / W.BITS)) (row W P ws) =
    ap (row W P) (c.split_at_mut-left.ensures.front ∙ ap (λ k. take (c.args.at / k) ws) c.BITS.ensures)
    ∙ ap (λ l. row_of P.place W.BITS l) (sym (take-map W.value (c.args.at / W.BITS) ws))
    ∙ row_take P.place W.BITS (c.args.at / W.BITS) (map W.value ws) positive (rw length-map e.1) in
    c.run_mut.ensures.list ∙ ap (λ r. slice_range r c.args.from c.args.at) cut
    ∙ run_of_front (row W P ws) (W.BITS * (c.args.at / W.BITS)) c.args.from c.args.at c.requires.ordered (omega (arith, e.0)) (omega (arith, e.0, size, c.requires.after, c.requires.inside))

pub returns-clause-right : goal.returns-clause-right
returns-clause-right g c =
    let W = g.T.BitStore in
    let P = g.O.BitOrder in
    let ws = c.args.words.now in
    let positive = width_positive W.BITS g.met.T.BitStore.width in
    let e = edge W.BITS c.args.at (length ws) positive c.requires.edge (omega (arith, c.requires.after, c.requires.inside)) in
    let size = length_row W.value P.place W.BITS ws in
    let cut : row W P c.split_at_mut-left.result.1.now ≡ drop (W.BITS * (c.args.at / W.BITS)) (row W P ws) =
    ap (row W P) (c.split_at_mut-left.ensures.back ∙ ap (λ k. drop (c.args.at / k) ws) c.BITS.ensures)
    ∙ ap (λ l. row_of P.place W.BITS l) (sym (drop-map W.value (c.args.at / W.BITS) ws))
    ∙ row_drop P.place W.BITS (c.args.at / W.BITS) (map W.value ws) positive (rw length-map e.1) in
    let end : c.args.at + (c.args.upto - c.args.at) ≡ c.args.upto = omega (arith, c.requires.after) in
    c.run_mut-2.ensures.list ∙ ap (λ r. slice_range r 0 (c.args.upto - c.args.at)) cut
    ∙ ap (λ n. slice_range (drop n (row W P ws)) 0 (c.args.upto - c.args.at)) e.0
    ∙ run_from (row W P ws) c.args.at (c.args.upto - c.args.at) (omega (arith, size, c.requires.after, c.requires.inside))
    ∙ ap (slice_range (row W P ws) c.args.at) end
