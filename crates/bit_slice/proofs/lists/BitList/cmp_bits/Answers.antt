use Rattle.std.proofs.Common.{◌≡◌, ◌≤◌, length, min, cond, nat_cmp, sym, ◌∙◌, ap, arith}
use Rattle.std.specs.declared.cmp.Ordering.TheVariants.{Less, Greater}
use Rattle.bit_slice.proofs.Comparing.{by_difference, by_length}
use Rattle.bit_slice.specs.BitSlice.{list_of}
use Rattle.bit_slice.proofs.lists.BitList.cmp_bits.Goals as goal

pub returns-in-None : goal.returns-in-None
returns-in-None g c =
    rw (← c.as_bitslice-view.ensures.list) (
    let least : c.min-both.result ≡ min (length (list_of c.as_bitslice-view.result)) (length (list_of c.args.other)) = omega (arith, c.min-both.ensures, c.len.ensures.list, c.len-2.ensures.list) in
    c.cmp.ensures ∙ ap (λ n. nat_cmp n c.len-in-None-2.result) c.len-in-None.ensures.list ∙ ap (nat_cmp (length (list_of c.as_bitslice-view.result))) c.len-in-None-2.ensures.list
    ∙ sym (by_length (list_of c.as_bitslice-view.result) (list_of c.args.other) c.min-both.result least c.in-None.ensures))

pub returns-then-bit : goal.returns-then-bit
returns-then-bit g c =
    rw (← c.as_bitslice-view.ensures.list) (
    let low : c.min-both.result ≤ length (list_of c.as_bitslice-view.result) = omega (arith, c.min-both.ensures, c.len.ensures.list) in
    let few : c.min-both.result ≤ length (list_of c.args.other) = omega (arith, c.min-both.ensures, c.len-2.ensures.list) in
    ap (λ b. cond b Greater Less) (sym c.if-bit.true ∙ c.bit.ensures.value)
    ∙ sym (by_difference (list_of c.as_bitslice-view.result) (list_of c.args.other) c.min-both.result c.in-Some.k low few c.in-Some.ensures))

pub returns-else-bit : goal.returns-else-bit
returns-else-bit g c =
    rw (← c.as_bitslice-view.ensures.list) (
    let low : c.min-both.result ≤ length (list_of c.as_bitslice-view.result) = omega (arith, c.min-both.ensures, c.len.ensures.list) in
    let few : c.min-both.result ≤ length (list_of c.args.other) = omega (arith, c.min-both.ensures, c.len-2.ensures.list) in
    ap (λ b. cond b Greater Less) (sym c.if-bit.false ∙ c.bit.ensures.value)
    ∙ sym (by_difference (list_of c.as_bitslice-view.result) (list_of c.args.other) c.min-both.result c.in-Some.k low few c.in-Some.ensures))
