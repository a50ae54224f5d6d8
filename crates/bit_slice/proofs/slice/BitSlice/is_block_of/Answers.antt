use Rattle.std.proofs.Common.{◌≡◌, ℕ, ◌+◌, ◌-◌, ◌*◌, ◌/◌, ◌%◌, ◌^◌, ◌<◌, if◌then◌else◌, replicate, get_or, slice_range, false, inr, refl, sym, ◌∙◌, ap, arith}
use Rattle.std.proofs.Math.Nat.{div-add-mod}
use Rattle.std.proofs.lemmas.Bool.{eqb-true}
use Rattle.std.proofs.lemmas.List.{get_or-replicate}
use Rattle.bit_addressing.proofs.Rows.{row_repeated}
use Rattle.bit_addressing.proofs.lists.Shown.{get_or-run}
use Rattle.bit_rows.proofs.Finds.{equal_bits}
use Rattle.bit_slice.specs.BitSlice.{list_of}
use Rattle.bit_slice.proofs.BitRuns.{not_not}
use Rattle.bit_slice.proofs.Chunked.{word_begins}
use Rattle.bit_slice.proofs.Writing.{chunk_of_list}
use Rattle.bit_slice.proofs.slice.BitSlice.is_block_of.Goals as goal
use Rattle.bit_slice.proofs.slice.BitSlice.is_block_of.Goals.{then-bit, else-bit}

pub returns : goal.returns
returns g c told =
    let w = g.T.BitStore.BITS in
    let place = g.O.BitOrder.place in
    let v = c.args.self in
    let at = c.args.at in
    let bit = c.args.bit in
    let xs = list_of v in
    let block = c.pack.result in
    let from : ℕ = v.head + at in
    let wide : c.BITS.result ≡ w = c.BITS.ensures in
    let edge : from % w ≡ 0 = word_begins w from g.met.T.BitStore.width c.requires.begins in
    let begins : from / w * w ≡ from = let parts = div-add-mod from w in omega (arith, edge, parts) in
    let same : block ≡ c.if-bit.all = eqb-true block c.if-bit.all told in
    let is : block ≡ (if bit then 2 ^ 64 - 1 else 0) = elim c.if-bit.branch [
      | then-bit b ↦ rw b.if-bit.true (same ∙ b.all-is)
      | else-bit b ↦ rw b.if-bit.false (same ∙ b.all-is)
    ] in
    let read = rw (wide, begins) at c.pack.ensures in
    let run : slice_range xs at (at + 64) ≡ replicate 64 bit =
    sym (chunk_of_list g.T.BitStore g.O.BitOrder v at 64 c.requires.inside) ∙ sym read
    ∙ row_repeated place 64 block bit (omega arith) (g.met.O.BitOrder.lawful 64 (inr (inr (inr refl)))) (λ p h. equal_bits bit block p is h) in
    record {
      each = λ j a b.
          let e : at + (j - at) ≡ j = omega arith in
          let below : j - at < 64 = omega arith in
          ap (λ n. get_or xs n false) (sym e) ∙ sym (get_or-run xs at 64 (j - at) below) ∙ ap (λ l. get_or l (j - at) false) run
          ∙ get_or-replicate 64 (j - at) bit false below ∙ sym (not_not bit);
    }
