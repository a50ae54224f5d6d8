use Rattle.std.proofs.Common.{◌≡◌, ℕ, ◌+◌, ◌-◌, ◌*◌, ◌^◌, min, length, slice_range, sym, ◌∙◌, ap, arith, mul_comm}
use Rattle.bit_addressing.specs.Row.{words_for}
use Rattle.bit_addressing.specs.Typed.{row}
use Rattle.bit_addressing.proofs.lists.Sized.{words_for_all}
use Rattle.bit_addressing.proofs.Rows.{width_positive}
use Rattle.bit_addressing.proofs.Typed.{length_row}
use Rattle.bit_slice.proofs.Shown.{shown_all}
use Rattle.bit_array.specs.Errors.{UnequalLen}
use Rattle.bit_array.proofs.array.traits.BitArrayTryFromBitSliceStore.try_from.Goals as goal

-- the bits of an array, by what the calls say of its words
product_is : (count bits w n : ℕ) → count ≡ n → bits ≡ w → count * bits ≡ w * n
product_is count bits w n p q = ap (λ k. k * bits) p ∙ ap (λ k. n * k) q ∙ mul_comm n w

pub new-requires : goal.new-requires
new-requires g c =
    let product = product_is _ _ _ _ c.count.ensures c.BITS.ensures in
    omega (arith, product, c.saturating_mul-expected.ensures, c.if-len-expected.false, c.len.ensures.few)

pub returns-then-len-expected : goal.returns-then-len-expected
returns-then-len-expected g c =
    let most = c.saturating_mul-expected.ensures ∙ ap (λ k. min k (2 ^ 64 - 1)) (product_is _ _ _ _ c.count.ensures c.BITS.ensures) in (
      λ _. c.unequal.ensures ∙ ap (λ k. UnequalLen k c.saturating_mul-expected.result) c.len-then-len-expected.ensures.value ∙ ap (UnequalLen c.args.view.len) most,
      λ same. absurd (c.if-len-expected.true (c.len.ensures.value ∙ same ∙ sym most)),
    )

pub copy_from_slice-requires : goal.copy_from_slice-requires
copy_from_slice-requires g c =
    let v = c.args.view in
    let w = g.A.Store.BitStore.BITS in
    let n = g.A.BitWords.count in
    let product : c.count.result * c.BITS.result ≡ w * n = product_is _ _ _ _ c.count.ensures c.BITS.ensures in
    let len : v.len ≡ w * n = omega (arith, c.if-len-expected.false, c.len.ensures.value, c.len.ensures.few, c.saturating_mul-expected.ensures, product) in
    let head : v.head ≡ 0 = omega (arith, c.if-head-ne0.false, c.head.ensures.value) in
    let bits : v.head + v.len ≡ w * n = omega (arith, len, head) in
    c.as_raw_mut_slice.ensures.len ∙ words_for_all w n (width_positive w g.met.A.Store.BitStore.width) ∙ ap (words_for w) (sym bits) ∙ sym c.as_raw_slice.ensures.exact

pub returns : goal.returns
returns g c =
    let v = c.args.view in
    let w = g.A.Store.BitStore.BITS in
    let n = g.A.BitWords.count in
    let product : c.count.result * c.BITS.result ≡ w * n = product_is _ _ _ _ c.count.ensures c.BITS.ensures in
    let len : v.len ≡ w * n = omega (arith, c.if-len-expected.false, c.len.ensures.value, c.len.ensures.few, c.saturating_mul-expected.ensures, product) in
    let head : v.head ≡ 0 = omega (arith, c.if-head-ne0.false, c.head.ensures.value) in
    let copied : c.copy_from_slice.new.self ≡ v.words.now = c.copy_from_slice.ensures.after ∙ c.as_raw_slice.ensures.words in
    let count : length c.copy_from_slice.new.self ≡ n = c.copy_from_slice.ensures.len ∙ c.as_raw_mut_slice.ensures.len in
    let words : g.A.BitWords.words c.new.result ≡ v.words.now = ap g.A.BitWords.words c.new.ensures.value ∙ g.met.A.BitViewSized.kept c.zero-inner.result c.copy_from_slice.new.self count ∙ copied in
    let long : length (row g.A.Store.BitStore g.O.BitOrder v.words.now) ≡ w * n = length_row g.A.Store.BitStore.value g.O.BitOrder.place w v.words.now ∙ ap (λ ws. w * length ws) (sym copied) ∙ ap (λ k. w * k) count in (
      len,
      head,
      words,
      ap (row g.A.Store.BitStore g.O.BitOrder) words
          ∙ sym (shown_all (row g.A.Store.BitStore g.O.BitOrder v.words.now) v.len (len ∙ sym long))
          ∙ ap (λ h. slice_range (row g.A.Store.BitStore g.O.BitOrder v.words.now) h (h + v.len)) (sym head),
    )
