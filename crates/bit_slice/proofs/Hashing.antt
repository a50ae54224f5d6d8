-- What a hasher is fed, some bits after others.
use Rattle.std.proofs.Common.{◌≡◌, ℕ, ◌+◌, ◌-◌, ◌≤◌, Bool, List, [], ◌∷◌, ◌++◌, length, take, drop, slice_range, sym, ◌∙◌, ap, arith}
use Rattle.std.proofs.Math.Seq.{take-add}
use Rattle.std.proofs.lemmas.List.Sums.{fold-append}
use Rattle.std.proofs.lemmas.Grind.{flat_map-append}
use Rattle.std.specs.Hash as fed
use Rattle.std.specs.List.{fold}
use Rattle.bit_addressing.specs.Bits.{has_bit}
use Rattle.bit_addressing.specs.Row.{number_bits, number_of}
use Rattle.bit_addressing.proofs.Words.{has_shr_low}
use Rattle.bit_addressing.proofs.lists.Shown.{length-run}
use Rattle.bit_rows.proofs.Grown.{number_bits_parted}
use Rattle.bit_slice.specs.Comparisons.{bits_fed}
use Rattle.bit_slice.proofs.Writing.{bits_of_number}

-- bits that are fed after others are fed with them
pub fed_after : {S : Type 0} (write : S → List ℕ → S) (s t : S) (xs ys : List Bool) → t ≡ fold write s (bits_fed xs) → fold write t (bits_fed ys) ≡ fold write s (bits_fed (xs ++ ys))
fed_after write s t xs ys is =
    ap (λ u. fold write u (bits_fed ys)) is
    ∙ sym (ap (fold write s) (flat_map-append fed.bool xs ys) ∙ fold-append write s (bits_fed xs) (bits_fed ys))

-- one lowest bit more
pub one_more : (x i : ℕ) → number_bits x i ++ has_bit x i ∷ [] ≡ number_bits x (i + 1)
unfolding number_bits
one_more x i =
    let place : 0 + i ≡ i = omega arith in
    let bit = has_shr_low x i 0 ∙ ap (has_bit x) place in
    sym (ap (λ b. number_bits x i ++ b ∷ []) bit) ∙ number_bits_parted x i 1 (i + 1) (omega arith)

-- a number's bits are fed after the items before them
pub fed_range : {S : Type 0} (write : S → List ℕ → S) (s t : S) (xs : List Bool) (at n chunk : ℕ) → at + n ≤ length xs → t ≡ fold write s (bits_fed (take at xs)) → chunk ≡ number_of (slice_range xs at (at + n)) → fold write t (bits_fed (number_bits chunk n)) ≡ fold write s (bits_fed (take (at + n) xs))
fed_range write s t xs at n chunk room fed is =
    let run : List Bool = slice_range xs at (at + n) in
    let size : at + n - at ≡ n = omega arith in
    let bits : number_bits chunk n ≡ run = ap (λ x. number_bits x n) is ∙ bits_of_number run n (length-run xs at n room) in
    ap (λ l. fold write t (bits_fed l)) bits
    ∙ fed_after write s t (take at xs) run fed
    ∙ ap (λ l. fold write s (bits_fed l)) (ap (λ k. take at xs ++ take k (drop at xs)) size ∙ sym (take-add at n xs))
