-- Digits in reverse, and numbers whose least significant digit comes first.
use Rattle.std.proofs.Common.{◌≡◌, ℕ, ◌+◌, ◌^◌, ◌<◌, ◌≤◌, Bool, List, ◌++◌, length, take, drop, sym, ◌∙◌, ap, arith}
use Rattle.std.proofs.lemmas.List.{drop_at, length-append}
use Rattle.bit_addressing.specs.Row.{number_bits, number_of}
use Rattle.bit_rows.proofs.Binary.{length-number_bits}
use Rattle.bit_slice.proofs.Signed.{number_of_bits}
use Rattle.bit_streams.proofs.Lists.{take_front}

-- a list begins with the digits of one number, and what follows them is one list
pub bits_unique : (n x y : ℕ) (xs ys : List Bool) → n ≤ 64 → x < 2 ^ n → y < 2 ^ n → number_bits x n ++ xs ≡ number_bits y n ++ ys → (x ≡ y) × (xs ≡ ys)
bits_unique n x y xs ys few below_x below_y e =
    let long_x = length-number_bits x n in
    let long_y = length-number_bits y n in
    let digits : number_bits x n ≡ number_bits y n = sym (take_front n (number_bits x n) xs long_x) ∙ ap (take n) e ∙ take_front n (number_bits y n) ys long_y in (
      number_of_bits n x few below_x ∙ ap number_of digits ∙ sym (number_of_bits n y few below_y),
      sym (drop_at (number_bits x n) xs n long_x) ∙ ap (drop n) e ∙ drop_at (number_bits y n) ys n long_y,
    )

-- a list that begins with n bits of a number has at least n items
pub has_bits : (n x : ℕ) (xs more : List Bool) → xs ≡ number_bits x n ++ more → n ≤ length xs
has_bits n x xs more e =
    let long = length-number_bits x n in
    let all : length xs ≡ length (number_bits x n) + length more = ap length e ∙ length-append (number_bits x n) more in
    omega arith
