-- What the trait's laws say of an array.
use Rattle.std.specs.Prelude.{◌≡◌, ℕ, ◌+◌, ◌*◌, List, length, map, slice_range}
use Rattle.std.proofs.Common.{◌-◌, arith, ap, sym}
use Rattle.std.proofs.lemmas.List.{take_all}
use Rattle.bit_addressing.specs.Row.{row_of}
use Rattle.bit_addressing.proofs.Typed.{length_row}

-- all bits of the words are shown
pub whole_shown : {X : Type 0} (value : X → ℕ) (place : ℕ → ℕ → ℕ) (w : ℕ) (ws : List X) (n : ℕ) → length ws ≡ n → row_of place w (map value ws) ≡ slice_range (row_of place w (map value ws)) 0 (0 + w * n)
whole_shown value place w ws n e =
    let size = length_row value place w ws in
    let all : w * length ws ≡ w * n = ap (λ k. w * k) e in
    sym (take_all (0 + w * n - 0) (row_of place w (map value ws)) (omega (arith, size, all)))
