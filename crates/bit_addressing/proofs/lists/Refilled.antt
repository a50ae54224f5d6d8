-- Lists of which a front, or all, is written over.
use Rattle.std.proofs.Common.{◌≡◌, ℕ, List, ◌++◌, length, take, drop, sym, ◌∙◌, ap, arith}
use Rattle.std.specs.List.{refill}
use Rattle.std.proofs.Math.Seq.{take-append_seam}
use Rattle.std.proofs.lemmas.List.{take-append-le, length-append, length-drop}

-- a whole list written over one of its length
pub refilled : {X : Type 0} (n : ℕ) (xs ws : List X) → length ws ≡ n → refill n xs ws ≡ ws
refilled n xs ws e = ap (λ (k : ℕ). take k (ws ++ drop (length ws) xs)) (sym e) ∙ take-append_seam ws (drop (length ws) xs)

-- what comes after a front that is written over stays, whether that is said or not
pub refilled_front : {X : Type 0} (n : ℕ) (xs ws : List X) → n ≡ length xs → refill n xs (ws ++ drop (length ws) xs) ≡ refill n xs ws
refilled_front {X = X} n xs ws e =
    let front : List X = ws ++ drop (length ws) xs in
    take-append-le n front (drop (length front) xs) (omega (arith, length-append ws (drop (length ws) xs), length-drop (length ws) xs))
