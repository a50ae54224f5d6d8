-- Matrices made row by row.
use Rattle.std.proofs.Common.{◌≡◌, ℕ, suc, ◌+◌, ◌<◌, List, [], ◌∷◌, length, get_or, map, refl, ◌∙◌, ap, arith}
use Rattle.std.specs.List.{range_with_len}

-- numbers and items that are mapped to the same
pub same_maps : {X Y : Type 0} (f : ℕ → Y) (g : X → Y) (xs : List X) (a : ℕ) → ((k : ℕ) (d : X) → k < length xs → f (a + k) ≡ g (get_or xs k d)) → map f (range_with_len a (length xs)) ≡ map g xs
same_maps f g [] a same = refl
same_maps f g (x ∷ xs) a same =
    let first : a ≡ a + 0 = omega arith in
    ap (λ y. y ∷ map f (range_with_len (a + 1) (length xs))) (ap f first ∙ same 0 x (omega arith))
    ∙ ap (λ ys. g x ∷ ys) (same_maps f g xs (a + 1) (λ k d h. (let next : a + 1 + k ≡ a + suc k = omega arith in ap f next ∙ same (suc k) d (omega arith))))

-- rows, each as long as it should be, are those of a matrix that has them by number
pub rows_made : {X Y : Type 0} (f : ℕ → Y) (g : X → Y) (xs : List X) (n : ℕ) → n ≡ length xs → ((k : ℕ) (d : X) → k < length xs → f k ≡ g (get_or xs k d)) → map f (range_with_len 0 n) ≡ map g xs
rows_made f g xs n all same = ap (λ k. map f (range_with_len 0 k)) all ∙ same_maps f g xs 0 (λ k d h. (let at : 0 + k ≡ k = omega arith in ap f at ∙ same k d h))
