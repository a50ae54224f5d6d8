-- Numbers in two's complement among those of records.
use Rattle.std.proofs.Common.{◌≡◌, ℕ, ◌%◌, ◌^◌, ◌<◌, ◌≤◌, List, [], ◌∷◌, ◌++◌, map, set, ◌∙◌, ap}
use Rattle.std.specs.Prelude.{ℤ}
use Rattle.std.specs.Int.{w64, cast_unsigned}
use Rattle.std.proofs.lemmas.List.{map-append, map-set}
use Rattle.bit_slice.specs.Signed.{IsSigned, signed_of}
use Rattle.bit_slice.proofs.Signed.{signed_back}

module _ (w v low : ℕ) (x : ℤ) (some : 0 < w) (few : w ≤ 64) (fits : IsSigned w x) (is : low ≡ cast_unsigned w64 x % 2 ^ w) (same : v ≡ w) where
  -- the digits of one number more
  pub signed_pushed : (xs ys : List ℕ) → ys ≡ xs ++ low ∷ [] → map (signed_of v) ys ≡ map (signed_of w) xs ++ x ∷ []
  signed_pushed xs ys e =
      ap (λ k. map (signed_of k) ys) same ∙ ap (map (signed_of w)) e ∙ map-append (signed_of w) xs (low ∷ [])
      ∙ ap (λ n. map (signed_of w) xs ++ n ∷ []) (ap (signed_of w) is ∙ signed_back w x some few fits)

  -- the digits of a number written over
  pub signed_set : (xs ys : List ℕ) (i : ℕ) → ys ≡ set xs i low → map (signed_of v) ys ≡ set (map (signed_of w) xs) i x
  signed_set xs ys i e =
      ap (λ k. map (signed_of k) ys) same ∙ ap (map (signed_of w)) e ∙ map-set (signed_of w) xs i low
      ∙ ap (set (map (signed_of w) xs) i) (ap (signed_of w) is ∙ signed_back w x some few fits)
