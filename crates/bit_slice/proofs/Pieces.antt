-- The first and the last of the parts that are left, and how many there are.
use Rattle.std.proofs.Common.{◌≡◌, ℕ, suc, ◌+◌, ◌-◌, ◌*◌, ◌/◌, ◌<◌, ◌≤◌, [], ◌∷◌, ◌++◌, length, length-append, map, refl, sym, ◌∙◌, ap, inl, inr, arith}
use Rattle.std.specs.List.{range_with_len}
use Rattle.std.proofs.lemmas.Bool.{cases_lt}
use Rattle.std.proofs.lemmas.List.FromFn.{map-range_with_len_more}
use Rattle.std.proofs.lemmas.Nat.{div-add-mod'}
use Rattle.std.proofs.Math.Nat.{div-mul-le_self}
use Rattle.bit_addressing.proofs.Runs.{mul_mono}
use Rattle.bit_addressing.proofs.lists.Sized.{one_more_word}
use Rattle.bit_slice.specs.Pieces.{chunk_count}

-- a part that is whole lies in the list
pub whole_inside : (len size k : ℕ) → k < len / size → k * size + size ≤ len
whole_inside len size k below =
    let most = mul_mono (k + 1) (len / size) size (omega arith) in
    let all = div-mul-le_self len size in
    let next = one_more_word k size in
    omega arith

-- a part that may be shorter begins in the list
pub begins_inside : (len size k : ℕ) → 0 < size → k < chunk_count len size → k * size < len
begins_inside len size k some below = elim (cases_lt k (len / size)) [
  | inl whole ↦ let inside = whole_inside len size k whole in omega arith
  | inr last ↦
      let e : k * size ≡ len / size * size = ap (λ n. n * size) (omega arith) in
      let split = div-add-mod' len size in
      omega (arith, e, split)
]

module _ {X : Type 0} (f : ℕ → X) (from upto : ℕ) (some : from < upto) where
  -- the parts that are left are those before the last, and the last
  pub part_last : map f (range_with_len from (upto - from)) ≡ map f (range_with_len from (upto - 1 - from)) ++ f (upto - 1) ∷ []
  part_last =
      let e : upto - from ≡ upto - 1 - from + 1 = omega arith in
      ap (λ n. map f (range_with_len from n)) e ∙ map-range_with_len_more f from (upto - 1 - from) (upto - 1) (omega arith)

  -- the parts that are left end with what equals the last
  pub part_ends : (last : X) → last ≡ f (upto - 1) → map f (range_with_len from (upto - from)) ≡ map f (range_with_len from (upto - 1 - from)) ++ last ∷ []
  part_ends last is = part_last ∙ ap (λ l. map f (range_with_len from (upto - 1 - from)) ++ l ∷ []) (sym is)

  -- the parts before the last are fewer than those that are left
  pub part_fewer : length (map f (range_with_len from (upto - 1 - from))) < length (map f (range_with_len from (upto - from)))
  part_fewer =
      let size = ap length part_last ∙ length-append (map f (range_with_len from (upto - 1 - from))) (f (upto - 1) ∷ []) in
      omega (arith, size)

  -- the parts that are left are what equals the first, and those after it
  pub part_begins : (first : X) → first ≡ f from → map f (range_with_len from (upto - from)) ≡ first ∷ map f (range_with_len (from + 1) (upto - (from + 1)))
  part_begins first is =
      let e : upto - from ≡ suc (upto - (from + 1)) = omega arith in
      ap (λ n. map f (range_with_len from n)) e ∙ ap (λ l. l ∷ map f (range_with_len (from + 1) (upto - (from + 1)))) (sym is)

  -- the parts after the first are fewer than those that are left
  pub part_shorter : length (map f (range_with_len (from + 1) (upto - (from + 1)))) < length (map f (range_with_len from (upto - from)))
  part_shorter =
      let size = ap length (part_begins (f from) refl) in
      omega (arith, size)
