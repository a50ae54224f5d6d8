-- Items of a list read as a number: whether one of them is true, and its lowest bits cleared one by one.
use Rattle.std.proofs.Common.{◌≡◌, ◌≢◌, ℕ, ◌+◌, ◌-◌, ◌*◌, ◌/◌, ◌%◌, ◌^◌, ◌<◌, ◌≤◌, min, Bool, true, false, List, length, get_or, slice_range, w64, refl, sym, ◌∙◌, ap, inl, inr, arith, bit_and}
use Rattle.std.specs.Int.{trailing_zeros}
use Rattle.std.specs.Int.Count.{trailing_of_zero}
use Rattle.std.proofs.lemmas.Bool.{cases_lt, true≢false}
use Rattle.std.proofs.lemmas.List.{get_or_past, length-take, length-drop}
use Rattle.std.proofs.Math.Nat.{add-mod_right, add-mul-mod_self_right, mul-mod_left}
use Rattle.std.proofs.lemmas.Nat.{and_le_l, div-add-mod'}
use Rattle.bit_addressing.specs.Bits.{IsWidth, has_bit}
use Rattle.bit_addressing.specs.Row.{number_of}
use Rattle.bit_addressing.proofs.Chunks.{has_number, no_bits}
use Rattle.bit_rows.proofs.Lowest.{has_lowest, has_below_lowest, cleared_lowest, cleared_other}
use Rattle.bit_addressing.proofs.Words.{has_none}
use Rattle.bit_slice.proofs.Found.{item_of_part}
use Rattle.bit_slice.specs.Places.{BlocksFit, IsAbsent, IsChunk, IsChunkLeft}

-- two runs without a bit, one after the other
pub absent_joined : (bit : Bool) (xs : List Bool) (lo middle hi : ℕ) → IsAbsent bit xs lo middle → IsAbsent bit xs middle hi → IsAbsent bit xs lo hi
absent_joined bit xs lo middle hi first rest = record {
  each = λ j a b. elim (cases_lt j middle) [
    | inl l ↦ first.each j a l
    | inr l ↦ rest.each j l b
  ];
}

-- no item
pub chunk_none : (xs : List Bool) (at : ℕ) → IsChunk xs at at 0
chunk_none xs at =
    let end : at + 0 ≡ at = omega arith in
    record {
      ordered = omega arith;
      few = omega arith;
      number = no_bits xs at 0 refl ∙ ap (λ n. number_of (slice_range xs at n)) end;
    }

module _ (xs : List Bool) (lo hi chunk : ℕ) (is : IsChunk xs lo hi chunk) where
  size : length (slice_range xs lo hi) ≤ hi - lo
  size = simp (length-take, length-drop) (omega arith)

  bit_is : (k : ℕ) → k < hi - lo → has_bit chunk k ≡ get_or xs (lo + k) false
  bit_is k h = ap (λ n. has_bit n k) is.number ∙ has_number (slice_range xs lo hi) k ∙ item_of_part xs lo hi k h

  bit_past : (k : ℕ) → hi - lo ≤ k → has_bit chunk k ≡ false
  bit_past k h = ap (λ n. has_bit n k) is.number ∙ has_number (slice_range xs lo hi) k ∙ get_or_past (slice_range xs lo hi) k false (omega (arith, size))

  -- no bit is set, so no item is true
  pub chunk_absent : chunk ≡ 0 → IsAbsent true xs lo hi
  chunk_absent none = record {
    each = λ j a b.
        let e : lo + (j - lo) ≡ j = omega arith in
        ap (λ n. get_or xs n false) (sym e) ∙ sym (bit_is (j - lo) (omega arith)) ∙ ap (λ n. has_bit n (j - lo)) none ∙ has_none (j - lo);
  }

  -- none of the items was taken
  pub chunk_left : IsChunkLeft xs lo hi chunk
  chunk_left = record {
    ordered = is.ordered;
    few = is.few;
    same = λ k j set a b. bit_is j (omega arith);
    past = λ j h. bit_past j (omega arith);
  }

  -- no item is true up to that of the lowest bit
  pub none_before : chunk < 2 ^ 64 → IsAbsent true xs lo (min hi (lo + trailing_zeros w64 chunk))
  none_before fits = record {
    each = λ j a b.
        let e : lo + (j - lo) ≡ j = omega arith in
        ap (λ n. get_or xs n false) (sym e) ∙ sym (bit_is (j - lo) (omega arith)) ∙ has_below_lowest w64 chunk fits (j - lo) (omega arith);
  }

-- no item is left
pub none_left : (xs : List Bool) (at : ℕ) → IsChunkLeft xs at at 0
none_left xs at = chunk_left xs at at 0 (chunk_none xs at)

module _ (xs : List Bool) (lo hi chunk : ℕ) (is : IsChunkLeft xs lo hi chunk) where
  -- no bit is set
  pub next_at_end : chunk ≡ 0 → min hi (lo + trailing_zeros w64 chunk) ≡ hi
  next_at_end none =
      let all : trailing_zeros w64 chunk ≡ 64 = ap (trailing_zeros w64) none ∙ trailing_of_zero 64 in
      let few = is.few in
      omega arith

  module _ (some : chunk ≢ 0) (fits : chunk < 2 ^ 64) where
    abbrev z : ℕ
    z = trailing_zeros w64 chunk

    abbrev rest : ℕ
    rest = bit_and chunk (chunk - 1)

    -- the lowest bit is that of an item, which is true
    pub first_inside : lo + z < hi
    first_inside = elim (cases_lt (lo + z) hi) [
      | inl l ↦ l
      | inr l ↦ absurd (true≢false (sym (has_lowest w64 chunk fits some) ∙ is.past z l))
    ]

    -- the lowest one of a chunk is a one of the list
    pub first_set : get_or xs (lo + z) false ≡ true
    first_set = sym (is.same z z (has_lowest w64 chunk fits some) (omega arith) first_inside) ∙ has_lowest w64 chunk fits some

    set_after : (k : ℕ) → has_bit rest k ≡ true → z < k
    set_after k set = elim (cases_lt z k) [
      | inl l ↦ l
      | inr l ↦ absurd (true≢false (sym set ∙ elim (cases_lt k z) [
        | inl b ↦ cleared_other w64 chunk fits some k (omega arith) ∙ has_below_lowest w64 chunk fits k b
        | inr b ↦ let e : k ≡ z = omega arith in ap (has_bit rest) e ∙ cleared_lowest w64 chunk fits some
      ]))
    ]

    after_first : (j : ℕ) → z < j → lo + j < hi → has_bit rest j ≡ get_or xs (lo + j) false
    after_first j h inside = cleared_other w64 chunk fits some j (omega arith) ∙ is.same z j (has_lowest w64 chunk fits some) (omega arith) inside

    -- the lowest bit cleared
    pub chunk_after : IsChunkLeft xs lo hi rest
    chunk_after = record {
      ordered = is.ordered;
      few = is.few;
      same = λ k j set a b. let l = set_after k set in after_first j (omega arith) b;
      past = λ j h. let l = first_inside in cleared_other w64 chunk fits some j (omega arith) ∙ is.past j h;
    }

    small : rest < 2 ^ 64
    small = omega (arith, and_le_l chunk (chunk - 1))

    -- the next one of the chunk comes after the lowest
    pub next_after : lo + z + 1 ≤ min hi (lo + trailing_zeros w64 rest)
    next_after =
        let inside = first_inside in let few = is.few in
        elim (cases_lt 0 rest) [
          | inl more ↦ let l = set_after (trailing_zeros w64 rest) (has_lowest w64 rest small (omega arith)) in omega arith
          | inr none ↦
              let e : rest ≡ 0 = omega arith in
              let all : trailing_zeros w64 rest ≡ 64 = ap (trailing_zeros w64) e ∙ trailing_of_zero 64 in
              omega arith
        ]

    -- no item is true from there up to that of the next bit
    pub none_until : IsAbsent true xs (lo + z + 1) (min hi (lo + trailing_zeros w64 rest))
    none_until = record {
      each = λ j a b.
          let e : lo + (j - lo) ≡ j = omega arith in
          ap (λ n. get_or xs n false) (sym e) ∙ sym (after_first (j - lo) (omega arith) (omega arith)) ∙ has_below_lowest w64 rest small (j - lo) (omega arith);
    }

-- where a block of 64 bits begins, a word does
pub word_begins : (w at : ℕ) → IsWidth w → at % 64 ≡ 0 → at % w ≡ 0
word_begins w at wide begins =
    let whole : 64 / w * w ≡ 64 = elim wide [
      | inl e ↦ rw e refl
      | inr (inl e) ↦ rw e refl
      | inr (inr (inl e)) ↦ rw e refl
      | inr (inr (inr e)) ↦ rw e refl
    ] in
    let split = div-add-mod' at 64 in
    let blocks : at ≡ at / 64 * 64 = omega (arith, split, begins) in
    let words : at / 64 * 64 ≡ at / 64 * (64 / w) * w = ap (λ n. at / 64 * n) (sym whole) ∙ grind arith in
    ap (λ n. n % w) (blocks ∙ words) ∙ mul-mod_left (at / 64 * (64 / w)) w

-- the index after a block
pub edge_later : (head at : ℕ) → (head + at) % 64 ≡ 0 → (head + (at + 64)) % 64 ≡ 0
edge_later head at begins =
    let next : head + (at + 64) ≡ head + at + 64 = omega arith in
    ap (λ n. n % 64) next ∙ add-mod_right (head + at) 64 ∙ begins

module _ (head lo hi end : ℕ) (fit : BlocksFit head lo hi end) where
  -- a block is whole
  pub block_ends : lo < end → lo + 64 ≤ end
  block_ends more =
      let edges = fit.blocks more in
      let first = div-add-mod' (head + lo) 64 in
      let last = div-add-mod' (head + end) 64 in
      omega (arith, first, last, edges.0, edges.1, more)

  -- the blocks after a later index
  pub blocks_after : (at : ℕ) → lo ≤ at → (at < hi → (head + at) % 64 ≡ 0) → BlocksFit head at hi end
  blocks_after at later edge = record {
    inside = fit.inside;
    blocks = λ more.
        let inside = fit.inside in
        (edge (omega (arith, inside, more)), (fit.blocks (omega (arith, later, more))).1);
  }

-- the blocks of a list that begins with one
pub all_blocks : (head len : ℕ) → head % 64 ≡ 0 → BlocksFit head 0 len (len / 64 * 64)
all_blocks head len begins =
    let split = div-add-mod' len 64 in
    let first : head + 0 ≡ head = omega arith in
    record {
      inside = omega (arith, split);
      blocks = λ more. (ap (λ n. n % 64) first ∙ begins, add-mul-mod_self_right head (len / 64) 64 ∙ begins);
    }
