-- Blocks of 64 bits out of two that follow each other.
use Rattle.std.proofs.Common.{◌≡◌, ℕ, ◌+◌, ◌-◌, ◌*◌, ◌/◌, ◌%◌, ◌<◌, ◌≤◌, Bool, false, List, [], ◌∷◌, length, get_or, slice_range, refl, sym, ◌∙◌, ap, subst, inl, inr, arith, mul_comm}
use Rattle.std.proofs.lemmas.Bool.{cases_lt}
use Rattle.std.proofs.lemmas.List.{ext_get_or}
use Rattle.std.proofs.lemmas.Nat.{div-add-mod'}
use Rattle.bit_addressing.specs.Bits.{has_bit, IsWidth}
use Rattle.bit_addressing.specs.Row.{row_bit, row_of}
use Rattle.bit_addressing.proofs.lists.Shown.{get_or-run}
use Rattle.bit_addressing.proofs.Packs.{pack_fills, row_from}
use Rattle.bit_addressing.proofs.Runs.{inside_words, mul_mono}
use Rattle.bit_addressing.proofs.lists.Sized.{right_sum}
use Rattle.bit_addressing.proofs.Rows.{length-row_of, get_or-row_one}
use Rattle.bit_addressing.proofs.Windows.{first_of_two, second_of_two}

-- a bit of a block that stands in a list from place a on
pub block_bit : (place : ℕ → ℕ → ℕ) (v a i : ℕ) (zs : List Bool) → i < 64 → row_of place 64 (v ∷ []) ≡ slice_range zs a (a + 64) → has_bit v (place 64 i) ≡ get_or zs (a + i) false
block_bit place v a i zs h is = sym (get_or-row_one place 64 v i (omega arith) h) ∙ ap (λ l. get_or l i false) is ∙ get_or-run zs a 64 i h

-- a window over two blocks, put into another order
pub block_is : (place other : ℕ → ℕ → ℕ) (low high word mid out a b skip : ℕ) (zs : List Bool) → skip < 64 → b ≡ a + 64 → a + 128 ≤ length zs
    → row_of place 64 (low ∷ []) ≡ slice_range zs a (a + 64) → row_of place 64 (high ∷ []) ≡ slice_range zs b (b + 64)
    → ((i : ℕ) → i < 64 → has_bit word (place 64 i) ≡ row_bit place 64 (low ∷ high ∷ []) (skip + i)) → ((i : ℕ) → i < 64 → has_bit mid i ≡ has_bit word (place 64 i)) → ((i : ℕ) → i < 64 → has_bit out (other 64 i) ≡ has_bit mid i)
    → row_of other 64 (out ∷ []) ≡ slice_range zs (a + skip) (a + skip + 64)
block_is place other low high word mid out a b skip zs within next inside is_low is_high window plain ordered =
    row_from other 64 out (a + skip) zs (omega arith) (omega arith)
    (λ i h. ordered i h ∙ plain i h ∙ window i h ∙ elim (cases_lt (skip + i) 64) [
      | inl l ↦ let at : a + (skip + i) ≡ a + skip + i = omega arith in first_of_two place 64 low high (skip + i) l ∙ block_bit place low a (skip + i) zs l is_low ∙ ap (λ n. get_or zs n false) at
      | inr l ↦
          let at : b + (skip + i - 64) ≡ a + skip + i = omega arith in
          second_of_two place 64 low high (skip + i) l (omega arith) ∙ block_bit place high b (skip + i - 64) zs (omega arith) is_high ∙ ap (λ n. get_or zs n false) at
    ])

-- the same bits in a word as in a block
pub block_as_word : (place : ℕ → ℕ → ℕ) (w v block : ℕ) → w ≡ 64 → ((p : ℕ) → p < w → has_bit v p ≡ has_bit block p) → ((i : ℕ) → i < w → place w i < w) → row_of place w (v ∷ []) ≡ row_of place 64 (block ∷ [])
block_as_word place w v block is same inside =
    let one : length (row_of place w (v ∷ [])) ≡ w * 1 = length-row_of place w (v ∷ []) in
    let two : length (row_of place 64 (block ∷ [])) ≡ 64 * 1 = length-row_of place 64 (block ∷ []) in
    ext_get_or false (row_of place w (v ∷ [])) (row_of place 64 (block ∷ [])) (omega arith) (λ i h.
    let below : i < w = omega arith in
    get_or-row_one place w v i (omega arith) below ∙ same (place w i) (inside i below) ∙ ap (λ n. has_bit block (place n i)) is ∙ sym (get_or-row_one place 64 block i (omega arith) (omega arith)))

-- where a block stands, some blocks after an index of a word
pub block_from : (w each k skip t : ℕ) → each * w ≡ 64 → (k + t * each) * w + skip ≡ k * w + skip + t * 64
block_from w each k skip t fills =
    let sum : (k + t * each) * w ≡ k * w + (t * each) * w = right_sum k (t * each) w in
    let inner : (t * each) * w ≡ t * (each * w) = grind arith in
    let whole : t * (each * w) ≡ t * 64 = ap (λ n. t * n) fills in
    omega arith

-- where a block stands, its width written otherwise
pub stands : (w each k skip t : ℕ) → IsWidth w → each ≡ w → (k + t * (64 / each)) * w + skip ≡ k * w + skip + t * 64
stands w each k skip t is narrow = ap (λ n. (k + t * (64 / n)) * w + skip) narrow ∙ block_from w (64 / w) k skip t (pack_fills w is)

-- the word of a block that has another after it
pub last_block : {u others n : ℕ} (begin t : ℕ) → others ≡ u → 0 < u → (begin + t * (64 / u)) * u + 128 ≤ u * n → begin + t * (64 / others) < n
last_block {u} {others} {n} begin t e positive h = rw e (inside_words u (begin + t * (64 / u)) n ((begin + t * (64 / u)) * u) refl (omega arith))

-- block t of some that begin with a word lies in the words
pub block_there : {w each n size : ℕ} (k t : ℕ) → IsWidth w → each ≡ w → t < n → k * w + n * 64 ≤ w * size → ((k + t * (64 / each)) * w + 64 ≤ w * size) × (k + t * (64 / each) < size)
block_there {w} {each} {n} {size} k t is e h inside =
    let here = stands w each k 0 t is e in
    let room : (k + t * (64 / each)) * w + 64 ≤ w * size = omega arith in
    (room, inside_words w (k + t * (64 / each)) size ((k + t * (64 / each)) * w) refl (omega arith))

-- two blocks lie in the words
pub two_blocks : {u each n : ℕ} (k : ℕ) → IsWidth u → each ≡ u → k + 2 * (64 / each) ≤ n → k * u + 128 ≤ u * n
two_blocks {u} {each} {n} k is e h =
    let fills = pack_fills u is in
    let most = mul_mono (k + 2 * (64 / u)) n u (subst (λ m. k + 2 * (64 / m) ≤ n) e h) in
    let sum = right_sum k (2 * (64 / u)) u in
    let double : 2 * (64 / u) ≡ 64 / u + 64 / u = omega arith in
    let twice : 2 * (64 / u) * u ≡ 64 / u * u + 64 / u * u = ap (λ m. m * u) double ∙ right_sum (64 / u) (64 / u) u in
    let turned = mul_comm n u in
    omega arith

-- whole blocks of 64 bits lie in the words
pub blocks_inside : (each first last : ℕ) → first ≤ last → first + (last - first) / each * each ≤ last
blocks_inside each first last ordered =
    let split : (last - first) / each * each + (last - first) % each ≡ last - first = div-add-mod' (last - first) each in
    omega arith

-- block t of 64 bits lies within the words from first up to last
pub block_inside : (w each first last t : ℕ) → each * w ≡ 64 → first ≤ last → t < (last - first) / each → first * w + t * 64 + 64 ≤ last * w
block_inside w each first last t fills ordered turn =
    let most = mul_mono (t + 1) ((last - first) / each) each (omega arith) in
    let all = blocks_inside each first last ordered in
    let wide = mul_mono (first + (t + 1) * each) last w (omega arith) in
    let at : (first + (t + 1) * each) * w + 0 ≡ first * w + 0 + (t + 1) * 64 = block_from w each first 0 (t + 1) fills in
    omega arith
