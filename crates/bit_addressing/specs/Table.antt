-- Tables that make words out of bits of others, four bits at a time.
use Rattle.std.specs.Prelude.{◌≡◌, ℕ, ◌+◌, ◌*◌, ◌/◌, ◌%◌, ◌<◌, Bool, ◌&&◌, ◌||◌, eqb, List, slice_index_or}
use Rattle.bit_addressing.specs.Bits.{has_bit}

-- a word has the bits of the columns of the four places from `4 * k` on where v has a bit
abbrev pub IsEntry : List ℕ → ℕ → ℕ → ℕ → Type 0
IsEntry columns k v entry = (q : ℕ) → has_bit entry q ≡ (has_bit v 0 && has_bit (slice_index_or columns (k * 4) 0) q || has_bit v 1 && has_bit (slice_index_or columns (k * 4 + 1) 0) q || has_bit v 2 && has_bit (slice_index_or columns (k * 4 + 2) 0) q || has_bit v 3 && has_bit (slice_index_or columns (k * 4 + 3) 0) q)

-- bit q of what the entries make of a word is bit p of the word where b holds, and else false: entry `k * 16 + v` is for a word whose four bits from place `4 * k` on are v
abbrev pub IsTaken : List ℕ → ℕ → ℕ → Bool → Type 0
IsTaken entries p q b = (k v : ℕ) → k < 16 → v < 16 → has_bit (slice_index_or entries (k * 16 + v) 0) q ≡ (b && (eqb (p / 4) k && has_bit v (p % 4)))

-- what two tables make of two words: at index i, in one order, bit `at + i` of the words in a row, each of w bits, in another order
abbrev pub IsPairTable : (ℕ → ℕ) → (ℕ → ℕ) → ℕ → ℕ → List ℕ → List ℕ → Type 0
IsPairTable place given w at low high = (i : ℕ) → i < w → IsTaken low (given ((at + i) % w)) (place i) (eqb ((at + i) / w) 0) × IsTaken high (given ((at + i) % w)) (place i) (eqb ((at + i) / w) 1)
