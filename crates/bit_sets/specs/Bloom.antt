-- The places of a hash in a Bloom filter, and when it is found.
use Rattle.std.specs.Prelude.{◌≡◌, ℕ, ◌+◌, ◌*◌, ◌/◌, ◌%◌, ◌^◌, ◌<◌, ◌⊎◌, ◌↔◌, Bool, true, List, length, slice_get, Some, refl}
use Rattle.std.specs.List.{fold}
use Rattle.bit_sets.specs.Filter.{Filter}

-- the place that function i gives of a hash in n bits: the low half, and i times one more than the high half
abbrev pub place : ℕ → ℕ → ℕ → ℕ
place n hash i = (hash % 2 ^ 32 + i * (hash / 2 ^ 32 + 1)) % n

-- the hash that a hasher gives which is fed these bytes, one write after another
abbrev pub hash_of : {H : Type 0} → (H → ℕ) → (H → List ℕ → H) → H → List (List ℕ) → ℕ
hash_of finish write hasher fed = finish (fold write hasher fed)

-- the bit at the place of each function is true
abbrev pub IsFound : Filter → ℕ → Type 0
IsFound f hash = (i : ℕ) → i < f.functions → slice_get f.bits (place (length f.bits) hash i) ≡ Some true

-- exactly the places that k functions give of a hash became true
pub record IsMarked (old new : List Bool) (hash k : ℕ) : Type 0 where
  pub size : length new ≡ length old
  pub bits : (j : ℕ) → (slice_get new j ≡ Some true) ↔ ((slice_get old j ≡ Some true) ⊎ ((i : ℕ) × (i < k) × (place (length old) hash i ≡ j)))

third_place : place 10 (5 * 2 ^ 32 + 7) 2 ≡ 9
third_place = refl
