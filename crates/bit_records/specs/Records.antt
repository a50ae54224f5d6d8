-- Numbers of one width in a list of bits, and what contracts see of records.
use Rattle.std.specs.Prelude.{◌≡◌, ℕ, ◌+◌, ◌*◌, ◌/◌, ◌<◌, ◌≤◌, Bool, List, ◌++◌, [], ◌∷◌, map, length, reverse, slice_range, refl}
use Rattle.std.specs.List.{range_with_len}
use Rattle.std.specs.Coded.{Coded, code_by, coded×, coded_list, coded_ℕ}
use Rattle.bit_addressing.specs.Row.{binary, number_of}
use Rattle.bit_addressing.specs.declared.length.TheConstants.{MAX_BITS}
use Rattle.bit_containers.specs.BitVec.{Held, held_code, IsClean}

-- the number that these digits write in binary, the most significant first
abbrev pub written : List Bool → ℕ
written digits = number_of (reverse digits)

-- the numbers that a list of bits writes, by as many digits each
unfoldable pub numbers_in : ℕ → List Bool → List ℕ
numbers_in width bits = map (λ i. written (slice_range bits (i * width) (i * width + width))) (range_with_len 0 (length bits / width))

-- the bits of records: the numbers in binary, one after the other
unfoldable pub joined : ℕ → List ℕ → List Bool
joined width [] = []
joined width (x ∷ xs) = binary width x ++ joined width xs

-- what a contract sees of records: how many digits each has, the numbers, and the vector of their bits
pub record Filed (X : Type 0) : Type 0 where
  pub width : ℕ
  pub list : List ℕ
  pub bits : Held X

-- such a value is stored as its parts
abbrev pub filed_code : {X : Type 0} → Coded X → Coded (Filed X)
filed_code {X} c = code_by (ℕ × (List ℕ × Held X)) (coded× coded_ℕ (coded× (coded_list coded_ℕ) (held_code c))) (λ v. (v.width, (v.list, v.bits))) (λ p. record { width = p.0; list = p.1.0; bits = p.1.1 }) (λ _. refl)

-- what always holds of records: a width of 1 to 64 digits, and the bits of `len` whole numbers, from head 0 on, with each dead bit false
pub record AreRecords {X : Type 0} (w width len : ℕ) (bits : Held X) : Type 0 where
  pub some : 0 < width
  pub few : width ≤ 64
  pub size : length bits.list ≡ len * width
  pub small : length bits.list ≤ MAX_BITS
  pub clean : IsClean w bits

-- the same records after a call, but perhaps for their capacity
pub record AreKept {X : Type 0} (old new : Filed X) : Type 0 where
  pub width : new.width ≡ old.width
  pub list : new.list ≡ old.list

-- a copy: the same numbers of the same width, in bits from head 0 on, with each dead bit false
pub record AreCopied {X : Type 0} (w : ℕ) (old new : Filed X) : Type 0 where
  pub width : new.width ≡ old.width
  pub list : new.list ≡ old.list
  pub clean : IsClean w new.bits
