-- What a contract sees of a vector, and what calls do to it.
use Rattle.std.specs.Prelude.{◌≡◌, ℕ, ◌+◌, ◌*◌, ◌<◌, ◌≤◌, ◌↔◌, Bool, List, length, take, Result, Err, OnErr}
use Rattle.bit_addressing.specs.Row.{words_for, put, sized}
use Rattle.bit_addressing.specs.declared.length.TheConstants.{MAX_BITS}
use Rattle.bit_addressing.specs.declared.errors.GrowError.{GrowError}
use Rattle.bit_addressing.specs.declared.errors.GrowError.TheVariants.{TooLong, OutOfMemory}
pub use Rattle.bit_slice.specs.Held.{Held, IsClean, IsCopy, Stayed, bits_in, held_code}

-- what always holds of a vector of n words of w bits, whose list has `len` bits; `fits` follows from `count`
pub record IsVector (w n head len size : ℕ) : Type 0 where
  pub head_below : head < w
  pub len_small : len ≤ MAX_BITS
  pub count : n ≡ words_for w (head + len)
  pub fits : head + len ≤ w * n
  pub shows : size ≡ len

-- ---- what calls do

-- Bits were appended. Words that were added are of zero, and no other dead bit changed.
pub record Grew {X : Type 0} (w : ℕ) (old new : Held X) (bits : List Bool) : Type 0 where
  pub head : new.head ≡ old.head
  pub len : length new.list ≡ length old.list + length bits
  pub row : new.row ≡ put (sized w old.row (old.head + length old.list + length bits)) (old.head + length old.list) bits

-- The length is n afterwards. The words are cut to the visible ones, and nothing is written.
pub record Shrank {X : Type 0} (w : ℕ) (old new : Held X) (n : ℕ) : Type 0 where
  pub head : new.head ≡ old.head
  pub words : new.words ≡ take (words_for w (old.head + n)) old.words
  pub len : length new.list ≡ n
  pub row : new.row ≡ sized w old.row (old.head + n)
  pub capacity : new.capacity ≡ old.capacity

-- The vector is as it was, but perhaps for its capacity.
pub record IsKept {X : Type 0} (old new : Held X) : Type 0 where
  pub words : new.words ≡ old.words
  pub row : new.row ≡ old.row
  pub head : new.head ≡ old.head
  pub list : new.list ≡ old.list

-- A call that asks for `wanted` bits is refused in two ways: `TooLong` exactly past `MAX_BITS`, `OutOfMemory` only past the old capacity. A refusal changes nothing but perhaps the capacity.
pub record RefusesOnly {X A : Type 0} (result : Result A GrowError) (wanted : ℕ) (old new : Held X) : Type 0 where
  pub too_long : (result ≡ Err TooLong) ↔ (MAX_BITS < wanted)
  pub memory : result ≡ Err OutOfMemory → old.capacity < wanted
  pub unchanged : OnErr result (IsKept old new)
