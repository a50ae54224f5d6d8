-- Readers and writers: what contracts see of them, and what always holds of their registers.
use Rattle.std.specs.Prelude.{◌≡◌, ℕ, ◌+◌, ◌-◌, ◌*◌, ◌%◌, ◌^◌, ◌<◌, ◌≤◌, ◌++◌, ◌↔◌, ◌⊎◌, Bool, false, List, drop, length, map, replicate, slice_range, take, refl, Result, Err, OnErr}
use Rattle.std.specs.Coded.{Coded, code_by, coded×, coded_list, coded_ℕ, coded_bool}
use Rattle.bit_addressing.specs.Row.{binary, number_bits, row_of, words_for}
use Rattle.bit_addressing.specs.Typed.{row}
use Rattle.bit_addressing.specs.declared.store.BitStore as store
use Rattle.bit_addressing.specs.declared.order.BitOrder as order
use Rattle.bit_addressing.specs.declared.errors.GrowError.{GrowError}
use Rattle.bit_addressing.specs.declared.errors.GrowError.TheVariants.{TooLong, OutOfMemory}
use Rattle.bit_addressing.specs.declared.length.TheConstants.{MAX_BITS}

-- what contracts see of a reader: the bits that are left, and how many it has passed
pub record Reading : Type 0 where
  pub rest : List Bool
  pub position : ℕ

-- such a value is stored as its parts
abbrev pub reading_code : Coded Reading
reading_code = code_by (List Bool × ℕ) (coded× (coded_list coded_bool) coded_ℕ) (λ v. (v.rest, v.position)) (λ p. record { rest = p.0; position = p.1 }) (λ _. refl)

-- what contracts see of a writer: the bits that were written, and how many there is room for
pub record Writing : Type 0 where
  pub list : List Bool
  pub capacity : ℕ

abbrev pub writing_code : Coded Writing
writing_code = code_by (List Bool × ℕ) (coded× (coded_list coded_bool) coded_ℕ) (λ v. (v.list, v.capacity)) (λ p. record { list = p.0; capacity = p.1 }) (λ _. refl)

-- a reader passed n bits
pub record Passed (n : ℕ) (old new : Reading) : Type 0 where
  pub rest : new.rest ≡ drop n old.rest
  pub position : new.position ≡ old.position + n
  pub left : length new.rest + n ≡ length old.rest

-- when a call that makes the list `wanted` bits long is refused: past MAX_BITS, and for memory only past the capacity; the list stays then
pub record Refuses {A : Type 0} (result : Result A GrowError) (wanted : ℕ) (old new : Writing) : Type 0 where
  pub too_long : (result ≡ Err TooLong) ↔ (MAX_BITS < wanted)
  pub memory : result ≡ Err OutOfMemory → old.capacity < wanted
  pub unchanged : OnErr result (new.list ≡ old.list)

-- when a call that appends `bits` in several steps is refused: as too long only past MAX_BITS, and for memory only past the capacity; the list stays then
pub record MayRefuse {A : Type 0} (result : Result A GrowError) (bits : List Bool) (old new : Writing) : Type 0 where
  pub too_long : result ≡ Err TooLong → MAX_BITS < length old.list + length bits
  pub memory : result ≡ Err OutOfMemory → old.capacity < length old.list + length bits
  pub unchanged : OnErr result (new.list ≡ old.list)

-- the places by the order from the most significant bit
abbrev pub highest_first : ℕ → ℕ → ℕ
highest_first w i = w - 1 - i

module _ {X Y : Type 0} (W : store.Ghosts X) (P : order.Ghosts Y) where
  -- the bits of words of which the last `late` are by the order from the most significant bit, and the others by their own
  unfoldable pub written_row : ℕ → List X → List Bool
  written_row late words = row W P (take (length words - late) words) ++ row_of highest_first W.BITS (map W.value (drop (length words - late) words))

-- what always holds of a writer: after `len` bits in words, which are whole blocks of 64 bits, fewer than 64 bits wait in the register, as a number of `count` digits
pub record IsPending (len count pending : ℕ) : Type 0 where
  pub few : count < 64
  pub small : pending < 2 ^ count
  pub blocks : len % 64 ≡ 0
  pub fits : len ≤ MAX_BITS

-- what always holds of a writer's last digits: they wait as a number of `tails` digits after a list of `len` bits, of whose last block it is not the end
pub record IsTail (len tails tail : ℕ) : Type 0 where
  pub few : len % 64 + tails < 64
  pub small : tail < 2 ^ tails

-- the highest `have` digits of a register are the items of a row from `from` on, and its other digits are 0
pub record IsHeld (row : List Bool) (from have window : ℕ) : Type 0 where
  pub number : ℕ
  pub is : window ≡ number * 2 ^ (64 - have)
  pub small : number < 2 ^ have
  pub digits : binary have number ≡ slice_range row from (from + have)
  pub few : have < 64

-- a row and 64 zeros after it
unfoldable pub padded : List Bool → List Bool
padded row = row ++ replicate 64 false

-- what always holds of a reader over n words of w bits, of whose view `left` bits are left: what its register holds comes next in the words' padded row
pub record IsReading (row : List Bool) (w n start left end have window : ℕ) : Type 0 where
  pub held : IsHeld (padded row) (end - left) have window
  pub ahead : end - left + have ≤ w * n + 64
  pub begins : start + left ≤ end
  pub within : end ≤ w * n
  pub few : end ≤ start + MAX_BITS
  pub in_word : start < w
  pub exact : n ≡ words_for w end

-- the same bits as a number whose first bit is the lowest
pub record IsLow (row : List Bool) (from lows low : ℕ) : Type 0 where
  pub digits : number_bits low lows ≡ slice_range row from (from + lows)
  pub small : low < 2 ^ lows
  pub few : lows < 64

-- what always holds of a reader: each of its registers holds what comes next, and one of them nothing
pub record IsReadingBoth (row : List Bool) (w n start left end have window lows low : ℕ) : Type 0 where
  pub reading : IsReading row w n start left end have window
  pub low_held : IsLow (padded row) (end - left) lows low
  pub low_ahead : end - left + lows ≤ w * n + 64
  pub one : (have ≡ 0) ⊎ (lows ≡ 0)
