-- What a contract sees of a box, and what calls do to it.
use Rattle.std.specs.Prelude.{◌≡◌, ℕ, ◌+◌, ◌*◌, ◌<◌, ◌≤◌, Bool, List, length}
use Rattle.bit_addressing.specs.declared.length.TheConstants.{MAX_BITS}
use Rattle.bit_slice.specs.Held.{Held, IsClean}

-- the list of a box
abbrev pub list_in : {X : Type 0} → Held X → List Bool
list_in b = b.list

-- what always holds of a box of n words of w bits, whose list has `len` bits: it may have words to spare
pub record IsBox (w n head len size : ℕ) : Type 0 where
  pub head_below : head < w
  pub len_small : len ≤ MAX_BITS
  pub fits : head + len ≤ w * n
  pub few : w * n ≤ MAX_BITS + 2 * w
  pub shows : size ≡ len

-- All bits of these words, whose row these are: the head is 0, no bit is dead.
pub record IsWhole {X : Type 0} (w : ℕ) (ws : List X) (bits : List Bool) (b : Held X) : Type 0 where
  pub words : b.words ≡ ws
  pub row : b.row ≡ bits
  pub head : b.head ≡ 0
  pub list : b.list ≡ bits
  pub len : length b.list ≡ w * length ws
  pub clean : IsClean w b
