-- What always holds of a view's words, head and length, and of what an iterator has left.
use Rattle.std.specs.Prelude.{◌≡◌, ℕ, ◌+◌, ◌*◌, ◌<◌, ◌≤◌}
use Rattle.bit_addressing.specs.Row.{words_for}
use Rattle.bit_addressing.specs.declared.length.TheConstants.{MAX_BITS}

-- `words` words of w bits are those of a view with this head and length: the head is in the first word, and there are exactly as many words as head and length take
pub record IsView (w words head len : ℕ) : Type 0 where
  pub in_word : head < w
  pub few : len ≤ MAX_BITS
  pub exact : words ≡ words_for w (head + len)
  pub room : head + len ≤ w * words

-- the bits from one index up to another lie in `words` words of w bits
pub record IsRun (w words from upto : ℕ) : Type 0 where
  pub ordered : from ≤ upto
  pub few : upto ≤ from + MAX_BITS
  pub room : upto ≤ w * words
