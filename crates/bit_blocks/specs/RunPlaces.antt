-- Where a number stands among runs.
use Rattle.std.specs.Prelude.{◌≡◌, ℕ, ◌+◌, ◌-◌, ◌<◌, ◌≤◌, Bool, ◌||◌, List, drop, length, slice_index_or, take}
use Rattle.bit_blocks.specs.declared.ranged.Run.{Run}
use Rattle.bit_blocks.specs.Numbers.{has}
use Rattle.bit_blocks.specs.Runs.{is_in_run, is_in_runs, run_numbers}

-- the first i runs begin at k or before it, and the others after it
pub record IsBegunBefore (rs : List Run) (k i : ℕ) : Type 0 where
  pub before : (j : ℕ) (d : Run) → j < i → (slice_index_or rs j d).first ≤ k
  pub after : (j : ℕ) (d : Run) → i ≤ j → j < length rs → k < (slice_index_or rs j d).first

-- the first i runs end before k, and the others do not
pub record IsEndedBefore (rs : List Run) (k i : ℕ) : Type 0 where
  pub before : (j : ℕ) (d : Run) → j < i → (slice_index_or rs j d).last < k
  pub after : (j : ℕ) (d : Run) → i ≤ j → j < length rs → k ≤ (slice_index_or rs j d).last

-- each run has a number from `first` to `last`
pub record EachMeets (rs : List Run) (first last : ℕ) : Type 0 where
  pub begins : (j : ℕ) (d : Run) → j < length rs → (slice_index_or rs j d).first ≤ last
  pub ends : (j : ℕ) (d : Run) → j < length rs → first ≤ (slice_index_or rs j d).last

-- the first i runs end before k
abbrev pub EndBefore : List Run → ℕ → ℕ → Type 0
EndBefore rs k i = (j : ℕ) (d : Run) → j < i → (slice_index_or rs j d).last < k

-- there are numbers from `at` on that are below `upto`, and the runs have all of them, or none, as `inside` says
pub record IsStretch (rs : List Run) (at upto : ℕ) (inside : Bool) : Type 0 where
  pub some : at < upto
  pub most : upto ≤ 65536
  pub alike : (k : ℕ) → at ≤ k → k < upto → has (run_numbers rs) k ≡ inside

-- a run has the numbers of another and of the runs from i to j, and is apart from those before i and from j on
pub record Absorbs (rs : List Run) (i : ℕ) (r all : Run) (j : ℕ) : Type 0 where
  pub within : (i ≤ j) × (j ≤ length rs)
  pub ordered : (all.first ≤ all.last) × (all.last < 65536)
  pub same : (k : ℕ) → is_in_run all k ≡ (is_in_run r k || is_in_runs (take (j - i) (drop i rs)) k)
  pub before : (n : ℕ) (d : Run) → n < i → (slice_index_or rs n d).last + 1 < all.first
  pub after : (d : Run) → j < length rs → all.last + 1 < (slice_index_or rs j d).first
