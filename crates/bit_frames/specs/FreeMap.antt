-- Maps of frames, as lists of truth values: item k says whether frame k is taken.
use Rattle.std.specs.Prelude.{◌≡◌, ℕ, ◌+◌, ◌%◌, ◌<◌, ◌≤◌, ◌⊎◌, false, true, Bool, List, Option, None, Some, count_by, length, not, slice_get}
use Rattle.bit_addressing.specs.declared.length.TheConstants.{MAX_BITS}

-- the frame is there, and free
abbrev pub IsFree : List Bool → ℕ → Type 0
IsFree map k = slice_get map k ≡ Some false

-- the frame is there, and taken
abbrev pub IsTaken : List Bool → ℕ → Type 0
IsTaken map k = slice_get map k ≡ Some true

-- `count` frames in a row are there, and free, from this one on
abbrev pub AreFree : List Bool → ℕ → ℕ → Type 0
AreFree map count first = (i : ℕ) → i < count → IsFree map (first + i)

-- `count` frames in a row are there, and taken, from this one on
abbrev pub AreTaken : List Bool → ℕ → ℕ → Type 0
AreTaken map count first = (i : ℕ) → i < count → IsTaken map (first + i)

-- what always holds of a map and the count of its free frames
pub record IsCounted (map : List Bool) (free : ℕ) : Type 0 where
  pub few : length map ≤ MAX_BITS
  pub count : free ≡ count_by not map

-- such a run begins at this frame, and none at a lower one
pub record IsFirstRun (map : List Bool) (count first : ℕ) : Type 0 where
  pub inside : first + count ≤ length map
  pub free : AreFree map count first
  pub before : (i : ℕ) → i < first → AreFree map count i → ⊥

-- such a run begins at this frame, which is `from` or a higher one, and none does at a lower one from there on
pub record IsNextRun (map : List Bool) (count from first : ℕ) : Type 0 where
  pub begins : from ≤ first
  pub inside : first + count ≤ length map
  pub free : AreFree map count first
  pub before : (i : ℕ) → from ≤ i → i < first → AreFree map count i → ⊥

-- such a run begins at this frame, and none at a higher one
pub record IsLastRun (map : List Bool) (count first : ℕ) : Type 0 where
  pub inside : first + count ≤ length map
  pub free : AreFree map count first
  pub after : (i : ℕ) → first < i → AreFree map count i → ⊥

-- such a run begins at this frame, which is a multiple of `align`, and none does at a lower multiple
pub record IsFirstAligned (map : List Bool) (count align first : ℕ) : Type 0 where
  pub inside : first + count ≤ length map
  pub multiple : first % align ≡ 0
  pub free : AreFree map count first
  pub before : (i : ℕ) → i < first → i % align ≡ 0 → AreFree map count i → ⊥

-- a whole run of free frames: the frames right before and right after it are not free
pub record IsBlock (map : List Bool) (first n : ℕ) : Type 0 where
  pub some : 0 < n
  pub free : AreFree map n first
  pub before : (k : ℕ) → k + 1 ≡ first → IsFree map k → ⊥
  pub after : IsFree map (first + n) → ⊥

-- a whole run of n free frames is long enough, and each other that is long enough is longer, or as long and higher
abbrev pub IsShortest : List Bool → ℕ → ℕ → ℕ → Type 0
IsShortest map count first n = IsBlock map first n × (count ≤ n) × ((k m : ℕ) → IsBlock map k m → count ≤ m → (n < m) ⊎ ((n ≡ m) × (first ≤ k)))

-- the lowest of the shortest whole runs that are long enough begins at this frame
pub record IsBestFit (map : List Bool) (count first : ℕ) : Type 0 where
  pub inside : first + count ≤ length map
  pub free : AreFree map count first
  pub shortest : (n : ℕ) × IsShortest map count first n

-- the best among the runs that begin before a frame
abbrev pub IsBestBelow : List Bool → ℕ → ℕ → Option (ℕ × ℕ) → Type 0
IsBestBelow map count from None = (k m : ℕ) → k < from → IsBlock map k m → m < count
IsBestBelow map count from (Some b) = (b.0 < from) × IsBlock map b.0 b.1 × (count ≤ b.1) × ((k m : ℕ) → k < from → IsBlock map k m → count ≤ m → (b.1 < m) ⊎ ((b.1 ≡ m) × (b.0 ≤ k)))
