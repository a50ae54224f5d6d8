-- What calls say of runs of bits: parts of rows, each from a place on.
use Rattle.std.specs.Prelude.{◌≡◌, ℕ, ◌+◌, ◌<◌, Bool, not, List, Option, MatchOption, replicate, slice_range}
use Rattle.std.specs.Simd.Lanes.{zip2}
use Rattle.bit_addressing.specs.Row.{put, IsFirst, IsFirstDifference}

-- the n bits of a row from a place on
abbrev pub run_at : List Bool → ℕ → ℕ → List Bool
run_at bits at n = slice_range bits at (at + n)

-- two kinds of words are alike: one width, and each index has one place in both orders
pub record AreAlike (w v : ℕ) (place other : ℕ → ℕ → ℕ) : Type 0 where
  pub width : v ≡ w
  pub order : (i : ℕ) → i < w → place w i ≡ other w i

-- the n bits of a row from one place on are those of another row from a place of its own on
abbrev pub AreEqualRuns : List Bool → ℕ → List Bool → ℕ → ℕ → Type 0
AreEqualRuns bits at others from n = run_at bits at n ≡ run_at others from n

-- each of the n bits of a row from a place on is this bit
abbrev pub AreAll : Bool → List Bool → ℕ → ℕ → Type 0
AreAll bit bits at n = run_at bits at n ≡ replicate n bit

-- a row whose bits from `start` up to `end` are combined with the source's bits from `from` up to `upto`
abbrev pub combined_run : (Bool → Bool → Bool) → List Bool → ℕ → ℕ → List Bool → ℕ → ℕ → List Bool
combined_run made bits start end source from upto =
    put bits start (zip2 made (slice_range bits start end) (slice_range source from upto))

-- the result is the first place at which two runs differ, and none where they are equal
abbrev pub DiffersFirst : Option ℕ → List Bool → List Bool → Type 0
DiffersFirst result xs ys = MatchOption result (xs ≡ ys) (λ k. IsFirstDifference xs ys k)

-- the result is the first place of a run of n bits that has this bit, and none where each bit is the other
abbrev pub FindsFirst : Option ℕ → Bool → List Bool → ℕ → Type 0
FindsFirst result bit xs n = MatchOption result (xs ≡ replicate n (not bit)) (λ k. IsFirst bit xs k)
