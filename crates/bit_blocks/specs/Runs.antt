-- Runs of numbers that follow one another.
use Rattle.std.specs.Prelude.{◌≡◌, ℕ, ◌+◌, ◌-◌, ◌*◌, ◌<◌, ◌≤◌, Bool, true, false, ◌&&◌, ◌||◌, if◌then◌else◌, nat_eq, nat_le, nat_lt, List, [], ◌∷◌, ◌++◌, ⊤, refl}
use Rattle.std.specs.List.{range_with_len}
use Rattle.bit_blocks.specs.declared.ranged.Run.{Run}

-- the numbers of a run
abbrev pub numbers_of_run : Run → List ℕ
numbers_of_run r = range_with_len r.first (r.last + 1 - r.first)

-- the numbers of runs, one after another
abbrev pub run_numbers : List Run → List ℕ
run_numbers [] = []
run_numbers (r ∷ rs) = numbers_of_run r ++ run_numbers rs

-- no run ends before it begins or past 65535, the first begins at `from` or after it, and between two a number is left out
abbrev pub AreRunsFrom : ℕ → List Run → Type 0
AreRunsFrom from [] = ⊤
AreRunsFrom from (r ∷ rs) = (from ≤ r.first) × (r.first ≤ r.last) × (r.last < 65536) × AreRunsFrom (r.last + 2) rs

-- no run ends before it begins or past 65535, and between two a number is left out
abbrev pub AreRuns : List Run → Type 0
AreRuns rs = AreRunsFrom 0 rs

-- the run of the numbers from `first` on that are below `upto`, if there are any
abbrev pub run_below : ℕ → ℕ → List Run
run_below first upto = if nat_lt first upto then record { first = first; last = upto - 1 } ∷ [] else []

-- whether a number is in a run
abbrev pub is_in_run : Run → ℕ → Bool
is_in_run r k = nat_le r.first k && nat_le k r.last

-- whether a number is in one of the runs
abbrev pub is_in_runs : List Run → ℕ → Bool
is_in_runs [] k = false
is_in_runs (r ∷ rs) k = is_in_run r k || is_in_runs rs k

-- a number below some runs and these runs, in as few runs as there can be
abbrev pub joined : ℕ → List Run → List Run
joined x [] = record { first = x; last = x } ∷ []
joined x (r ∷ rs) = if nat_eq r.first (x + 1) then record { first = x; last = r.last } ∷ rs else record { first = x; last = x } ∷ r ∷ rs

-- ascending numbers in as few runs as there can be
abbrev pub runs_of : List ℕ → List Run
runs_of [] = []
runs_of (x ∷ xs) = joined x (runs_of xs)

-- whether this many runs take fewer bytes than the numbers take as a list or as bits, as the format counts them
abbrev pub runs_pay : ℕ → ℕ → Bool
runs_pay count runs = if nat_le count 4096 then nat_lt (4 * runs + 2) (2 * count + 2) else nat_lt (4 * runs + 2) 8192

three_numbers : run_numbers (record { first = 2; last = 3 } ∷ record { first = 7; last = 7 } ∷ []) ≡ 2 ∷ 3 ∷ 7 ∷ []
three_numbers = refl

two_below_seven : run_below 5 7 ≡ record { first = 5; last = 6 } ∷ []
two_below_seven = refl

none_below_seven : run_below 7 7 ≡ []
none_below_seven = refl

three_runs : runs_of (2 ∷ 3 ∷ 5 ∷ 7 ∷ 8 ∷ 9 ∷ []) ≡ record { first = 2; last = 3 } ∷ record { first = 5; last = 5 } ∷ record { first = 7; last = 9 } ∷ []
three_runs = refl

-- two runs take ten bytes, as a list of four numbers does
four_in_two_runs : runs_pay 4 2 ≡ false
four_in_two_runs = refl

five_in_two_runs : runs_pay 5 2 ≡ true
five_in_two_runs = refl

-- 2047 runs take two bytes less than bits
many_in_few_runs : runs_pay 60000 2047 ≡ true
many_in_few_runs = refl

many_in_many_runs : runs_pay 60000 2048 ≡ false
many_in_many_runs = refl
