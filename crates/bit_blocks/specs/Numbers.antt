-- Ascending lists of numbers.
use Rattle.std.specs.Prelude.{◌≡◌, ℕ, ◌+◌, ◌<◌, ◌≤◌, Bool, true, false, ◌&&◌, ◌||◌, not, if◌then◌else◌, nat_eq, nat_le, nat_lt, List, [], ◌∷◌, ⊤, refl}
use Rattle.std.specs.List.{filter, range_with_len}

-- whether a number is in a list
abbrev pub has : List ℕ → ℕ → Bool
has [] k = false
has (x ∷ xs) k = nat_eq x k || has xs k

-- each number is above the one before it, the first is at least `from`, and all are below `upto`
abbrev pub AscendsIn : ℕ → ℕ → List ℕ → Type 0
AscendsIn from upto [] = ⊤
AscendsIn from upto (x ∷ xs) = (from ≤ x) × (x < upto) × AscendsIn (x + 1) upto xs

-- each number is above the one before it, and all are below 65536
abbrev pub Ascends : List ℕ → Type 0
Ascends xs = AscendsIn 0 65536 xs

-- how many numbers of a list are below k
abbrev pub count_below : List ℕ → ℕ → ℕ
count_below [] k = 0
count_below (x ∷ xs) k = (if nat_lt x k then 1 else 0) + count_below xs k

-- how many numbers of a list pass a test
abbrev pub count_where : (ℕ → Bool) → List ℕ → ℕ
count_where p [] = 0
count_where p (x ∷ xs) = (if p x then 1 else 0) + count_where p xs

-- the n numbers from a on that pass a test
unfoldable pub those : (ℕ → Bool) → ℕ → ℕ → List ℕ
those p a n = filter p (range_with_len a n)

-- whether a number is from `first` to `last`, both included
abbrev pub is_between : ℕ → ℕ → ℕ → Bool
is_between first last k = nat_le first k && nat_le k last

-- the numbers of a list that are from `first` to `last`, both included
abbrev pub numbers_between : ℕ → ℕ → List ℕ → List ℕ
numbers_between first last xs = filter (λ k. is_between first last k) xs

-- a number was put into a list
abbrev pub Gains : List ℕ → List ℕ → ℕ → Type 0
Gains old new number = (k : ℕ) → has new k ≡ (nat_eq number k || has old k)

-- a number was taken out of a list
abbrev pub Loses : List ℕ → List ℕ → ℕ → Type 0
Loses old new number = (k : ℕ) → has new k ≡ (has old k && not (nat_eq number k))

-- the numbers from `first` to `last` were put into a list
abbrev pub GainsBetween : List ℕ → List ℕ → ℕ → ℕ → Type 0
GainsBetween old new first last = (k : ℕ) → has new k ≡ (is_between first last k || has old k)

-- the numbers from `first` to `last` were taken out of a list
abbrev pub LosesBetween : List ℕ → List ℕ → ℕ → ℕ → Type 0
LosesBetween old new first last = (k : ℕ) → has new k ≡ (has old k && not (is_between first last k))

-- a number is in the third list where f says so of the two others
abbrev pub Combines : (Bool → Bool → Bool) → List ℕ → List ℕ → List ℕ → Type 0
Combines f xs ys zs = (k : ℕ) → has zs k ≡ f (has xs k) (has ys k)

two_below : count_below (2 ∷ 3 ∷ 7 ∷ []) 7 ≡ 2
two_below = refl

seven_in : has (2 ∷ 3 ∷ 7 ∷ []) 7 ≡ true
seven_in = refl

odd_among : those (λ k. nat_eq k 3 || nat_eq k 5) 2 4 ≡ 3 ∷ 5 ∷ []
unfolding those
odd_among = refl

two_between : numbers_between 3 7 (2 ∷ 3 ∷ 7 ∷ 8 ∷ []) ≡ 3 ∷ 7 ∷ []
two_between = refl
