-- Two lists of bits combined item by item, and the order of lists.
use Rattle.std.specs.Prelude.{◌≡◌, ◌↔◌, ℕ, ◌+◌, ◌-◌, Bool, true, false, ◌&&◌, ◌||◌, not, if◌then◌else◌, List, [], ◌∷◌, ◌++◌, Some, refl, slice_get, slice_range}
use Rattle.std.specs.Ordering.{bool_cmp, ordering_reverse}
use Rattle.std.specs.declared.cmp.Ordering.{Ordering}
use Rattle.std.specs.declared.cmp.Ordering.TheVariants.{Less, Equal}
use Rattle.std.specs.Cmp.Lexicographic.{slice_cmp}

-- f of each item on the left and the item at its index on the right, or false where the right has none
abbrev pub combined : (Bool → Bool → Bool) → List Bool → List Bool → List Bool
combined f [] ys = []
combined f (x ∷ xs) [] = f x false ∷ combined f xs []
combined f (x ∷ xs) (y ∷ ys) = f x y ∷ combined f xs ys

-- the items that are true on both sides
abbrev pub and_of : List Bool → List Bool → List Bool
and_of = combined (λ x y. x && y)

-- the items that are true on the left and not on the right
abbrev pub and_not_of : List Bool → List Bool → List Bool
and_not_of = combined (λ x y. x && not y)

-- the items that are true on one side or on both
abbrev pub or_of : List Bool → List Bool → List Bool
or_of = combined (λ x y. x || y)

-- the items that are true on one side alone
abbrev pub xor_of : List Bool → List Bool → List Bool
xor_of = combined (λ x y. if x then not y else y)

-- f of each item from index dest on and the item of a range of the same list for it
abbrev pub part_onto : (List Bool → List Bool → List Bool) → List Bool → ℕ → ℕ → ℕ → List Bool
part_onto f xs start end dest = f (slice_range xs dest (dest + (end - start))) (slice_range xs start end)

-- at each index where both lists have an item, the third has what f makes of the two
abbrev pub CombinesEach : (Bool → Bool → Bool) → List Bool → List Bool → List Bool → Type 0
CombinesEach f xs ys zs = (i : ℕ) (x y : Bool) → slice_get xs i ≡ Some x → slice_get ys i ≡ Some y → slice_get zs i ≡ Some (f x y)

-- at each index of both lists, the third has true where both have
abbrev pub AndsEach : List Bool → List Bool → List Bool → Type 0
AndsEach = CombinesEach (λ x y. x && y)

-- at each index of both lists, the third has true where one or both have
abbrev pub OrsEach : List Bool → List Bool → List Bool → Type 0
OrsEach = CombinesEach (λ x y. x || y)

-- at each index of both lists, the third has true where one alone has
abbrev pub XorsEach : List Bool → List Bool → List Bool → Type 0
XorsEach = CombinesEach (λ x y. if x then not y else y)

-- at each index of a list, the other has the opposite
abbrev pub FlipsEach : List Bool → List Bool → Type 0
FlipsEach xs zs = (i : ℕ) (x : Bool) → slice_get xs i ≡ Some x → slice_get zs i ≡ Some (not x)

-- the order of two lists: by the first items that differ, false before true, and where none do a proper prefix comes first
abbrev pub bits_cmp : List Bool → List Bool → Ordering
bits_cmp = slice_cmp bool_cmp

-- the order from the other side is the other way round
abbrev pub SameFromEitherSide : Type 0
SameFromEitherSide = (xs ys : List Bool) → bits_cmp ys xs ≡ ordering_reverse (bits_cmp xs ys)

-- two lists are `Equal` exactly where they are one
abbrev pub EqualWhereEqual : Type 0
EqualWhereEqual = (xs ys : List Bool) → (bits_cmp xs ys ≡ Equal) ↔ (xs ≡ ys)

-- what is below a list that is below another is below that one too
abbrev pub BelowTheNext : Type 0
BelowTheNext = (xs ys zs : List Bool) → bits_cmp xs ys ≡ Less → bits_cmp ys zs ≡ Less → bits_cmp xs zs ≡ Less

-- after what two lists share, the one that goes on with false is below the one that goes on with true
abbrev pub FalseFirst : Type 0
FalseFirst = (zs xs ys : List Bool) → bits_cmp (zs ++ (false ∷ xs)) (zs ++ (true ∷ ys)) ≡ Less

-- a list is below each that goes on after it
abbrev pub PrefixFirst : Type 0
PrefixFirst = (xs ys : List Bool) (y : Bool) → bits_cmp xs (xs ++ (y ∷ ys)) ≡ Less

abbrev four : List Bool
four = false ∷ true ∷ false ∷ true ∷ []

part_onto_front : part_onto or_of four 1 3 0 ≡ true ∷ true ∷ []
part_onto_front = refl
