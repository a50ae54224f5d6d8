-- The order of lists of bits, by their first difference and by their lengths.
use Rattle.std.proofs.Common.{◌≡◌, ◌≢◌, ℕ, zero, suc, ◌-◌, ◌<◌, ◌≤◌, Bool, true, false, cond, List, [], ◌∷◌, ◌++◌, length, get_or, take, drop, refl, sym, ◌∙◌, ap, arith}
use Rattle.std.proofs.Common.{Option, MatchOption, subst}
use Rattle.std.proofs.lemmas.Bool.{true≢false}
use Rattle.std.specs.Prelude.{min}
use Rattle.std.proofs.lemmas.List.{take-append-drop, get_or-take, length-drop, length-take-le}
use Rattle.std.specs.Ordering.{nat_cmp, is_eq, MatchOrdering}
use Rattle.std.specs.declared.cmp.Ordering.TheVariants.{Less, Equal, Greater}
use Rattle.std.specs.Cmp.{IsTotalOrder, bool_cmp_total, nat_cmp_is}
use Rattle.std.specs.Cmp.Lexicographic.{lists_total}
use Rattle.bit_addressing.specs.Row.{IsFirstDifference}
use Rattle.bit_slice.specs.Operators.{bits_cmp, SameFromEitherSide, EqualWhereEqual, BelowTheNext, FalseFirst, PrefixFirst}

-- ---- the laws of the order

bits_total : IsTotalOrder bits_cmp
bits_total = lists_total bool_cmp_total

-- the first difference is the same from either side
pub from_either_side : SameFromEitherSide
from_either_side xs ys = bits_total.antisymm ys xs

-- before the first difference the lists agree
pub below_the_next : BelowTheNext
below_the_next = bits_total.trans

one_list : (xs ys : List Bool) → bits_cmp xs ys ≡ Equal → xs ≡ ys
one_list [] [] e = refl
one_list [] (y ∷ ys) e = absurd (true≢false (sym (ap is_eq e)))
one_list (x ∷ xs) [] e = absurd (true≢false (sym (ap is_eq e)))
one_list (false ∷ xs) (false ∷ ys) e = ap (λ l. false ∷ l) (one_list xs ys e)
one_list (false ∷ xs) (true ∷ ys) e = absurd (true≢false (sym (ap is_eq e)))
one_list (true ∷ xs) (false ∷ ys) e = absurd (true≢false (sym (ap is_eq e)))
one_list (true ∷ xs) (true ∷ ys) e = ap (λ l. true ∷ l) (one_list xs ys e)

-- what two lists share does not count
shared : (zs xs ys : List Bool) → bits_cmp (zs ++ xs) (zs ++ ys) ≡ bits_cmp xs ys
shared [] xs ys = refl
shared (false ∷ zs) xs ys = shared zs xs ys
shared (true ∷ zs) xs ys = shared zs xs ys

with_itself : (xs : List Bool) → bits_cmp xs xs ≡ Equal
with_itself [] = refl
with_itself (false ∷ xs) = with_itself xs
with_itself (true ∷ xs) = with_itself xs

-- lists without a difference are equal
pub equal_where_equal : EqualWhereEqual
equal_where_equal xs ys = (one_list xs ys, λ e. ap (bits_cmp xs) (sym e) ∙ with_itself xs)

-- false orders before true
pub false_first : FalseFirst
false_first zs xs ys = shared zs (false ∷ xs) (true ∷ ys)

-- a list orders before one that it begins
pub prefix_first : PrefixFirst
prefix_first [] ys y = refl
prefix_first (false ∷ xs) ys y = prefix_first xs ys y
prefix_first (true ∷ xs) ys y = prefix_first xs ys y

-- ---- what decides

differ_first : (k : ℕ) (xs ys : List Bool) → k < length xs → k < length ys → ((i : ℕ) → i < k → get_or xs i false ≡ get_or ys i false) → get_or xs k false ≢ get_or ys k false → bits_cmp xs ys ≡ cond (get_or xs k false) Greater Less
differ_first k [] ys h l before apart = absurd (omega arith)
differ_first k (x ∷ xs) [] h l before apart = absurd (omega arith)
differ_first zero (false ∷ xs) (false ∷ ys) h l before apart = absurd (apart refl)
differ_first zero (false ∷ xs) (true ∷ ys) h l before apart = refl
differ_first zero (true ∷ xs) (false ∷ ys) h l before apart = refl
differ_first zero (true ∷ xs) (true ∷ ys) h l before apart = absurd (apart refl)
differ_first (suc k) (false ∷ xs) (false ∷ ys) h l before apart = differ_first k xs ys (omega arith) (omega arith) (λ i below. before (suc i) (omega arith)) apart
differ_first (suc k) (false ∷ xs) (true ∷ ys) h l before apart = absurd (true≢false (sym (before 0 (omega arith))))
differ_first (suc k) (true ∷ xs) (false ∷ ys) h l before apart = absurd (true≢false (before 0 (omega arith)))
differ_first (suc k) (true ∷ xs) (true ∷ ys) h l before apart = differ_first k xs ys (omega arith) (omega arith) (λ i below. before (suc i) (omega arith)) apart

-- the first difference of two beginnings decides
pub by_difference : (xs ys : List Bool) (n k : ℕ) → n ≤ length xs → n ≤ length ys → IsFirstDifference (take n xs) (take n ys) k → bits_cmp xs ys ≡ cond (get_or xs k false) Greater Less
by_difference xs ys n k h l d =
    let size = length-take-le n xs h in
    let inside : k < n = let w = d.within in omega arith in
    let left : (i : ℕ) → i < n → get_or (take n xs) i false ≡ get_or xs i false = λ i b. get_or-take n xs i false b in
    let right : (i : ℕ) → i < n → get_or (take n ys) i false ≡ get_or ys i false = λ i b. get_or-take n ys i false b in
    differ_first k xs ys (omega arith) (omega arith)
    (λ i below. sym (left i (omega arith)) ∙ d.before i below ∙ right i (omega arith))
    (λ e. d.apart (left k inside ∙ e ∙ sym (right k inside)))

ranks : (xs ys : List Bool) (a b n : ℕ) → length xs ≡ a - n → length ys ≡ b - n → n ≡ min a b → MatchOrdering (bits_cmp xs ys) (a < b) (a ≡ b) (b < a)
ranks [] [] a b n h l least = omega arith
ranks [] (y ∷ ys) a b n h l least = omega arith
ranks (x ∷ xs) [] a b n h l least = omega arith
ranks (x ∷ xs) (y ∷ ys) a b n h l least = absurd (omega arith)

-- where one list begins with the other, their lengths decide
pub by_length : (xs ys : List Bool) (n : ℕ) → n ≡ min (length xs) (length ys) → take n xs ≡ take n ys → bits_cmp xs ys ≡ nat_cmp (length xs) (length ys)
by_length xs ys n least same =
    ap (λ l. bits_cmp l ys) (sym (take-append-drop n xs)) ∙ ap (bits_cmp (take n xs ++ drop n xs)) (sym (take-append-drop n ys))
    ∙ ap (λ l. bits_cmp (l ++ drop n xs) (take n ys ++ drop n ys)) same
    ∙ shared (take n ys) (drop n xs) (drop n ys)
    ∙ nat_cmp_is (length xs) (length ys) (bits_cmp (drop n xs) (drop n ys)) (ranks (drop n xs) (drop n ys) (length xs) (length ys) n (length-drop n xs) (length-drop n ys) least)

-- ---- equality

-- two lists that differ somewhere
pub apart_at : (xs ys : List Bool) (n k : ℕ) → IsFirstDifference (take n xs) (take n ys) k → xs ≢ ys
apart_at xs ys n k d e = d.apart (ap (λ l. get_or (take n l) k false) e)

-- what was found in two runs, where the runs are the beginnings of two lists
pub found_in : (r : Option ℕ) (us vs xs ys : List Bool) → us ≡ xs → vs ≡ ys → MatchOption r (us ≡ vs) (λ k. IsFirstDifference us vs k) → MatchOption r (xs ≡ ys) (λ k. IsFirstDifference xs ys k)
found_in r us vs xs ys left right found =
    subst (λ (l : List Bool). MatchOption r (l ≡ ys) (λ k. IsFirstDifference l ys k)) left (subst (λ (l : List Bool). MatchOption r (us ≡ l) (λ k. IsFirstDifference us l k)) right found)
