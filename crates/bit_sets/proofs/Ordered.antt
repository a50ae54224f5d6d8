-- How the ascending lists of two sets' numbers are ordered, by their bits.
use Rattle.std.proofs.Common.{◌≡◌, ◌≢◌, ℕ, zero, suc, ◌+◌, ◌<◌, ◌≤◌, Bool, true, false, List, [], ◌∷◌, get_or, min, take, refl, sym, ◌∙◌, ap, arith}
use Rattle.std.specs.Ordering.{nat_cmp, ordering_then, MatchOrdering}
use Rattle.std.specs.declared.cmp.Ordering.{Ordering}
use Rattle.std.specs.declared.cmp.Ordering.TheVariants.{Less, Equal, Greater}
use Rattle.std.specs.Cmp.{nat_cmp_is, ranked}
use Rattle.std.specs.Cmp.Lexicographic.{slice_cmp}
use Rattle.std.proofs.lemmas.Bool.{true≢false}
use Rattle.bit_slice.specs.Operators.{bits_cmp}
use Rattle.bit_slice.specs.Places.{ones_of}
use Rattle.bit_sets.specs.Compared.{IsLeastBound, numbers_cmp}
use Rattle.bit_ranks.proofs.Parts.{from_index, ones_are}
use Rattle.bit_sets.proofs.Ascending.{none_from}
use Rattle.bit_sets.proofs.Members.{in_bit, out_bit}

-- the items from n on are false, and the one before them is true
record IsEnd (xs : List Bool) (n : ℕ) : Type 0 where
  past : (k : ℕ) → n ≤ k → get_or xs k false ≡ false
  last : (k : ℕ) → suc k ≡ n → get_or xs k false ≡ true

rest_end : (x : Bool) (xs : List Bool) (n : ℕ) → IsEnd (x ∷ xs) (suc n) → IsEnd xs n
rest_end x xs n e = record { past = λ k h. e.past (suc k) (omega arith); last = λ k h. e.last (suc k) (ap suc h) }

-- a set with a number has a first one, at i or after it
has_some : (i n : ℕ) (xs : List Bool) → IsEnd xs (suc n) → (h : ℕ) × (t : List ℕ) × (i ≤ h) × (from_index i xs ≡ h ∷ t)
has_some i n [] e = absurd (true≢false (sym (e.last n refl)))
has_some i n (true ∷ xs) e = (i, from_index (i + 1) xs, omega arith, refl)
has_some i zero (false ∷ xs) e = absurd (true≢false (sym (e.last 0 refl)))
has_some i (suc n) (false ∷ xs) e = let r = has_some (i + 1) n xs (rest_end false xs (suc n) e) in let low = r.2 in (r.0, r.1, omega arith, r.3)

suc_cmp : (n m : ℕ) → nat_cmp (suc n) (suc m) ≡ nat_cmp n m
suc_cmp n m = sym (nat_cmp_is (suc n) (suc m) (nat_cmp n m) (up (nat_cmp n m) (ranked n m (nat_cmp n m) refl)))
  where
    up : (r : Ordering) → MatchOrdering r (n < m) (n ≡ m) (m < n) → MatchOrdering r (suc n < suc m) (suc n ≡ suc m) (suc m < suc n)
    up Less h = omega arith
    up Equal h = ap suc h
    up Greater h = omega arith

less_than : (x y : ℕ) → x < y → nat_cmp x y ≡ Less
less_than x y h = sym (nat_cmp_is x y Less h)

greater_than : (x y : ℕ) → y < x → nat_cmp x y ≡ Greater
greater_than x y h = sym (nat_cmp_is x y Greater h)

equal_to : (x : ℕ) → nat_cmp x x ≡ Equal
equal_to x = sym (nat_cmp_is x x Equal refl)

-- the first bit that differs decides: the set that has the number is the smaller, since the other has a later one
ordered : (i n m k : ℕ) (xs ys : List Bool) → k ≡ min n m → IsEnd xs n → IsEnd ys m → slice_cmp nat_cmp (from_index i xs) (from_index i ys) ≡ ordering_then (bits_cmp (take k ys) (take k xs)) (nat_cmp n m)
ordered i zero zero (suc k) xs ys is e f = absurd (omega arith)
ordered i zero (suc m) (suc k) xs ys is e f = absurd (omega arith)
ordered i (suc n) zero (suc k) xs ys is e f = absurd (omega arith)
ordered i (suc n) (suc m) zero xs ys is e f = absurd (omega arith)
ordered i zero zero zero xs ys is e f =
    ap (λ l. slice_cmp nat_cmp l (from_index i ys)) (none_from i xs (λ k. e.past k (omega arith))) ∙ ap (slice_cmp nat_cmp []) (none_from i ys (λ k. f.past k (omega arith))) ∙ sym (equal_to 0)
ordered i zero (suc m) zero xs ys is e f =
    let r = has_some i m ys f in
    ap (λ l. slice_cmp nat_cmp l (from_index i ys)) (none_from i xs (λ k. e.past k (omega arith))) ∙ ap (slice_cmp nat_cmp []) r.3 ∙ sym (less_than 0 (suc m) (omega arith))
ordered i (suc n) zero zero xs ys is e f =
    let r = has_some i n xs e in
    ap (λ l. slice_cmp nat_cmp l (from_index i ys)) r.3 ∙ ap (slice_cmp nat_cmp (r.0 ∷ r.1)) (none_from i ys (λ k. f.past k (omega arith))) ∙ sym (greater_than (suc n) 0 (omega arith))
ordered i (suc n) (suc m) (suc k) [] ys is e f = absurd (true≢false (sym (e.last n refl)))
ordered i (suc n) (suc m) (suc k) (x ∷ xs) [] is e f = absurd (true≢false (sym (f.last m refl)))
ordered i (suc n) (suc m) (suc k) (true ∷ xs) (true ∷ ys) is e f =
    ap (λ o. ordering_then o (slice_cmp nat_cmp (from_index (i + 1) xs) (from_index (i + 1) ys))) (equal_to i)
    ∙ ordered (i + 1) n m k xs ys (omega arith) (rest_end true xs n e) (rest_end true ys m f) ∙ ap (ordering_then (bits_cmp (take k ys) (take k xs))) (sym (suc_cmp n m))
ordered i (suc n) (suc m) (suc k) (false ∷ xs) (false ∷ ys) is e f =
    ordered (i + 1) n m k xs ys (omega arith) (rest_end false xs n e) (rest_end false ys m f) ∙ ap (ordering_then (bits_cmp (take k ys) (take k xs))) (sym (suc_cmp n m))
ordered i (suc n) (suc zero) (suc k) (true ∷ xs) (false ∷ ys) is e f = absurd (true≢false (sym (f.last 0 refl)))
ordered i (suc n) (suc (suc m)) (suc k) (true ∷ xs) (false ∷ ys) is e f =
    let r = has_some (i + 1) m ys (rest_end false ys (suc m) f) in
    let low = r.2 in
    ap (slice_cmp nat_cmp (i ∷ from_index (i + 1) xs)) r.3 ∙ ap (λ o. ordering_then o (slice_cmp nat_cmp (from_index (i + 1) xs) r.1)) (less_than i r.0 (omega arith))
ordered i (suc zero) (suc m) (suc k) (false ∷ xs) (true ∷ ys) is e f = absurd (true≢false (sym (e.last 0 refl)))
ordered i (suc (suc n)) (suc m) (suc k) (false ∷ xs) (true ∷ ys) is e f =
    let r = has_some (i + 1) n xs (rest_end false xs (suc n) e) in
    let low = r.2 in
    ap (λ l. slice_cmp nat_cmp l (i ∷ from_index (i + 1) ys)) r.3 ∙ ap (λ o. ordering_then o (slice_cmp nat_cmp r.1 (from_index (i + 1) ys))) (greater_than r.0 i (omega arith))

-- the order of two sets is that of their bits up to the smaller bound, then that of the bounds
pub cmp_parts : (xs ys : List Bool) (n m : ℕ) → IsLeastBound xs n → IsLeastBound ys m → numbers_cmp xs ys ≡ ordering_then (bits_cmp (take (min n m) ys) (take (min n m) xs)) (nat_cmp n m)
cmp_parts xs ys n m first second =
    ap (λ l. slice_cmp nat_cmp l (ones_of ys)) (ones_are xs) ∙ ap (slice_cmp nat_cmp (from_index 0 xs)) (ones_are ys) ∙ ordered 0 n m (min n m) xs ys refl (end xs n first) (end ys m second)
  where
    end : (zs : List Bool) (k : ℕ) → IsLeastBound zs k → IsEnd zs k
    end zs k b = record {
      past = λ j h. out_bit zs j (λ is. let above = b.above j is in omega arith);
      last = λ j h. (in_bit zs j).0 (b.last j (omega arith));
    }

-- an order that is not equal decides
pub first_decides : (o p : Ordering) → o ≢ Equal → o ≡ ordering_then o p
first_decides Less p h = refl
first_decides Equal p h = absurd (h refl)
first_decides Greater p h = refl
