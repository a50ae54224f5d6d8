-- The first bits of a row, one more and others after them.
use Rattle.std.proofs.Common.{◌≡◌, ℕ, ◌+◌, ◌-◌, ◌<◌, ◌≤◌, Bool, false, List, [], ◌∷◌, ◌++◌, length, get_or, rules, replicate, set, slice_get, slice_range, take, Some, sym, ◌∙◌, ap, arith}
use Rattle.std.specs.List.{insert, remove}
use Rattle.std.proofs.lemmas.List.{length-replicate, places, same_lists, take_all}
use Rattle.std.proofs.lemmas.Option.{get_or_from_slice_get}
use Rattle.bit_addressing.specs.Row.{moved, put, sized}
use Rattle.bit_addressing.proofs.lists.Moved.{inserted_shows, length-moved, removed_shows}
use Rattle.bit_addressing.proofs.lists.Shown.{length-run, shows_fewer, shrunk_shows}
use Rattle.bit_small.specs.SmallBits.{front}

-- the last of the first n bits, after those before it
pub front_popped : (xs : List Bool) (n : ℕ) (last : Bool) → 0 < n → n ≤ length xs → Some last ≡ slice_get xs (n - 1) → front xs n ≡ front xs (n - 1) ++ last ∷ []
front_popped xs n last some inside is = shorter xs n some inside ∙ ap (λ b. front xs (n - 1) ++ b ∷ []) (get_or_from_slice_get xs (n - 1) last false (sym is))
  where
    shorter : (xs : List Bool) (n : ℕ) → 0 < n → n ≤ length xs → front xs n ≡ front xs (n - 1) ++ get_or xs (n - 1) false ∷ []
    shorter xs n some inside = same_lists _ _ (search (rules, places)) (λ i d below. grind (arith, places))

-- what was written after the first n bits
pub front_extended : (xs ys : List Bool) (n k : ℕ) → length ys ≡ k → n + k ≤ length xs → front (put xs n ys) (n + k) ≡ front xs n ++ ys
unfolding put
front_extended xs ys n k size room = same_lists _ _ (search (rules, places)) (λ i d below. grind (arith, places))

-- the later bits moved to the index before, and the last one left out
pub front_removed : (xs : List Bool) (len i : ℕ) → i < len → len ≤ length xs → front (moved xs (i + 1) i (len - (i + 1))) (len - 1) ≡ remove (front xs len) i
front_removed xs len i below inside =
    let ys : List Bool = moved xs (i + 1) i (len - 1 - i) in
    let long : length ys ≡ length xs = length-moved xs (i + 1) i (len - 1 - i) in
    let many : len - (i + 1) ≡ len - 1 - i = omega arith in
    let at : 0 + i ≡ i = omega arith in
    ap (λ n. front (moved xs (i + 1) i n) (len - 1)) many
    ∙ shows_fewer ys 0 (len - 1) len (omega arith) (omega arith)
    ∙ sym (shrunk_shows 1 ys 0 len (len - 1) (omega arith) (omega arith) (omega arith))
    ∙ ap (λ k. slice_range (sized 1 (moved xs (k + 1) k (len - 1 - i)) (0 + (len - 1))) 0 (0 + (len - 1))) (sym at)
    ∙ removed_shows 1 xs 0 len i (omega arith) below (omega arith)

-- equal bits written after the first n bits, or those after them left out
pub front_resized : (xs : List Bool) (len n : ℕ) (bit : Bool) → len < n → n ≤ length xs → front (put xs len (replicate (n - len) bit)) n ≡ take n (front xs len) ++ replicate (n - len) bit
front_resized xs len n bit more inside =
    let all : len + (n - len) ≡ n = omega arith in
    let few : take n (front xs len) ≡ front xs len = take_all n (front xs len) (omega (arith, length-run xs 0 len (omega arith))) in
    ap (front (put xs len (replicate (n - len) bit))) (sym all)
    ∙ front_extended xs (replicate (n - len) bit) len (n - len) (length-replicate (n - len) bit) (omega arith)
    ∙ ap (λ l. l ++ replicate (n - len) bit) (sym few)

-- a bit set where the bits from it on were moved to the next index
pub front_inserted : (xs list : List Bool) (len i : ℕ) (b : Bool) → front xs (len + 1) ≡ list ++ b ∷ [] → length list ≡ len → i ≤ len → len + 1 ≤ length xs → front (set (moved xs i (i + 1) (len - i)) i b) (len + 1) ≡ insert list i b
front_inserted xs list len i b shown size below inside =
    let many : len - i ≡ len + 1 - 1 - i = omega arith in
    let at : 0 + i ≡ i = omega arith in
    ap (λ n. front (set (moved xs i (i + 1) n) i b) (len + 1)) many
    ∙ ap (λ k. front (set (moved xs k (k + 1) (len + 1 - 1 - i)) k b) (len + 1)) (sym at)
    ∙ inserted_shows xs list 0 (len + 1) i b shown (omega arith) (omega arith) (omega arith)
