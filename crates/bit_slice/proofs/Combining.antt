-- Two lists made into one, and what is left of a row.
use Rattle.std.proofs.Common.{◌≡◌, ℕ, zero, suc, ◌+◌, ◌-◌, ◌≤◌, Bool, false, List, [], ◌∷◌, ◌++◌, map, length, replicate, take, drop, slice_range, refl, sym, ◌∙◌, ap, arith, rules}
use Rattle.std.specs.Prelude.{min}
use Rattle.std.proofs.lemmas.List.{length-drop, length-take-le, length-replicate, places, same_lists}
use Rattle.std.specs.Simd.Lanes.{zip2}
use Rattle.std.proofs.lemmas.Simd.{length-zip2}
use Rattle.bit_addressing.specs.Row.{put}
use Rattle.bit_addressing.proofs.lists.Put.{put_joined, length-put}
use Rattle.bit_addressing.proofs.lists.Shown.{shows_fewer, length-run}
use Rattle.bit_rows.proofs.Combinations.{put_later}
use Rattle.bit_addressing.proofs.lists.Shown.{length-between}
use Rattle.bit_slice.specs.Operators.{combined}

-- of two lists of one length
pub zipped : (f : Bool → Bool → Bool) (xs ys : List Bool) → length xs ≡ length ys → combined f xs ys ≡ zip2 f xs ys
zipped f [] ys h = refl
zipped f (x ∷ xs) [] h = cc
zipped f (x ∷ xs) (y ∷ ys) h = ap (λ l. f x y ∷ l) (zipped f xs ys (omega arith))

-- what stands on both sides, and after it what the left has alone
split : (f : Bool → Bool → Bool) (n : ℕ) (xs ys : List Bool) → n ≡ min (length xs) (length ys) → combined f xs ys ≡ zip2 f (take n xs) (take n ys) ++ map (λ x. f x false) (drop n xs)
split f zero [] ys h = refl
split f zero (x ∷ xs) [] h = ap (λ l. f x false ∷ l) (split f zero xs [] (omega arith))
split f zero (x ∷ xs) (y ∷ ys) h = absurd (omega arith)
split f (suc n) [] ys h = absurd (omega arith)
split f (suc n) (x ∷ xs) [] h = absurd (omega arith)
split f (suc n) (x ∷ xs) (y ∷ ys) h = ap (λ l. f x y ∷ l) (split f n xs ys (omega arith))

none_left : (f : Bool → Bool → Bool) → ((x : Bool) → f x false ≡ false) → (xs : List Bool) → map (λ x. f x false) xs ≡ replicate (length xs) false
none_left f clears [] = refl
none_left f clears (x ∷ xs) = ap (λ y. y ∷ map (λ x. f x false) xs) (clears x) ∙ ap (λ l. false ∷ l) (none_left f clears xs)

all_left : (f : Bool → Bool → Bool) → ((x : Bool) → f x false ≡ x) → (xs : List Bool) → map (λ x. f x false) xs ≡ xs
all_left f keeps [] = refl
all_left f keeps (x ∷ xs) = ap (λ y. y ∷ map (λ x. f x false) xs) (keeps x) ∙ ap (λ l. x ∷ l) (all_left f keeps xs)

-- a combination is as long as its left list
pub length-combined : (f : Bool → Bool → Bool) (xs ys : List Bool) → length (combined f xs ys) ≡ length xs
length-combined f [] ys = refl
length-combined f (x ∷ xs) [] = ap suc (length-combined f xs [])
length-combined f (x ∷ xs) (y ∷ ys) = ap suc (length-combined f xs ys)

-- ---- written over a row

-- a run written over itself
put_same : (xs : List Bool) (a b : ℕ) → a ≤ b → b ≤ length xs → put xs a (slice_range xs a b) ≡ xs
unfolding put
put_same xs a b h l = same_lists _ _ (search (rules, places)) (λ i e below. grind (arith, places))

-- what stands after a run that is written stays
pub put_kept : (xs ys : List Bool) (d n b : ℕ) → n ≡ d + length ys → n ≤ b → b ≤ length xs → put xs d (ys ++ slice_range xs n b) ≡ put xs d ys
put_kept xs ys d n b is h l =
    let long = length-put xs ys d (omega arith) in
    let size : length (slice_range xs n b) ≡ b - n = length-between xs n b l in
    let later : slice_range (put xs d ys) n b ≡ slice_range xs n b = put_later xs ys d n b (omega arith) (omega arith) h l in
    sym (put_joined xs ys (slice_range xs n b) d n is (omega arith))
    ∙ ap (put (put xs d ys) n) (sym later) ∙ put_same (put xs d ys) n b h (omega arith)

-- the rest of a run
pub rest_of_run : (xs : List Bool) (head len n : ℕ) → n ≤ len → head + len ≤ length xs → drop n (slice_range xs head (head + len)) ≡ slice_range xs (head + n) (head + len)
rest_of_run xs head len n h l = same_lists _ _ (search (rules, places)) (λ i e below. grind (arith, places))

module _ (f : Bool → Bool → Bool) (old ys : List Bool) (head len n : ℕ) (least : n ≡ min len (length ys)) (room : head + len ≤ length old) where
  abbrev xs : List Bool
  xs = slice_range old head (head + len)

  abbrev front : List Bool
  front = zip2 f (slice_range old head (head + n)) (take n ys)

  size : length xs ≡ len
  size = length-run old head len room

  front_is : front ≡ zip2 f (take n xs) (take n ys)
  front_is = ap (λ l. zip2 f l (take n ys)) (shows_fewer old head n len (omega arith) room)

  length-front : length front ≡ n
  length-front =
      let a : length (slice_range old head (head + n)) ≡ n = length-run old head n (omega arith) in
      let b : length (take n ys) ≡ n = length-take-le n ys (omega arith) in
      length-zip2 f (slice_range old head (head + n)) (take n ys) (a ∙ sym b) ∙ a

  parts : combined f xs ys ≡ front ++ map (λ x. f x false) (drop n xs)
  parts = let s = size in split f n xs ys (omega arith) ∙ ap (λ l. l ++ map (λ x. f x false) (drop n xs)) (sym front_is)

  -- where f keeps what stands beside false, the rest is left as it is
  pub written_front : ((x : Bool) → f x false ≡ x) → put old head front ≡ put old head (combined f xs ys)
  written_front keeps =
      let s = length-front in
      sym (put_kept old front head (head + n) (head + len) (omega arith) (omega arith) room)
      ∙ ap (λ l. put old head (front ++ l)) (sym (all_left f keeps (drop n xs) ∙ rest_of_run old head len n (omega arith) room))
      ∙ ap (put old head) (sym parts)

  -- where f clears what stands beside false, so is the rest
  pub written_cleared : ((x : Bool) → f x false ≡ false) → put (put old head front) (head + n) (replicate (head + len - (head + n)) false) ≡ put old head (combined f xs ys)
  written_cleared clears =
      let s = length-front in
      let z = size in
      let rest : length (drop n xs) ≡ head + len - (head + n) = length-drop n xs ∙ (omega arith) in
      put_joined old front (replicate (head + len - (head + n)) false) head (head + n) (omega arith) (let r = length-replicate (head + len - (head + n)) false in omega arith)
      ∙ ap (put old head) (ap (λ k. front ++ replicate k false) (sym rest) ∙ ap (λ l. front ++ l) (sym (none_left f clears (drop n xs))) ∙ sym parts)
