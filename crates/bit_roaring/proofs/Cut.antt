-- Ascending numbers, cut where their blocks end.
use Rattle.std.proofs.Common.{◌≡◌, ◌≢◌, ℕ, zero, suc, ◌+◌, ◌*◌, ◌/◌, ◌%◌, ◌^◌, ◌<◌, ◌≤◌, List, [], ◌∷◌, ◌++◌, append_assoc, append-nil, drop, get_or, length, map, take, refl, sym, ◌∙◌, ap, subst, arith}
use Rattle.std.specs.Prelude.{All}
use Rattle.std.proofs.lemmas.List.{take-append-drop}
use Rattle.bit_blocks.specs.Numbers.{Ascends, AscendsIn}
use Rattle.bit_blocks.specs.declared.keyed.Keyed.{Keyed}
use Rattle.bit_blocks.proofs.Ascending.{later}
use Rattle.bit_blocks.proofs.Merging.{ascends_dropped}
use Rattle.bit_roaring.specs.Keyed.{AreKeyed, keyed_numbers, set_numbers}
use Rattle.bit_roaring.proofs.Between.{set_append}
use Rattle.bit_roaring.proofs.Keys.{keyed}
use Rattle.bit_roaring.proofs.Made.{pushed_below, pushed_keyed}

-- ---- the low halves of numbers with one key

-- one more low half that is read
pub lows_more : (xs : List ℕ) (i d : ℕ) → i < length xs → map (λ n. n % 65536) (take (i + 1) xs) ≡ map (λ n. n % 65536) (take i xs) ++ get_or xs i d % 65536 ∷ []
lows_more xs i d inside = let e : i + 1 ≡ suc i = omega arith in ap (λ n. map (λ k. k % 65536) (take n xs)) e ∙ next xs i inside
  where
    next : (l : List ℕ) (n : ℕ) → n < length l → map (λ k. k % 65536) (take (suc n) l) ≡ map (λ k. k % 65536) (take n l) ++ get_or l n d % 65536 ∷ []
    next [] n h = absurd (omega arith)
    next (x ∷ l) zero h = refl
    next (x ∷ l) (suc n) h = ap (λ m. x % 65536 ∷ m) (next l n (omega arith))

pub lows_whole : (xs : List ℕ) (i : ℕ) → length xs ≤ i → map (λ n. n % 65536) (take i xs) ≡ map (λ n. n % 65536) xs
lows_whole [] zero past = refl
lows_whole [] (suc i) past = refl
lows_whole (x ∷ xs) zero past = absurd (omega arith)
lows_whole (x ∷ xs) (suc i) past = ap (λ l. x % 65536 ∷ l) (lows_whole xs i (omega arith))

lows_ascend : (key low : ℕ) (xs : List ℕ) → AscendsIn (key * 65536 + low) ((key + 1) * 65536) xs → AscendsIn low 65536 (map (λ n. n % 65536) xs)
lows_ascend key low [] h = tt
lows_ascend key low (x ∷ xs) h =
    let first = h.0 in
    let below = h.1 in
    let next : x + 1 ≡ key * 65536 + (x % 65536 + 1) = omega arith in
    (omega arith, omega arith, lows_ascend key (x % 65536 + 1) xs (subst (λ n. AscendsIn n ((key + 1) * 65536) xs) next h.2))

lows_back : (key from : ℕ) (xs : List ℕ) → key * 65536 ≤ from → AscendsIn from ((key + 1) * 65536) xs → map (λ k. key * 65536 + k) (map (λ n. n % 65536) xs) ≡ xs
lows_back key from [] least h = refl
lows_back key from (x ∷ xs) least h =
    let first = h.0 in
    let below = h.1 in
    let here : key * 65536 + x % 65536 ≡ x = omega arith in
    ap (λ n. n ∷ map (λ k. key * 65536 + k) (map (λ n. n % 65536) xs)) here ∙ ap (λ l. x ∷ l) (lows_back key (x + 1) xs (omega arith) h.2)

-- they ascend
pub lows_up : (key : ℕ) (xs lows : List ℕ) → AscendsIn (key * 65536) ((key + 1) * 65536) xs → lows ≡ map (λ n. n % 65536) xs → Ascends lows
lows_up key xs lows h are =
    let from : key * 65536 ≡ key * 65536 + 0 = omega arith in
    subst Ascends (sym are) (lows_ascend key 0 xs (subst (λ n. AscendsIn n ((key + 1) * 65536) xs) from h))

-- and so do those of their block
pub block_up : (key : ℕ) (xs lows block : List ℕ) → AscendsIn (key * 65536) ((key + 1) * 65536) xs → lows ≡ map (λ n. n % 65536) xs → block ≡ lows → Ascends block
block_up key xs lows block h are made = subst Ascends (sym made) (lows_up key xs lows h are)

-- which with their key are the numbers
pub block_numbers : (key : ℕ) (xs lows block : List ℕ) → AscendsIn (key * 65536) ((key + 1) * 65536) xs → lows ≡ map (λ n. n % 65536) xs → block ≡ lows → map (λ k. key * 65536 + k) block ≡ xs
block_numbers key xs lows block h are made = ap (map (λ k. key * 65536 + k)) (made ∙ are) ∙ lows_back key (key * 65536) xs (omega arith) h

-- ---- the numbers at the front that have a key

-- the first n numbers have a key, and those after them a greater one
pub record IsCut (xs : List ℕ) (key n : ℕ) : Type 0 where
  pub some : 0 < n
  pub front : AscendsIn (key * 65536) ((key + 1) * 65536) (take n xs)
  pub back : AscendsIn ((key + 1) * 65536) (2 ^ 32) (drop n xs)

front_ascends : (key low : ℕ) (xs : List ℕ) (n : ℕ) → AscendsIn low (2 ^ 32) xs → ((i d : ℕ) → i < n → get_or xs i d / 65536 ≡ key) → AscendsIn low ((key + 1) * 65536) (take n xs)
front_ascends key low [] zero h same = tt
front_ascends key low [] (suc n) h same = tt
front_ascends key low (x ∷ xs) zero h same = tt
front_ascends key low (x ∷ xs) (suc n) h same =
    let here = same 0 x (omega arith) in
    (h.0, omega arith, front_ascends key (x + 1) xs n h.2 (λ i d inside. same (suc i) d (omega arith)))

pub is_cut : (from : ℕ) (xs : List ℕ) (key n : ℕ) → AscendsIn from (2 ^ 32) xs → 0 < length xs → key ≡ get_or xs 0 0 / 65536 → ((i d : ℕ) → i < n → get_or xs i d / 65536 ≡ key) → ((d : ℕ) → n < length xs → get_or xs n d / 65536 ≢ key) → IsCut xs key n
is_cut from [] key n h some first same other = absurd (omega arith)
is_cut from (x ∷ xs) key zero h some first same other = absurd (other x (omega arith) (sym first))
is_cut from (x ∷ xs) key (suc n) h some first same other = record {
  some = omega arith;
  front = front_ascends key (key * 65536) (x ∷ xs) (suc n) (omega arith, h.1, h.2) same;
  back = ascends_dropped from (2 ^ 32) (x ∷ xs) (suc n) ((key + 1) * 65536) h (λ inside. let more = later from (2 ^ 32) (x ∷ xs) 0 (suc n) 0 h (omega arith) inside in after (get_or (x ∷ xs) (suc n) 0) more (other 0 inside));
}
  where
    after : (y : ℕ) → x < y → y / 65536 ≢ key → (key + 1) * 65536 ≤ y
    after y more apart = omega (arith, apart)

-- ---- blocks of the numbers at the front, one after another

-- the blocks of the numbers before an index
pub record CutTo (xs : List ℕ) (blocks : List Keyed) (from : ℕ) : Type 0 where
  pub least : ℕ
  pub keyed : AreKeyed blocks
  pub below : All (λ b. b.key < least) blocks
  pub rest : AscendsIn (least * 65536) (2 ^ 32) (drop from xs)
  pub whole : set_numbers blocks ++ drop from xs ≡ xs

none_left : (n : ℕ) → drop {A = ℕ} n [] ≡ []
none_left zero = refl
none_left (suc n) = refl

drop_twice : (xs : List ℕ) (a n : ℕ) → drop n (drop a xs) ≡ drop (a + n) xs
drop_twice xs zero n = let e : n ≡ 0 + n = omega arith in ap (λ m. drop m xs) e
drop_twice [] (suc a) n = none_left n ∙ sym (none_left (suc a + n))
drop_twice (x ∷ xs) (suc a) n = drop_twice xs a n ∙ (let e : suc (a + n) ≡ suc a + n = omega arith in ap (λ m. drop m (x ∷ xs)) e)

-- a key is past those of the blocks before it
key_within : (xs : List ℕ) (least key : ℕ) → AscendsIn (least * 65536) (2 ^ 32) xs → key ≡ get_or xs 0 0 / 65536 → 0 < length xs → (least ≤ key) × (key < 65536)
key_within [] least key h first some = absurd (omega arith)
key_within (x ∷ xs) least key h first some = let low = h.0 in let high = h.1 in (omega arith, omega arith)

front_some : (xs block : List ℕ) (key n : ℕ) → 0 < length xs → 0 < n → map (λ k. key * 65536 + k) block ≡ take n xs → 0 < length block
front_some [] block key n some more same = absurd (omega arith)
front_some (x ∷ xs) block key zero some more same = absurd (omega arith)
front_some (x ∷ xs) [] key (suc n) some more same = let e = ap length same in absurd (omega arith)
front_some (x ∷ xs) (y ∷ block) key (suc n) some more same = omega arith

-- one more block, of the numbers at the front of the rest
pub one_cut : (xs rest : List ℕ) (blocks : List Keyed) (from key n : ℕ) (block : List ℕ) → rest ≡ drop from xs → CutTo xs blocks from → key ≡ get_or rest 0 0 / 65536 → 0 < length rest → IsCut rest key n → Ascends block → map (λ k. key * 65536 + k) block ≡ take n rest
    → CutTo xs (blocks ++ keyed key block ∷ []) (from + n)
one_cut xs rest blocks from key n block is c first some cut up same = record {
  least = key + 1;
  keyed = pushed_keyed 0 blocks key block c.keyed low (omega arith) at.1 up (front_some rest block key n some cut.some same);
  below = pushed_below blocks key block low;
  rest = subst (AscendsIn ((key + 1) * 65536) (2 ^ 32)) dropped cut.back;
  whole = ap (λ l. l ++ drop (from + n) xs) (set_append blocks (keyed key block ∷ []) ∙ ap (λ l. set_numbers blocks ++ l) (append-nil (keyed_numbers (keyed key block)) ∙ same))
      ∙ append_assoc (set_numbers blocks) (take n rest) (drop (from + n) xs)
      ∙ ap (λ l. set_numbers blocks ++ (take n rest ++ l)) (sym dropped)
      ∙ ap (λ l. set_numbers blocks ++ l) (take-append-drop n rest ∙ is)
      ∙ c.whole;
}
  where
    at : (c.least ≤ key) × (key < 65536)
    at = key_within rest c.least key (subst (AscendsIn (c.least * 65536) (2 ^ 32)) (sym is) c.rest) first some

    low : All (λ b. b.key < key) blocks
    low k d inside = let less = c.below k d inside in let more = at.0 in omega arith

    dropped : drop n rest ≡ drop (from + n) xs
    dropped = ap (drop n) is ∙ drop_twice xs from n
