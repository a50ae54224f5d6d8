-- The ones of blocks, summed in a tree: read from the top down, made, and kept when a bit changes.
use Rattle.std.proofs.Common.{◌≡◌, ◌≢◌, ℕ, zero, suc, ◌+◌, ◌-◌, ◌*◌, ◌/◌, ◌^◌, ◌<◌, ◌≤◌, Bool, true, false, not, cond, List, [], ◌∷◌, ◌++◌, get_or, length, set, take, count_by, slice_range, refl, sym, ◌∙◌, ap, subst, inl, inr, arith}
use Rattle.std.specs.Prelude.{◌⊎◌}
use Rattle.std.proofs.lemmas.Bool.{cases_eq, cases_lt}
use Rattle.std.proofs.lemmas.List.{ext_get_or, length-set, length-take, set-get_or, take-set-le, get_or-append-add, get_or-set_other, get_or-set_same, get_or-take}
use Rattle.std.proofs.lemmas.List.Sums.{count_by-le-length, sum_by-set}
use Rattle.std.proofs.lemmas.Nat.{pow_pos}
use Rattle.std.proofs.Math.Bool.{beq}
use Rattle.std.proofs.Math.Seq.{take-set-lt}
use Rattle.std.specs.Int.Count.{count_leading_zeros}
use Rattle.std.proofs.Math.Pow.{pow_mono}
use Rattle.std.proofs.lemmas.Nat.{leading_length}
use Rattle.bit_addressing.specs.declared.length.TheConstants.{MAX_BITS}
use Rattle.bit_addressing.proofs.lists.Shown.{length-between}
use Rattle.bit_slice.specs.Numbered.{count_before}
use Rattle.bit_slice.proofs.Numbered.{at_most_index, more_before, parted}
use Rattle.bit_slice.proofs.Rules.{zeros_and_ones}
use Rattle.bit_ranks.specs.Sums.{IsSummed, before_block}

-- as many levels as a number has binary digits
pub levels_tall : (n : ℕ) → n < 2 ^ 64 → n < 2 ^ (64 - count_leading_zeros 64 n)
levels_tall n few =
    let d = leading_length 64 n few in
    let same : d.0 ≡ 64 - count_leading_zeros 64 n = (let e = d.1 in omega arith) in
    subst (λ m. n < 2 ^ m) same d.2

-- the number of levels of a list's blocks is below 64
pub levels_small : (n : ℕ) → n * 512 ≤ MAX_BITS → 64 - count_leading_zeros 64 n < 64
levels_small n few =
    let d = leading_length 64 n (omega arith) in
    let e = d.1 in
    let high = d.3 in
    elim (cases_lt d.0 64) [
      | inl l ↦ omega arith
      | inr l ↦ absurd (let most : 2 ^ 64 ≤ 2 ^ d.0 = pow_mono l in omega arith)
    ]

-- twice as many
pub twice : (l : ℕ) → 2 ^ suc l ≡ 2 ^ l + 2 ^ l
twice l = grind arith

-- a node of the tree: its halves have m blocks each
pub record AreHalves (f : ℕ → ℕ) (n : ℕ) (sums : List ℕ) (level first m : ℕ) : Type 0 where
  pub width : m ≡ 2 ^ (level - 1)
  pub twice : 2 ^ level ≡ m + m
  pub some : 0 < m
  pub up : level ≡ suc (level - 1)
  pub middle : first + m ≤ n → f (first + m) ≡ f first + get_or sums (first + m - 1) 0
  pub left : IsSummed f n sums (level - 1) first
  pub right : IsSummed f n sums (level - 1) (first + m)

-- the sum of a node is those of its two halves
pub halves : (f : ℕ → ℕ) (n : ℕ) (sums : List ℕ) (level first m : ℕ) → 0 < level → m ≡ 2 ^ (level - 1) → IsSummed f n sums level first → AreHalves f n sums level first m
halves f n sums level first m above width s =
    let l = level - 1 in
    let up : level ≡ suc l = omega arith in
    let node : IsSummed f n sums (suc l) first = subst (λ k. IsSummed f n sums k first) up s in
    let same : 2 ^ l ≡ m = sym width in
    record {
      width = width;
      twice = ap (λ k. 2 ^ k) up ∙ twice l ∙ ap (λ k. k + k) same;
      some = (let p : 0 < 2 ^ l = pow_pos l in omega arith);
      up = up;
      middle = subst (λ k. first + k ≤ n → f (first + k) ≡ f first + get_or sums (first + k - 1) 0) same node.0;
      left = node.1;
      right = subst (λ k. IsSummed f n sums l (first + k)) same node.2;
    }

-- how many blocks the bits before a block fill, and those of a part
pub before_few : (xs : List Bool) (j : ℕ) → before_block xs j ≤ j * 512
before_few xs j = at_most_index (λ b. b) xs (j * 512)

-- the bits of one kind before the middle of a node
module _ (xs : List Bool) (first m s : ℕ) (inside : first + m ≤ length xs / 512) (sum : before_block xs (first + m) ≡ before_block xs first + s) where
  abbrev part : List Bool
  part = slice_range xs (first * 512) ((first + m) * 512)

  size : length part ≡ m * 512
  size = (let long = length-between xs (first * 512) ((first + m) * 512) (omega arith) in omega arith)

  two_parts : (p : Bool → Bool) → count_by p (take ((first + m) * 512) xs) ≡ count_by p (take (first * 512) xs) + count_by p part
  two_parts p = parted p xs (first * 512) ((first + m) * 512) (omega arith) (omega arith)

  -- a sum is at most the bits of its blocks
  pub few_there : s ≤ m * 512
  few_there = omega (arith, two_parts (λ b. b), count_by-le-length (λ b. b) part, size)

  -- the count of either bit over some blocks, from the count of ones
  pub of_kind : (bit : Bool) → count_before bit xs ((first + m) * 512) ≡ count_before bit xs (first * 512) + cond bit s (m * 512 - s)
  of_kind true = sum
  of_kind false = omega (arith, two_parts not, two_parts (λ b. b), zeros_and_ones part, size)

module _ (f g : ℕ → ℕ) (n : ℕ) where
  -- sums that stay are those of numbers that are all moved by as much
  pub kept : (p q : ℕ) (sums new : List ℕ) (l from : ℕ) → ((k : ℕ) → from ≤ k → k + 1 < from + 2 ^ l → get_or new k 0 ≡ get_or sums k 0) → ((j : ℕ) → from ≤ j → j < from + 2 ^ l → g j + p ≡ f j + q) → IsSummed f n sums l from → IsSummed g n new l from
  kept p q sums new zero from same moved s = tt
  kept p q sums new (suc l) from same moved s =
      let t = twice l in
      let some : 0 < 2 ^ l = pow_pos l in (
        (λ h. let here = s.0 h in let a = moved from (omega arith) (omega arith) in let b = moved (from + 2 ^ l) (omega arith) (omega arith) in let c = same (from + 2 ^ l - 1) (omega arith) (omega arith) in omega arith),
        kept p q sums new l from (λ k a b. same k a (omega arith)) (λ j a b. moved j a (omega arith)) s.1,
        kept p q sums new l (from + 2 ^ l) (λ k a b. same k (omega arith) (omega arith)) (λ j a b. moved j (omega arith) (omega arith)) s.2,
      )

-- no block of these is whole
pub past : (f : ℕ → ℕ) (n : ℕ) (sums : List ℕ) (l from : ℕ) → n ≤ from → IsSummed f n sums l from
past f n sums zero from h = tt
past f n sums (suc l) from h =
    let some : 0 < 2 ^ l = pow_pos l in ((λ k. absurd (omega arith)), past f n sums l from h, past f n sums l (from + 2 ^ l) (omega arith))

-- a node of the tree from its halves and its sum
pub joined : (f : ℕ → ℕ) (n : ℕ) (sums : List ℕ) (level first m : ℕ) → level ≡ suc (level - 1) → m ≡ 2 ^ (level - 1) → (first + m ≤ n → f (first + m) ≡ f first + get_or sums (first + m - 1) 0) → IsSummed f n sums (level - 1) first → IsSummed f n sums (level - 1) (first + m) → IsSummed f n sums level first
joined f n sums level first m up width middle left right =
    let l = level - 1 in
    let node : IsSummed f n sums (suc l) first = (
      subst (λ k. first + k ≤ n → f (first + k) ≡ f first + get_or sums (first + k - 1) 0) width middle,
      left,
      subst (λ k. IsSummed f n sums l (first + k)) width right,
    ) in
    subst (λ k. IsSummed f n sums k first) (sym up) node

-- ---- a bit that changes

-- whatever is done to the sums of these blocks, all are summed if these are
pub record IsOpen (g : ℕ → ℕ) (n : ℕ) (levels : ℕ) (sums : List ℕ) (level first : ℕ) : Type 0 where
  pub closes : (new : List ℕ) → ((k : ℕ) → (k < first) ⊎ (first + 2 ^ level ≤ k + 1) → get_or new k 0 ≡ get_or sums k 0) → IsSummed g n new level first → IsSummed g n new levels 0

pub opens : (g : ℕ → ℕ) (n levels : ℕ) (sums : List ℕ) → IsOpen g n levels sums levels 0
opens g n levels sums = record { closes = λ new out all. all }

-- at the last level nothing is open
pub closed : (g : ℕ → ℕ) (n levels : ℕ) (sums : List ℕ) (level first : ℕ) → level ≡ 0 → IsOpen g n levels sums level first → IsSummed g n sums levels 0
closed g n levels sums level first none o = o.closes sums (λ k h. refl) (subst (λ l. IsSummed g n sums l first) (sym none) tt)

module _ (f g : ℕ → ℕ) (n p q block : ℕ) (same : (j : ℕ) → j ≤ block → g j ≡ f j) (moved : (j : ℕ) → block < j → g j + p ≡ f j + q) where
  -- it is in the second half
  pub upper : (levels : ℕ) (sums : List ℕ) (level first m : ℕ) → AreHalves f n sums level first m → first + m ≤ block → IsOpen g n levels sums level first → IsOpen g n levels sums (level - 1) (first + m)
  upper levels sums level first m h past o =
      let w = h.width in
      let t = h.twice in
      let some = h.some in
      record {
        closes = λ new out rest. o.closes new
            (λ k e. out k (elim e [ inl a ↦ inl (omega arith) | inr b ↦ inr (omega arith) ]))
            (joined g n new level first m h.up w
            (λ e. let here = h.middle e in let a = same first (omega arith) in let b = same (first + m) (omega arith) in let c = out (first + m - 1) (inl (omega arith)) in omega arith)
            (kept f g n 0 0 sums new (level - 1) first (λ k a b. out k (inl (omega arith))) (λ j a b. let e = same j (omega arith) in omega arith) h.left)
            rest);
      }

  -- it is in the first half, whose sum counts it
  pub lower : (levels : ℕ) (sums next : List ℕ) (level first m : ℕ) → AreHalves f n sums level first m → first ≤ block → block < first + m → (first + m ≤ n → get_or next (first + m - 1) 0 + p ≡ get_or sums (first + m - 1) 0 + q) → ((k : ℕ) → k + 1 ≢ first + m → get_or next k 0 ≡ get_or sums k 0) → IsOpen g n levels sums level first → IsOpen g n levels next (level - 1) first
  lower levels sums next level first m h begins below here others o =
      let w = h.width in
      let t = h.twice in
      let some = h.some in
      record {
        closes = λ new out rest. o.closes new
            (λ k e. let apart : k + 1 ≢ first + m = elim e [ inl a ↦ (λ i. absurd (omega arith)) | inr b ↦ (λ i. absurd (omega arith)) ] in out k (elim e [ inl a ↦ inl a | inr b ↦ inr (omega arith) ]) ∙ others k apart)
            (joined g n new level first m h.up w
            (λ e. let was = h.middle e in let now = here e in let a = same first (omega arith) in let b = moved (first + m) (omega arith) in let c = out (first + m - 1) (inr (omega arith)) in omega arith)
            rest
            (kept f g n p q sums new (level - 1) (first + m) (λ k a b. out k (inr (omega arith)) ∙ others k (λ e. absurd (omega arith))) (λ j a b. moved j (omega arith)) h.right));
      }

  -- the first half, whose other sums stay
  pub lower_left : (sums next : List ℕ) (level first m : ℕ) → AreHalves f n sums level first m → ((k : ℕ) → k + 1 ≢ first + m → get_or next k 0 ≡ get_or sums k 0) → IsSummed f n next (level - 1) first
  lower_left sums next level first m h others = let w = h.width in kept f f n 0 0 sums next (level - 1) first (λ k a b. others k (λ e. absurd (omega arith))) (λ j a b. refl) h.left

-- there are no fewer ones before a later block
pub before_more : (xs : List Bool) (a b : ℕ) → a ≤ b → b ≤ length xs / 512 → before_block xs a ≤ before_block xs b
before_more xs a b h k = more_before (λ b. b) xs (a * 512) (b * 512) (omega arith) (omega arith)

-- a bit that is flipped is counted, or counted no more, before each later block
module _ (xs : List Bool) (i : ℕ) (inside : i < length xs) where
  abbrev flipped : List Bool
  flipped = set xs i (not (get_or xs i false))

  -- a flip changes no sum of blocks before it
  pub flipped_before : (j : ℕ) → j ≤ i / 512 → before_block xs j ≡ before_block flipped j
  flipped_before j h = ap (count_by (λ b. b)) (sym (take-set-le (j * 512) xs i (not (get_or xs i false)) (omega arith)))

  -- a flip changes the sums of the blocks after it by one
  pub flipped_after : (j : ℕ) → i / 512 < j → before_block xs j + cond (not (get_or xs i false)) 1 0 ≡ before_block flipped j + cond (get_or xs i false) 1 0
  flipped_after j h =
      let low : i < j * 512 = omega arith in
      let size = length-take (j * 512) xs in
      let one = sum_by-set (λ b. cond b 1 0) (take (j * 512) xs) i (not (get_or xs i false)) false (omega arith) in
      let bit : get_or (take (j * 512) xs) i false ≡ get_or xs i false = get_or-take (j * 512) xs i false low in
      let part = ap (count_by (λ b. b)) (take-set-lt (j * 512) xs i (not (get_or xs i false)) low) in
      let worth : Bool → ℕ = λ b. cond b 1 0 in
      omega (arith, one, ap worth bit, part)

  -- a sum that counted the bit is not zero
  pub counted : (first m s : ℕ) → first ≤ i / 512 → i / 512 < first + m → first + m ≤ length xs / 512 → before_block flipped (first + m) ≡ before_block flipped first + s → get_or xs i false ≡ false → 1 ≤ s
  counted first m s begins below there sum off =
      let worth : Bool → ℕ = λ b. cond b 1 0 in
      let none : Bool → ℕ = λ b. cond (not b) 1 0 in
      omega (arith, sum, ap worth off, ap none off, flipped_before first begins, flipped_after (first + m) below, before_more xs first (first + m) (omega arith) there)

-- a sum that is written
pub written_here : (sums : List ℕ) (at x : ℕ) → 0 < at → at ≤ length sums → get_or (set sums (at - 1) x) (at - 1) 0 ≡ x
written_here sums at x some inside = get_or-set_same sums (at - 1) x 0 (omega arith)

-- writing one sum leaves the others
pub written_others : (sums : List ℕ) (at x : ℕ) → 0 < at → (k : ℕ) → k + 1 ≢ at → get_or (set sums (at - 1) x) k 0 ≡ get_or sums k 0
written_others sums at x some k apart = get_or-set_other sums (at - 1) k x 0 (λ e. apart (omega arith))

-- a sum that is appended
pub appended_here : (sums : List ℕ) (x n : ℕ) → n ≡ length sums → get_or (sums ++ x ∷ []) n 0 ≡ x
appended_here sums x n is = (let e : n ≡ length sums + 0 = omega arith in ap (λ k. get_or (sums ++ x ∷ []) k 0) e) ∙ get_or-append-add sums (x ∷ []) 0 0

-- the ones before a block and in it
pub before_upto : (xs : List Bool) (b : ℕ) → b < length xs / 512 → before_block xs b + count_by (λ bit. bit) (slice_range xs (b * 512) ((b + 1) * 512)) ≡ before_block xs (b + 1)
before_upto xs b h = sym (parted (λ bit. bit) xs (b * 512) ((b + 1) * 512) (omega arith) (omega arith))

-- ---- a bit that is written

-- a bit that is written over itself changes nothing
pub unchanged : (xs : List Bool) (i : ℕ) (bit : Bool) → get_or xs i false ≡ bit → set xs i bit ≡ xs
unchanged xs i bit is = ap (set xs i) (sym is) ∙ set-get_or xs i false

-- one that differs is flipped back by a flip
pub flipped_back : (xs ys : List Bool) (i : ℕ) (bit : Bool) → i < length xs → ys ≡ set xs i bit → not bit ≡ get_or xs i false → set ys i (not (get_or ys i false)) ≡ xs
flipped_back xs ys i bit inside is was =
    let size : length ys ≡ length xs = ap length is ∙ length-set xs i bit in
    let here : get_or ys i false ≡ bit = ap (λ l. get_or l i false) is ∙ get_or-set_same xs i bit false inside in
    let long : length (set ys i (not (get_or ys i false))) ≡ length ys = length-set ys i (not (get_or ys i false)) in
    ext_get_or false (set ys i (not (get_or ys i false))) xs (long ∙ size) (λ j h. elim (cases_eq j i) [
      | inl e ↦ ap (λ k. get_or (set ys i (not (get_or ys i false))) k false) e ∙ get_or-set_same ys i (not (get_or ys i false)) false (omega arith) ∙ ap not here ∙ was ∙ ap (λ k. get_or xs k false) (sym e)
      | inr apart ↦ get_or-set_other ys i j (not (get_or ys i false)) false apart ∙ ap (λ l. get_or l j false) is ∙ get_or-set_other xs i j bit false apart
    ])

-- a bit that differs is the complement
pub other_bit : (x bit : Bool) → not (beq x bit) ≡ true → not bit ≡ x
other_bit true true apart = cc
other_bit true false apart = refl
other_bit false true apart = refl
other_bit false false apart = cc

-- a bit that does not differ is equal
pub same_bit : (x bit : Bool) → not (beq x bit) ≡ false → x ≡ bit
same_bit true true same = refl
same_bit true false same = cc
same_bit false true same = cc
same_bit false false same = refl
