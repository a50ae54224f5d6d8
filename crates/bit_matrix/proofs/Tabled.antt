-- Sums of several rows, by the bits of a number.
use Rattle.std.proofs.Common.{◌≡◌, ℕ, zero, suc, ◌+◌, ◌/◌, ◌%◌, ◌^◌, ◌<◌, Bool, true, false, ◌&&◌, ◌||◌, eqb, refl, sym, ◌∙◌, ap, arith}
use Rattle.std.proofs.lemmas.Nat.{pow_pos}
use Rattle.bit_addressing.specs.Bits.{has_bit}
use Rattle.bit_addressing.proofs.Words.{has_above, has_low}
use Rattle.bit_matrix.specs.Matrix.{any_below, plus_mod_2, sum_mod_2}
use Rattle.bit_matrix.proofs.ModTwo.{plus_assoc, plus_false, sums_same}

or_false : (b : Bool) → (b || false) ≡ b
or_false true = refl
or_false false = refl

or_assoc : (a b c : Bool) → ((a || b) || c) ≡ (a || (b || c))
or_assoc true b c = refl
or_assoc false b c = refl

-- equal functions have a true value together
pub any_same : (f g : ℕ → Bool) (n : ℕ) → ((p : ℕ) → p < n → f p ≡ g p) → any_below f n ≡ any_below g n
any_same f g zero same = refl
any_same f g (suc n) same = ap (λ b. b || f n) (any_same f g n (λ p h. same p (omega arith))) ∙ ap (λ b. any_below g n || b) (same n (omega arith))

-- those below an index, and from it on
pub any_parted : (f : ℕ → Bool) (a n : ℕ) → any_below f (a + n) ≡ (any_below f a || any_below (λ p. f (a + p)) n)
any_parted f a zero = (let z : a + zero ≡ a = omega arith in ap (any_below f) z) ∙ sym (or_false (any_below f a))
any_parted f a (suc n) =
    (let up : a + suc n ≡ suc (a + n) = omega arith in ap (any_below f) up)
    ∙ ap (λ b. b || f (a + n)) (any_parted f a n) ∙ or_assoc (any_below f a) (any_below (λ p. f (a + p)) n) (f (a + n))

-- a value below n + 1 is one below n, or n itself
pub any_next : (f : ℕ → Bool) (n : ℕ) → any_below f (n + 1) ≡ (any_below f n || f n)
any_next f n = let up : n + 1 ≡ suc n = omega arith in ap (any_below f) up

-- the digits of a number to which a power of two is added
pub has_rest : (y n p : ℕ) → y < 2 ^ n → p < n → has_bit (y + 2 ^ n) p ≡ has_bit y p
has_rest y n p low h =
    let some : 0 < 2 ^ n = pow_pos n in
    let rest : (y + 2 ^ n) % 2 ^ n ≡ y = grind arith in
    sym (has_low (y + 2 ^ n) n p h) ∙ ap (λ k. has_bit k p) rest

-- the number with 2^n added has bit n
pub has_top : (y n : ℕ) → y < 2 ^ n → has_bit (y + 2 ^ n) n ≡ true
has_top y n low =
    let some : 0 < 2 ^ n = pow_pos n in
    let one : (y + 2 ^ n) / 2 ^ n ≡ 1 = grind arith in
    ap (λ q. eqb (q % 2) 1) one

-- the sum of a number's rows, and with one row more
module _ (row : ℕ → Bool) (n : ℕ) where
  abbrev sum_of : ℕ → ℕ → Bool
  sum_of x k = any_below (λ p. has_bit x p && row p) k

  -- a number without bit n has the union of the rows below n
  pub sum_low : (x : ℕ) → x < 2 ^ n → any_below (λ p. has_bit x p && row p) (n + 1) ≡ any_below (λ p. has_bit x p && row p) n
  sum_low x low = any_next (λ p. has_bit x p && row p) n ∙ ap (λ b. sum_of x n || (b && row n)) (has_above x n n low (omega arith)) ∙ or_false (sum_of x n)

  -- a number with bit n added has the union with row n
  pub sum_high : (y : ℕ) → y < 2 ^ n → any_below (λ p. has_bit (y + 2 ^ n) p && row p) (n + 1) ≡ (any_below (λ p. has_bit y p && row p) n || row n)
  sum_high y low =
      any_next (λ p. has_bit (y + 2 ^ n) p && row p) n ∙ ap (λ b. sum_of (y + 2 ^ n) n || (b && row n)) (has_top y n low)
      ∙ ap (λ b. b || row n) (any_same (λ p. has_bit (y + 2 ^ n) p && row p) (λ p. has_bit y p && row p) n (λ p h. ap (λ b. b && row p) (has_rest y n p low h)))

-- the rows that are set in a part of a row of the left matrix, after those before it
pub part_summed : (left row : ℕ → Bool) (a n part : ℕ) (old was new : Bool) → was ≡ (old || any_below (λ k. left k && row k) a) → ((p : ℕ) → p < n → has_bit part p ≡ left (a + p)) → new ≡ (was || any_below (λ p. has_bit part p && row (a + p)) n) → new ≡ (old || any_below (λ k. left k && row k) (a + n))
part_summed left row a n part old was new before same now =
    now
    ∙ ap (λ b. was || b) (any_same (λ p. has_bit part p && row (a + p)) (λ p. left (a + p) && row (a + p)) n (λ p h. ap (λ b. b && row (a + p)) (same p h)))
    ∙ ap (λ b. b || any_below (λ p. left (a + p) && row (a + p)) n) before
    ∙ or_assoc old (any_below (λ k. left k && row k) a) (any_below (λ p. left (a + p) && row (a + p)) n)
    ∙ ap (λ b. old || b) (sym (any_parted (λ k. left k && row k) a n))

twice : (n : ℕ) → 2 ^ suc n ≡ 2 ^ n + 2 ^ n
twice n = grind arith

-- 2^(n+1) is 2^n twice
pub twice_power : (n : ℕ) → 2 ^ (n + 1) ≡ 2 ^ n + 2 ^ n
twice_power n = (let up : n + 1 ≡ suc n = omega arith in ap (λ k. 2 ^ k) up) ∙ twice n

-- ---- the same of sums mod 2

-- a sum modulo two over a + n is that over a and that over the next n
pub added_parted : (f : ℕ → Bool) (a n : ℕ) → sum_mod_2 f (a + n) ≡ plus_mod_2 (sum_mod_2 f a) (sum_mod_2 (λ p. f (a + p)) n)
added_parted f a zero = (let z : a + zero ≡ a = omega arith in ap (sum_mod_2 f) z) ∙ sym (plus_false (sum_mod_2 f a))
added_parted f a (suc n) =
    (let up : a + suc n ≡ suc (a + n) = omega arith in ap (sum_mod_2 f) up)
    ∙ ap (λ b. plus_mod_2 b (f (a + n))) (added_parted f a n) ∙ plus_assoc (sum_mod_2 f a) (sum_mod_2 (λ p. f (a + p)) n) (f (a + n))

-- a sum modulo two has its last summand added
pub added_next : (f : ℕ → Bool) (n : ℕ) → sum_mod_2 f (n + 1) ≡ plus_mod_2 (sum_mod_2 f n) (f n)
added_next f n = let up : n + 1 ≡ suc n = omega arith in ap (sum_mod_2 f) up

module _ (row : ℕ → Bool) (n : ℕ) where
  abbrev added_of : ℕ → ℕ → Bool
  added_of x k = sum_mod_2 (λ p. has_bit x p && row p) k

  -- a number without bit n has the sum of the rows below n
  pub added_low : (x : ℕ) → x < 2 ^ n → sum_mod_2 (λ p. has_bit x p && row p) (n + 1) ≡ sum_mod_2 (λ p. has_bit x p && row p) n
  added_low x low = added_next (λ p. has_bit x p && row p) n ∙ ap (λ b. plus_mod_2 (added_of x n) (b && row n)) (has_above x n n low (omega arith)) ∙ plus_false (added_of x n)

  -- a number with bit n added has the sum with row n
  pub added_high : (y : ℕ) → y < 2 ^ n → sum_mod_2 (λ p. has_bit (y + 2 ^ n) p && row p) (n + 1) ≡ plus_mod_2 (sum_mod_2 (λ p. has_bit y p && row p) n) (row n)
  added_high y low =
      added_next (λ p. has_bit (y + 2 ^ n) p && row p) n ∙ ap (λ b. plus_mod_2 (added_of (y + 2 ^ n) n) (b && row n)) (has_top y n low)
      ∙ ap (λ b. plus_mod_2 b (row n)) (sums_same (λ p. has_bit (y + 2 ^ n) p && row p) (λ p. has_bit y p && row p) n (λ p h. ap (λ b. b && row p) (has_rest y n p low h)))

-- the table's sum for n rows more adds them to the product's bit
pub part_added : (left row : ℕ → Bool) (a n part : ℕ) (old was new : Bool) → was ≡ plus_mod_2 old (sum_mod_2 (λ k. left k && row k) a) → ((p : ℕ) → p < n → has_bit part p ≡ left (a + p)) → new ≡ plus_mod_2 was (sum_mod_2 (λ p. has_bit part p && row (a + p)) n) → new ≡ plus_mod_2 old (sum_mod_2 (λ k. left k && row k) (a + n))
part_added left row a n part old was new before same now =
    now
    ∙ ap (plus_mod_2 was) (sums_same (λ p. has_bit part p && row (a + p)) (λ p. left (a + p) && row (a + p)) n (λ p h. ap (λ b. b && row (a + p)) (same p h)))
    ∙ ap (λ b. plus_mod_2 b (sum_mod_2 (λ p. left (a + p) && row (a + p)) n)) before
    ∙ plus_assoc old (sum_mod_2 (λ k. left k && row k) a) (sum_mod_2 (λ p. left (a + p) && row (a + p)) n)
    ∙ ap (plus_mod_2 old) (sym (added_parted (λ k. left k && row k) a n))
