-- Runs of a row that are counted and compared a word at a time.
use Rattle.std.proofs.Common.{◌≡◌, ◌↔◌, ◌==◌, IsTrue, ℕ, zero, suc, ◌+◌, ◌-◌, ◌*◌, ◌%◌, ◌<◌, ◌≤◌, Bool, true, false, List, ◌++◌, length, min, max, slice_range, refl, sym, ◌∙◌, ap, arith, rules}
use Rattle.std.proofs.lemmas.List.{ext_get_or}
use Rattle.std.proofs.Math.Nat.{mul-le-mul_left, mod-eq_of_lt, mul-mod_right, mul-zero}
use Rattle.bit_addressing.specs.Bits.{has_bit}
use Rattle.bit_addressing.specs.Row.{number_of, words_for}
use Rattle.bit_addressing.proofs.lists.Sized.{room}
use Rattle.bit_addressing.proofs.Chunks.{has_number}
use Rattle.bit_addressing.proofs.Rows.{mul_add}
use Rattle.bit_addressing.proofs.Runs.{slices_joined}
use Rattle.bit_slice.proofs.Parts.{run_in_run}

-- two lists of one length with one number are one list
pub one_number : (xs ys : List Bool) → length xs ≡ length ys → number_of xs ≡ number_of ys → xs ≡ ys
one_number xs ys size same = ext_get_or false xs ys size (λ i h. sym (has_number xs i) ∙ ap (λ n. has_bit n i) same ∙ has_number ys i)

-- the first index of head .. end that is in word k or after it
abbrev pub begin : ℕ → ℕ → ℕ → ℕ → ℕ
begin w head end k = min end (max head (w * k))

-- the bits of head .. end that word k has
pub record IsPiece (w head end from upto : ℕ) : Type 0 where
  pub begins : head ≤ from
  pub ordered : from ≤ upto
  pub ends : upto ≤ end
  pub few : upto - from ≤ w
  pub in_one : from % w + (upto - from) ≤ w

-- the first piece of a view begins at the head
pub begin_first : (w head end k : ℕ) → head ≤ end → k ≡ 0 → begin w head end k ≡ head
begin_first w head end k h e = let z : w * k ≡ 0 = ap (λ n. w * n) e ∙ mul-zero w in omega arith

-- all words of the run
pub begin_last : (w head end k : ℕ) → 0 < w → head ≤ end → k ≡ words_for w end → begin w head end k ≡ end
begin_last w head end k positive h e = let r = (room w end positive).0 in let m : w * k ≡ w * words_for w end = ap (λ n. w * n) e in omega arith

-- a word of the run begins before its end
pub word_before : (w end k : ℕ) → 0 < w → k < words_for w end → w * k < end
word_before w end k positive h =
    let r = (room w end positive).1 in
    let m : w * (k + 1) ≤ w * words_for w end = mul-le-mul_left w (omega arith) in
    let s : w * k + w * 1 ≡ w * (k + 1) = mul_add w k 1 in
    let o : w * 1 ≡ w = search rules in
    omega arith

-- and the next one not far after it
pub next_before : (w end k : ℕ) → 0 < w → k < words_for w end → w * (k + 1) < end + w
next_before w end k positive h =
    let before = word_before w end k positive h in
    let s : w * k + w * 1 ≡ w * (k + 1) = mul_add w k 1 in
    let o : w * 1 ≡ w = search rules in
    omega arith

-- the first bit of a word of the run has an index that fits
pub word_fits : (w end k n bound : ℕ) → 0 < w → k < n → n ≡ words_for w end → end + w < bound → w * k < bound
word_fits w end k n bound positive below count fits =
    let before = word_before w end k positive (omega (arith, below, count)) in
    omega (arith, before, fits)

-- and so has the first bit of the next word
pub next_fits : (w end k n bound : ℕ) → 0 < w → k < n → n ≡ words_for w end → end + w < bound → w * (k + 1) < bound
next_fits w end k n bound positive below count fits =
    let before = next_before w end k positive (omega (arith, below, count)) in
    omega (arith, before, fits)

-- each word of a view holds one piece of it
pub piece : (w head end k : ℕ) → 0 < w → head < w → head ≤ end → k < words_for w end → IsPiece w head end (begin w head end k) (begin w head end (k + 1))
piece w head end zero positive low ordered inside =
    let z : w * 0 ≡ 0 = mul-zero w in
    let o : w * (0 + 1) ≡ w = search rules in
    let b : begin w head end 0 ≡ head = begin_first w head end 0 ordered refl in
    let m : head % w ≡ head = mod-eq_of_lt low in
    rw b record { begins = omega arith; ordered = omega arith; ends = omega arith; few = omega arith; in_one = rw m (omega arith) }
piece w head end (suc k) positive low ordered inside =
    let before = word_before w end (suc k) positive inside in
    let s : w * suc k + w * 1 ≡ w * (suc k + 1) = mul_add w (suc k) 1 in
    let o : w * 1 ≡ w = search rules in
    let f : w * 1 + w * k ≡ w * (1 + k) = mul_add w 1 k in
    let n : 1 + k ≡ suc k = omega arith in
    let p : w * (1 + k) ≡ w * suc k = ap (λ x. w * x) n in
    let b : begin w head end (suc k) ≡ w * suc k = omega arith in
    let m : (w * suc k) % w ≡ 0 = mul-mod_right w (suc k) in
    rw b record { begins = omega arith; ordered = omega arith; ends = omega arith; few = omega arith; in_one = rw m (omega arith) }

-- the same of bounds with names
pub piece_of : {w head end k from upto : ℕ} → 0 < w → head < w → head ≤ end → k < words_for w end → from ≡ begin w head end k → upto ≡ begin w head end (k + 1) → IsPiece w head end from upto
piece_of {w} {head} {end} {k} positive low ordered inside first last = rw (first, last) (piece w head end k positive low ordered inside)

-- a piece of another row at the same place lies in one word too
pub piece_beside : {w head end from upto : ℕ} (b : ℕ) → IsPiece w head end from upto → b ≡ head → (b + (from - head)) % w + (upto - from) ≤ w
piece_beside {w} {head} {end} {from} {upto} b p e =
    let at : b + (from - head) ≡ from = let h = p.begins in omega arith in
    rw at p.in_one

-- the counts of the words that were read, and of one more
pub read_more : (n0 n1 n2 k : ℕ) → n1 ≤ n0 + k → n2 ≤ n1 + 1 → n2 ≤ n0 + (k + 1)
read_more n0 n1 n2 k h l = omega arith

-- n bits from `from` on, on one side, and from `at` on, on the other
pub record IsRunOf (head end b from upto at n : ℕ) : Type 0 where
  pub begins : head ≤ from
  pub ordered : from ≤ upto
  pub ends : upto ≤ end
  pub place : at ≡ b + (from - head)
  pub count : n ≡ upto - from

module _ (xs ys : List Bool) (head end b : ℕ) (left : end ≤ length xs) (right : b + (end - head) ≤ length ys) where
  -- runs that are the same stay so with a piece that is
  pub same_more : (from upto at n : ℕ) → IsRunOf head end b from upto at n → slice_range xs head from ≡ slice_range ys b (b + (from - head)) → slice_range xs from (from + n) ≡ slice_range ys at (at + n) → slice_range xs head upto ≡ slice_range ys b (b + (upto - head))
  same_more from upto at n r before here =
      let next : from + n ≡ upto = let o = r.ordered in let c = r.count in omega arith in
      let there : at + n ≡ b + (upto - head) = let p = r.place in let o = r.ordered in let c = r.count in let h = r.begins in omega arith in
      let o = r.ordered in let h = r.begins in let e = r.ends in
      sym (slices_joined xs head from upto h o (omega arith))
      ∙ ap (λ l. l ++ slice_range xs from upto) before
      ∙ ap (λ l. slice_range ys b (b + (from - head)) ++ l) (ap (slice_range xs from) (sym next) ∙ here ∙ ap (λ p. slice_range ys p (at + n)) r.place ∙ ap (slice_range ys (b + (from - head))) there)
      ∙ slices_joined ys b (b + (from - head)) (b + (upto - head)) (omega arith) (omega arith) (omega arith)

  -- runs that are the same are so in each piece
  pub same_piece : (from upto at n : ℕ) → IsRunOf head end b from upto at n → slice_range xs head end ≡ slice_range ys b (b + (end - head)) → slice_range xs from (from + n) ≡ slice_range ys at (at + n)
  same_piece from upto at n r same =
      let o = r.ordered in let h = r.begins in let e = r.ends in let c = r.count in let p = r.place in
      let i : head + (from - head) ≡ from = omega arith in
      let j : head + (upto - head) ≡ from + n = omega arith in
      let k : b + (upto - head) ≡ at + n = omega arith in
      ap (λ m. slice_range xs m (from + n)) (sym i) ∙ ap (slice_range xs (head + (from - head))) (sym j)
      ∙ sym (run_in_run xs head end (from - head) (upto - head) (omega arith) left (omega arith))
      ∙ ap (λ l. slice_range l (from - head) (upto - head)) same
      ∙ run_in_run ys b (b + (end - head)) (from - head) (upto - head) (omega arith) right (omega arith)
      ∙ ap (λ m. slice_range ys m (b + (upto - head))) (sym p) ∙ ap (slice_range ys at) k

-- a test of two numbers tells what holds exactly where they are equal
pub told_by : (x y : ℕ) (P : Type 0) → (x ≡ y → P) → (P → x ≡ y) → IsTrue (x == y) ↔ P
told_by x y P there back = (λ t. there (search rules), λ p. let e = back p in search rules)

-- true is true
pub told : IsTrue true
told = refl

-- false is not true
pub not_told : IsTrue false → ⊥
not_told t = search rules

-- the result false, where the fact does not hold, and the result true, where it does
pub told_false : (P : Type 0) → (P → ⊥) → IsTrue false ↔ P
told_false P fails = (λ t. absurd (not_told t), λ p. absurd (fails p))

-- a claim that holds is told by true
pub told_true : (P : Type 0) → P → IsTrue true ↔ P
told_true P holds = (λ t. holds, λ p. told)
