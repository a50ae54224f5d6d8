-- Bits appended: a part of the list once more, and in several steps.
use Rattle.std.proofs.Common.{if◌then◌else◌, eqb, ◌≡◌, ℕ, ◌+◌, ◌-◌, ◌*◌, ◌/◌, ◌^◌, ◌<◌, ◌≤◌, Bool, false, List, [], ◌∷◌, ◌++◌, length, replicate, slice_range, refl, sym, ◌∙◌, ap, inl, inr, arith, rules}
use Rattle.std.proofs.lemmas.Bool.{cases_lt}
use Rattle.std.proofs.lemmas.List.{places, same_lists, length-append}
use Rattle.std.proofs.Math.Nat.{mul-le-mul_left, div-one}
use Rattle.std.proofs.lemmas.Bool.Decides.{nat_tests, eqb_tells}
use Rattle.bit_addressing.specs.Bits.{has_bit}
use Rattle.bit_addressing.specs.Row.{words_for, put, sized, moved, number_bits}
use Rattle.bit_rows.proofs.Binary.{length-number_bits, number_bits_none}
use Rattle.bit_addressing.proofs.Words.{has_shr_low}
use Rattle.bit_addressing.proofs.lists.Sized.{room, words_for_mono, words_for_le, sized_more, length-sized, sized_same}
use Rattle.bit_addressing.proofs.lists.Put.{length-put, put_joined, put_none}
use Rattle.bit_addressing.proofs.lists.Shown.{length-run, shown_part, shows_sized, grown_shows}
use Rattle.bit_addressing.proofs.Shifts.{put_moved}
use Rattle.std.proofs.Common.{Result, Err, ◌≢◌}
use Rattle.bit_addressing.specs.declared.errors.GrowError.{GrowError}
use Rattle.bit_addressing.specs.declared.errors.GrowError.TheVariants.{TooLong, OutOfMemory}
use Rattle.bit_addressing.specs.declared.length.TheConstants.{MAX_BITS}
use Rattle.bit_slice.proofs.Writing.{number_bits_next}
use Rattle.bit_containers.specs.BitVec.{Held, Grew, RefusesOnly}
use Rattle.bit_containers.specs.Making.{highest_bits}

-- a part of what is shown moved after it
pub part_moved : (w : ℕ) (xs : List Bool) (head len s n : ℕ) → 0 < w → s + n ≤ len → head + len ≤ length xs
    → moved (sized w xs (head + (len + n))) (head + s) (head + len) n ≡ put (sized w xs (head + len + n)) (head + len) (slice_range (slice_range xs head (head + len)) s (s + n))
part_moved w xs head len s n positive h k =
    let e : head + (len + n) ≡ head + len + n = omega arith in
    let r = (room w (head + len + n) positive).0 in
    let size = length-sized w xs (head + len + n) in
    let all : List Bool = sized w xs (head + len + n) in
    ap (λ b. moved (sized w xs b) (head + s) (head + len) n) e
    ∙ sym (put_moved all (head + s) (head + len) n (omega arith) (omega arith))
    ∙ ap (put all (head + len)) (shows_sized w xs (head + len + n) (head + s) (head + s + n) positive (omega arith) (omega arith) (omega arith) ∙ shown_part xs head len s n h k)

-- a part of the list moved to its end is appended to it
pub part_joined : (w : ℕ) (xs : List Bool) (head len s n : ℕ) → 0 < w → s + n ≤ len → head + len ≤ length xs
    → slice_range (moved (sized w xs (head + (len + n))) (head + s) (head + len) n) head (head + (len + n)) ≡ slice_range xs head (head + len) ++ slice_range (slice_range xs head (head + len)) s (s + n)
part_joined w xs head len s n positive h k =
    let list : List Bool = slice_range xs head (head + len) in
    let shown : length list ≡ len = length-run xs head len k in
    let size : length (slice_range list s (s + n)) ≡ n = length-run list s n (omega arith) in
    ap (λ r. slice_range r head (head + (len + n))) (part_moved w xs head len s n positive h k)
    ∙ grown_shows w xs (slice_range list s (s + n)) head len n positive k (sym size)

-- ---- in several steps

put_front : (xs ys : List Bool) (e p q : ℕ) → e ≤ length xs → e + length ys ≤ length xs + p → put (xs ++ replicate p false) e ys ++ replicate q false ≡ put (xs ++ replicate (p + q) false) e ys
unfolding put
put_front xs ys e p q h k = same_lists _ _ (search (rules, places)) (λ i d below. grind (arith, places))

put_twice : (w : ℕ) (xs ys zs : List Bool) (e n m : ℕ) → 0 < w → length xs ≡ w * words_for w e → length ys ≡ n → length zs ≡ m → put (sized w (put (sized w xs (e + n)) e ys) (e + n + m)) (e + n) zs ≡ put (sized w xs (e + (n + m))) e (ys ++ zs)
put_twice w xs ys zs e n m positive inside size more =
    let a : ℕ = w * words_for w (e + n) in
    let b : ℕ = w * words_for w (e + n + m) in
    let q = (room w e positive).0 in
    let r = (room w (e + n) positive).0 in
    let s = (room w (e + n + m) positive).0 in
    let first : w * words_for w e ≤ a = mul-le-mul_left w (words_for_mono w e (e + n) positive (omega arith)) in
    let fewer : a ≤ b = mul-le-mul_left w (words_for_mono w (e + n) (e + n + m) positive (omega arith)) in
    let mid : List Bool = put (sized w xs (e + n)) e ys in
    let long : length mid ≡ a = length-put (sized w xs (e + n)) ys e (rw (length-sized w xs (e + n)) (omega arith)) ∙ length-sized w xs (e + n) in
    let p : a - length xs + (b - a) ≡ b - length xs = omega arith in
    let next : e + n + m ≡ e + (n + m) = omega arith in
    let grown : sized w mid (e + n + m) ≡ put (sized w xs (e + n + m)) e ys =
    sym (sized_more w mid (e + n + m) (b - a) (omega arith))
    ∙ ap (λ l. put l e ys ++ replicate (b - a) false) (sym (sized_more w xs (e + n) (a - length xs) (omega arith)))
    ∙ put_front xs ys e (a - length xs) (b - a) (omega arith) (omega arith)
    ∙ ap (λ k. put (xs ++ replicate k false) e ys) p
    ∙ ap (λ l. put l e ys) (sized_more w xs (e + n + m) (b - length xs) (omega arith)) in
    ap (λ l. put l (e + n) zs) grown
    ∙ put_joined (sized w xs (e + n + m)) ys zs e (e + n) (omega arith) (rw (length-sized w xs (e + n + m)) (omega arith))
    ∙ ap (λ k. put (sized w xs k) e (ys ++ zs)) next

-- bits appended, and then more
pub grew_twice : {X : Type 0} (w : ℕ) (old mid new : Held X) (xs ys : List Bool) → 0 < w → length old.row ≡ w * words_for w (old.head + length old.list) → Grew w old mid xs → Grew w mid new ys → Grew w old new (xs ++ ys)
grew_twice w old mid new xs ys positive inside first second =
    let e = old.head + length old.list in
    let both : length (xs ++ ys) ≡ length xs + length ys = length-append xs ys in
    let at : mid.head + length mid.list ≡ e + length xs = omega (arith, first.head, first.len) in
    let upto : e + (length xs + length ys) ≡ e + length (xs ++ ys) = omega arith in
    record {
      head = second.head ∙ first.head;
      len = omega (arith, first.len, second.len);
      row = second.row ∙ ap (λ n. put (sized w mid.row (n + length ys)) n ys) at ∙ ap (λ r. put (sized w r (e + length xs + length ys)) (e + length xs) ys) first.row
          ∙ put_twice w old.row xs ys e (length xs) (length ys) positive inside refl refl
          ∙ ap (λ n. put (sized w old.row n) e (xs ++ ys)) upto;
    }

-- no bit appended
pub grew_none : {X : Type 0} (w : ℕ) (v : Held X) → length v.row ≡ w * words_for w (v.head + length v.list) → Grew w v v []
grew_none w v size =
    let end : v.head + length v.list + 0 ≡ v.head + length v.list = omega arith in
    record {
      head = refl;
      len = omega arith;
      row = sym (put_none (sized w v.row (v.head + length v.list + 0)) (v.head + length v.list) ∙ ap (sized w v.row) end ∙ sized_same w v.row (v.head + length v.list) size);
    }

-- a row that grew, with its list
pub grew_by : {X : Type 0} (w : ℕ) (old new : Held X) (bits : List Bool) → new.head ≡ old.head → new.list ≡ old.list ++ bits → new.row ≡ put (sized w old.row (old.head + length old.list + length bits)) (old.head + length old.list) bits → Grew w old new bits
grew_by w old new bits head list row = record { head = head; len = ap length list ∙ length-append old.list bits; row = row }

-- words are wanted for bits alone
pub some_bits : (w n : ℕ) → 0 < w → 0 < words_for w n → 0 < n
some_bits w n positive h = elim (cases_lt 0 n) [
  | inl some ↦ some
  | inr none ↦ let few = words_for_le w n 0 positive (omega arith) in absurd (omega arith)
]

-- false bits and false bits after them
pub sized_false : (w n : ℕ) → 0 < w → sized w (replicate n false) n ≡ replicate (w * words_for w n) false
unfolding sized
sized_false w n positive =
    let r = (room w n positive).0 in
    same_lists _ _ (search (rules, places)) (λ i d below. grind (arith, places))

-- ---- bits gathered in a number

-- the n highest bits have length n
pub length-highest_bits : (x n : ℕ) → length (highest_bits x n) ≡ n
unfolding highest_bits
length-highest_bits x n = length-number_bits (x / 2 ^ (64 - n)) n

-- no highest bits are the empty list
pub highest_bits_none : (x : ℕ) → highest_bits x 0 ≡ []
unfolding highest_bits
highest_bits_none x = number_bits_none (x / 2 ^ 64)

-- all bits of a word
pub highest_bits_all : (x n : ℕ) → n ≡ 64 → number_bits x n ≡ highest_bits x n
unfolding highest_bits
highest_bits_all x n is = rw is (ap (λ y. number_bits y 64) (sym (div-one x)))

-- one bit more, at the top of a number that is shifted down by one place
pub highest_bits_next : (x y n : ℕ) (b : Bool) → n < 64 → ((p : ℕ) → p < 64 → has_bit y p ≡ (if eqb p 63 then b else has_bit (x / 2 ^ 1) p)) → highest_bits y (n + 1) ≡ highest_bits x n ++ b ∷ []
unfolding highest_bits
highest_bits_next x y n b few change =
    let down : ℕ = 64 - (n + 1) in
    number_bits_next (x / 2 ^ (64 - n)) (y / 2 ^ down) n b (λ p h.
    has_shr_low y down p ∙ change (p + down) (omega arith) ∙ elim (eqb_tells p n) [
      | inl e ↦
          let top : p + down ≡ 63 = omega (arith, e.1) in
          rw (top, e.0) refl
      | inr e ↦
          let below : eqb (p + down) 63 ≡ false = grind (arith, nat_tests, e.1) in
          let at : p + down + 1 ≡ p + (64 - n) = omega arith in
          rw (below, e.0) (has_shr_low x 1 (p + down) ∙ ap (has_bit x) at ∙ sym (has_shr_low x (64 - n) p))
    ])

one_error : {A : Type 0} (result : Result A GrowError) → result ≡ Err TooLong → result ≢ Err OutOfMemory
one_error result is other = cc

-- memory is refused only for a length that a vector may have
pub wanted_fits : {X A : Type 0} (result : Result A GrowError) (wanted : ℕ) (old new : Held X) → RefusesOnly result wanted old new → result ≡ Err OutOfMemory → wanted ≤ MAX_BITS
wanted_fits result wanted old new r out = elim (cases_lt MAX_BITS wanted) [
  | inl past ↦ absurd (one_error result (r.too_long.1 past) out)
  | inr few ↦ few
]
