-- A list that begins with the digits of a number, or with a bit.
use Rattle.std.proofs.Common.{◌≡◌, ℕ, ◌+◌, ◌*◌, ◌/◌, ◌%◌, ◌^◌, ◌<◌, ◌≤◌, Bool, true, false, cond, List, [], ◌∷◌, ◌++◌, length, take, drop, slice_range, append_assoc, rules, slice_get, get_or, Some, None, Ok, Err, Result, OnErr, append-nil, nat_eq, sym, ◌∙◌, ap, subst, refl, zero, suc, inl, inr, arith}
use Rattle.std.proofs.lemmas.List.{drop_at, length-append, drop_all, same_lists, places}
use Rattle.std.proofs.lemmas.Option.{slice_get_within, slice_get-get_or, get_or_from_slice_get}
use Rattle.std.proofs.lemmas.Bool.{cases_lt}
use Rattle.std.proofs.Math.Seq.{take-append_seam}
use Rattle.std.proofs.lemmas.Nat.{div-mul-add, mod-mul-add, mod_below, pow-add}
use Rattle.std.proofs.Math.Nat.{mod-eq_of_lt, mul_comm}
use Rattle.std.proofs.Math.Pow.{pow_pos, pow_mono}
use Rattle.std.proofs.lemmas.List.{nil_from_length}
use Rattle.bit_addressing.specs.declared.length.TheConstants.{MAX_BITS}
use Rattle.bit_addressing.specs.declared.errors.GrowError.{GrowError}
use Rattle.bit_addressing.specs.declared.errors.GrowError.TheVariants.{TooLong, OutOfMemory}
use Rattle.bit_streams.specs.Streams.{Passed, Reading, Writing, Refuses}
use Rattle.bit_addressing.proofs.Runs.{mul_mono}
use Rattle.bit_addressing.specs.Binary.{value}
use Rattle.bit_addressing.specs.Row.{binary}
use Rattle.bit_rows.proofs.Binary.{length-binary, value_of_binary, binary_low, binary_parted}

-- the first n items of two lists, the first of length n, are the first list
pub take_front : (n : ℕ) (ys zs : List Bool) → length ys ≡ n → take n (ys ++ zs) ≡ ys
take_front n ys zs e = ap (λ k. take k (ys ++ zs)) (sym e) ∙ take-append_seam ys zs

-- what the first n bits write, and what follows, where a number's digits come first
pub reads_back : (n x : ℕ) (xs more : List Bool) → xs ≡ binary n x ++ more → x < 2 ^ n → (value (take n xs) ≡ x) × (drop n xs ≡ more)
reads_back n x xs more e below =
    let long = length-binary n x in
    (ap (λ l. value (take n l)) e ∙ ap value (take_front n (binary n x) more long) ∙ value_of_binary n x below, ap (drop n) e ∙ drop_at (binary n x) more n long)

-- a list that begins with n digits has at least n items
pub has_digits : (n x : ℕ) (xs more : List Bool) → xs ≡ binary n x ++ more → n ≤ length xs
has_digits n x xs more e =
    let long = length-binary n x in
    let all : length xs ≡ length (binary n x) + length more = ap length e ∙ length-append (binary n x) more in
    omega arith

bit_here : (xs : List Bool) (at : ℕ) (b : Bool) → slice_get xs at ≡ Some b → (at < length xs) × (get_or xs at false ≡ b)
bit_here xs at b e = (slice_get_within xs at b e, get_or_from_slice_get xs at b false e)

-- equal lists have equal first items
pub heads : {a b : Bool} {xs ys : List Bool} → a ∷ xs ≡ b ∷ ys → a ≡ b
heads e = ap (λ l. get_or l 0 false) e

-- equal lists have equal rests
pub tails : {a b : Bool} {xs ys : List Bool} → a ∷ xs ≡ b ∷ ys → xs ≡ ys
tails e = ap (drop 1) e

-- past the end nothing is left
pub none_left : (xs : List Bool) (at : ℕ) → slice_get xs at ≡ None → drop at xs ≡ []
none_left xs at e = elim (cases_lt at (length xs)) [
  | inl l ↦ absurd (let q = slice_get-get_or xs at false l in cc)
  | inr l ↦ drop_all at xs l
]

-- ---- digits of two numbers joined

-- the digits of a number joined of two are the digits of both
pub joined_digits : (a b p x : ℕ) → binary (a + b) (p * 2 ^ b + x % 2 ^ b) ≡ binary a p ++ binary b x
joined_digits a b p x =
    let low = mod_below x (2 ^ b) (pow_pos b) in
    binary_parted a b (p * 2 ^ b + x % 2 ^ b)
    ∙ ap (λ h. binary a h ++ binary b ((p * 2 ^ b + x % 2 ^ b) % 2 ^ b)) (div-mul-add p (2 ^ b) (x % 2 ^ b) low)
    ∙ ap (λ l. binary a p ++ binary b l) (mod-mul-add p (2 ^ b) (x % 2 ^ b) low)
    ∙ ap (λ l. binary a p ++ l) (binary_low b x)

-- a number joined of two is below the joined limit
pub joined_below : (a b p x : ℕ) → p < 2 ^ a → p * 2 ^ b + x % 2 ^ b < 2 ^ (a + b)
joined_below a b p x h =
    let low = mod_below x (2 ^ b) (pow_pos b) in
    let most = mul_mono (p + 1) (2 ^ a) (2 ^ b) (omega arith) in
    let one : (p + 1) * 2 ^ b ≡ p * 2 ^ b + 2 ^ b = omega arith in
    let all : 2 ^ (a + b) ≡ 2 ^ a * 2 ^ b = pow-add 2 a b in
    omega arith

-- what a register computes, where nothing passes 64 digits
pub joined_fits : (a b p x low : ℕ) → a + b ≤ 64 → p < 2 ^ a → low ≡ x % 2 ^ b → (p * 2 ^ b % 2 ^ 64 + low ≡ p * 2 ^ b + x % 2 ^ b) × (p * 2 ^ b + x % 2 ^ b < 2 ^ 64)
joined_fits a b p x low all small is =
    let below = joined_below a b p x small in
    let most = pow_mono all in
    let whole : p * 2 ^ b % 2 ^ 64 ≡ p * 2 ^ b = mod-eq_of_lt (omega arith) in
    (ap (λ k. k + low) whole ∙ ap (λ k. p * 2 ^ b + k) is, omega arith)

-- the part over all is the list
pub slice_whole : (n : ℕ) (xs : List Bool) → length xs ≡ n → slice_range xs 0 n ≡ xs
slice_whole n xs size = same_lists _ _ (search (rules, places)) (λ i e below. grind (arith, places))

-- with no bits waiting a block is written as it is
pub nothing_waits : (p x : ℕ) → binary 64 x ≡ binary 0 p ++ binary 64 x
unfolding binary
nothing_waits p x = refl

-- a block and what waits after it
pub block_written : (rs now : List Bool) (count pending room rest n x block high low : ℕ) → now ≡ rs ++ binary 64 block → binary 64 block ≡ binary count pending ++ binary room high → high ≡ x / 2 ^ rest → low ≡ x % 2 ^ rest → n ≡ room + rest
    → now ++ binary rest low ≡ (rs ++ binary count pending) ++ binary n x
block_written rs now count pending room rest n x block high low is block_is high_is low_is whole =
    let digits : binary n x ≡ binary room high ++ binary rest low =
    ap (λ k. binary k x) whole ∙ binary_parted room rest x ∙ ap (λ h. binary room h ++ binary rest (x % 2 ^ rest)) (sym high_is) ∙ ap (λ l. binary room high ++ binary rest l) (sym low_is) in
    ap (λ l. l ++ binary rest low) (is ∙ ap (λ l. rs ++ l) block_is)
    ∙ ap (λ l. l ++ binary rest low) (sym (append_assoc rs (binary count pending) (binary room high)))
    ∙ append_assoc (rs ++ binary count pending) (binary room high) (binary rest low)
    ∙ ap (λ l. (rs ++ binary count pending) ++ l) (sym digits)

-- where no bits wait the list is the words' row
pub none_waits : (rs : List Bool) (count p : ℕ) → count ≡ 0 → rs ++ binary count p ≡ rs
none_waits rs count p e = ap (λ l. rs ++ l) (nil_from_length (binary count p) (length-binary count p ∙ e)) ∙ append-nil rs

-- the bits written are those of the words and those that wait
pub written_length : (rs : List Bool) (count pending : ℕ) → length (rs ++ binary count pending) ≡ length rs + count
written_length rs count pending = let digits = length-binary count pending in length-append rs (binary count pending) ∙ omega arith

-- before the first number nothing is written
pub nothing_written : (rs : List Bool) → rs ≡ [] → rs ++ binary 0 0 ≡ []
nothing_written rs e = none_waits rs 0 0 refl ∙ e

-- a number that fits is not refused for its length
pub not_refused : (wanted : ℕ) (old new : Writing) → wanted ≤ MAX_BITS → Refuses {A = Unit {0}} (Ok tt) wanted old new
not_refused wanted old new h = record {
  too_long = (λ e. absurd cc, λ l. absurd (omega arith));
  memory = λ e. absurd cc;
  unchanged = search rules;
}

-- a number past the longest list is refused, and nothing is written
pub refused_long : (wanted : ℕ) (old : Writing) → MAX_BITS < wanted → Refuses {A = Unit {0}} (Err TooLong) wanted old old
refused_long wanted old h = record {
  too_long = (λ e. h, λ l. refl);
  memory = λ e. absurd cc;
  unchanged = search rules;
}

-- where memory is refused the list is as it was
pub refused_memory : (wanted : ℕ) (old new : Writing) → wanted ≤ MAX_BITS → old.capacity < wanted → new.list ≡ old.list → Refuses {A = Unit {0}} (Err OutOfMemory) wanted old new
refused_memory wanted old new h full same = record {
  too_long = (λ e. absurd cc, λ l. absurd (omega arith));
  memory = λ e. full;
  unchanged = search (rules, same);
}

-- one bit is one digit
pub bit_digit : (b : Bool) → binary 1 (cond b 1 0) ≡ b ∷ []
unfolding binary
bit_digit true = refl
bit_digit false = refl

-- the digits read are what was passed
pub passed_by : (n x : ℕ) (old new : Reading) → old.rest ≡ binary n x ++ new.rest → x < 2 ^ n → new.position ≡ old.position + n → Passed n old new
passed_by n x old new is below at =
    let digits = length-binary n x in
    let sum = ap length is ∙ length-append (binary n x) new.rest in
    record {
      rest = sym (reads_back n x old.rest new.rest is below).1;
      position = at;
      left = omega arith;
    }

-- a number of one digit is its bit
pub bit_read : (x : ℕ) → x < 2 ^ 1 → binary 1 x ≡ nat_eq x 1 ∷ []
unfolding binary
bit_read zero h = refl
bit_read (suc zero) h = refl
bit_read (suc (suc x)) h = absurd (omega arith)

-- equal counts pass the same
pub passed_at : (n m : ℕ) (old new : Reading) → n ≡ m → Passed n old new → Passed m old new
passed_at n m old new e p = subst (λ k. Passed k old new) e p

-- room for more words is room for the bits that they are for
pub room_made : (w words more cap bits : ℕ) → bits ≤ w * more → words + more ≤ cap → w * words + bits ≤ w * cap
room_made w words more cap bits fits room =
    let up = mul_mono (words + more) cap w room in
    let a : (words + more) * w ≡ words * w + more * w = omega arith in
    let b = mul_comm w words in
    let c = mul_comm w more in
    let d = mul_comm w cap in
    omega arith

-- too few words are too few bits
pub room_short : (w words more cap bits : ℕ) → w * more < bits + w → cap < words + more → w * cap < w * words + bits
room_short w words more cap bits least short =
    let up = mul_mono (cap + 1) (words + more) w (omega arith) in
    let a : (words + more) * w ≡ words * w + more * w = omega arith in
    let one : (cap + 1) * w ≡ cap * w + w = omega arith in
    let b = mul_comm w words in
    let c = mul_comm w more in
    let d = mul_comm w cap in
    omega arith

-- a call is refused as the call that it makes, which needs no more bits
pub refused_as : {A : Type 0} (result : Result A GrowError) (wanted more : ℕ) (old new was now : Writing) → was.capacity ≡ old.capacity → (now.list ≡ was.list → new.list ≡ old.list) → more ≤ wanted → (MAX_BITS < wanted → MAX_BITS < more) → Refuses result more was now → Refuses result wanted old new
refused_as {A = A} result wanted more old new was now capacity back least most r = record {
  too_long = (λ e. (let p = r.too_long.0 e in omega arith), λ h. r.too_long.1 (most h));
  memory = λ e. (let full = r.memory e in omega arith);
  unchanged = kept result r.unchanged;
}
  where
    kept : (answer : Result A GrowError) → OnErr answer (now.list ≡ was.list) → OnErr answer (new.list ≡ old.list)
    kept (Ok x) e = search rules
    kept (Err why) e = back e

-- what is not refused is within the limit
pub within_limit : {A : Type 0} (x : A) (more : ℕ) (was now : Writing) → Refuses (Ok x) more was now → more ≤ MAX_BITS
within_limit x more was now r = elim (cases_lt MAX_BITS more) [
  | inl l ↦ absurd (let e = r.too_long.1 l in cc)
  | inr l ↦ l
]
