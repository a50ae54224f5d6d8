-- LEB128: the first bytes of a code as one number.
use Rattle.std.proofs.Common.{◌≡◌, ℕ, zero, suc, ◌+◌, ◌-◌, ◌*◌, ◌/◌, ◌%◌, ◌^◌, ◌<◌, ◌≤◌, ◌⊎◌, Bool, List, ◌++◌, append_assoc, drop, length, take, refl, sym, ◌∙◌, ap, inl, inr, arith}
use Rattle.std.proofs.Math.Nat.{mod-eq_of_lt}
use Rattle.std.proofs.Math.Pow.{pow_mono, pow_pos}
use Rattle.std.proofs.lemmas.Bool.{cases_lt}
use Rattle.std.proofs.lemmas.List.{length-append, length-take, places, same_lists, take-append-drop}
use Rattle.std.proofs.lemmas.Nat.{pow-add}
use Rattle.bit_addressing.specs.Row.{binary}
use Rattle.bit_addressing.proofs.Runs.{mul_mono}
use Rattle.bit_rows.proofs.Binary.{binary_parted, length-binary}
use Rattle.bit_streams.specs.Codes.{leb_bytes}
use Rattle.bit_streams.proofs.Bytes.{first_byte, leb_last, leb_more, leb_read, leb_within}
use Rattle.bit_streams.proofs.Lists.{joined_below, joined_digits, joined_fits, reads_back, take_front}

-- ---- writing

-- the first i bytes of a code, as a number, and what is left of the number for the bytes after them
pub record IsBegun (x i code left : ℕ) : Type 0 where
  pub bits : leb_bytes 9 x ≡ binary (8 * i) code ++ leb_bytes (9 - i) left
  pub small : code < 2 ^ (8 * i)
  pub some : 0 < i → 0 < left

no_digits : (code : ℕ) (xs : List Bool) → xs ≡ binary 0 code ++ xs
unfolding binary
no_digits code xs = refl

-- before the first byte all of the number is left
pub begun_none : (x : ℕ) → IsBegun x 0 0 x
begun_none x = record {
  bits = no_digits 0 (leb_bytes 9 x);
  small = pow_pos 0;
  some = λ h. absurd (omega arith);
}

module _ (i code : ℕ) (few : i < 8) (small : code < 2 ^ (8 * i)) where
  -- a byte after those of a number
  pub byte_after : (byte : ℕ) → byte < 256 → (binary (8 * i + 8) (code * 2 ^ 8 % 2 ^ 64 + byte) ≡ binary (8 * i) code ++ binary 8 byte) × (code * 2 ^ 8 % 2 ^ 64 + byte < 2 ^ (8 * i + 8)) × (code * 2 ^ 8 % 2 ^ 64 + byte < 2 ^ 64)
  byte_after byte below =
      let low : byte ≡ byte % 2 ^ 8 = sym (mod-eq_of_lt below) in
      let fits = joined_fits (8 * i) 8 code byte byte (omega arith) small low in
      let less = joined_below (8 * i) 8 code byte small in
      let is = fits.0 in
      let all = fits.1 in
      (ap (binary (8 * i + 8)) is ∙ joined_digits (8 * i) 8 code byte, omega arith, omega arith)

-- one more byte, after which more follow
pub begun_on : (x i code left : ℕ) → i < 8 → 128 ≤ left → IsBegun x i code left → IsBegun x (i + 1) (code * 2 ^ 8 % 2 ^ 64 + (left % 128 + 128)) (left / 128)
begun_on x i code left few high b =
    let byte = left % 128 + 128 in
    let after = byte_after i code few b.small byte (omega arith) in
    let next : 8 * i + 8 ≡ 8 * (i + 1) = omega arith in
    let rest : 9 - i - 1 ≡ 9 - (i + 1) = omega arith in
    record {
      bits = b.bits ∙ ap (λ l. binary (8 * i) code ++ l) (leb_more (9 - i) left (omega arith) high) ∙ sym (append_assoc (binary (8 * i) code) (binary 8 byte) (leb_bytes (9 - i - 1) (left / 128)))
          ∙ ap (λ l. l ++ leb_bytes (9 - i - 1) (left / 128)) (sym after.0)
          ∙ ap (λ k. binary k (code * 2 ^ 8 % 2 ^ 64 + byte) ++ leb_bytes (9 - i - 1) (left / 128)) next
          ∙ ap (λ k. binary (8 * (i + 1)) (code * 2 ^ 8 % 2 ^ 64 + byte) ++ leb_bytes k (left / 128)) rest;
      small = (let p = after.1 in let e = ap (λ k. 2 ^ k) next in omega arith);
      some = λ h. omega arith;
    }

-- the last byte
pub begun_last : (x i code left : ℕ) → i < 8 → left < 128 → IsBegun x i code left → (binary (8 * i + 8) (code * 2 ^ 8 % 2 ^ 64 + left) ≡ leb_bytes 9 x) × (code * 2 ^ 8 % 2 ^ 64 + left < 2 ^ 64)
begun_last x i code left few low b =
    let after = byte_after i code few b.small left (omega arith) in
    (after.0 ∙ ap (λ l. binary (8 * i) code ++ l) (sym (leb_last (9 - i) left low)) ∙ sym b.bits, after.2)

-- ---- reading

-- the first i bytes of a block are those of a number's code, whatever follows them
pub record IsFront (block i x : ℕ) : Type 0 where
  pub bits : (upper : ℕ) → (i ≡ 0) ⊎ (0 < upper) → leb_bytes 9 (upper * 2 ^ (7 * i) + x) ≡ take (8 * i) (binary 64 block) ++ leb_bytes (9 - i) upper
  pub small : x < 2 ^ (7 * i)

-- before the first byte
pub front_none : (block : ℕ) → IsFront block 0 0
front_none block = record {
  bits = λ upper h. (let e : upper * 2 ^ (7 * 0) + 0 ≡ upper = omega arith in ap (leb_bytes 9) e);
  small = pow_pos 0;
}

-- byte i of a block comes after the first i
pub byte_of_block : (block i : ℕ) → i < 8 → take (8 * i) (binary 64 block) ++ binary 8 (block / 2 ^ (56 - 8 * i) % 256) ≡ take (8 * (i + 1)) (binary 64 block)
byte_of_block block i few =
    let q = block / 2 ^ (56 - 8 * i) in
    let high = binary (8 * i) (q / 2 ^ 8) in
    let byte = binary 8 (q % 2 ^ 8) in
    let rest = binary (56 - 8 * i) (block % 2 ^ (56 - 8 * i)) in
    let all : 64 ≡ 8 * i + 8 + (56 - 8 * i) = omega arith in
    let is : binary 64 block ≡ (high ++ byte) ++ rest = ap (λ k. binary k block) all ∙ binary_parted (8 * i + 8) (56 - 8 * i) block ∙ ap (λ l. l ++ rest) (binary_parted (8 * i) 8 q) in
    let long = length-binary (8 * i) (q / 2 ^ 8) in
    let last = length-binary 8 (q % 2 ^ 8) in
    let both : length (high ++ byte) ≡ 8 * (i + 1) = length-append high byte ∙ omega arith in
    ap (λ l. take (8 * i) l ++ byte) (is ∙ append_assoc high byte rest) ∙ ap (λ l. l ++ byte) (take_front (8 * i) high (byte ++ rest) long)
    ∙ sym (take_front (8 * (i + 1)) (high ++ byte) rest both) ∙ ap (take (8 * (i + 1))) (sym is)

-- a group of seven digits above those that were read
pub group_above : (i x byte : ℕ) → i < 8 → x < 2 ^ (7 * i) → byte < 128 → (byte * 2 ^ (7 * i) % 2 ^ 64 ≡ byte * 2 ^ (7 * i)) × (x + byte * 2 ^ (7 * i) < 2 ^ (7 * (i + 1))) × (x + byte * 2 ^ (7 * i) < 2 ^ 64)
group_above i x byte few small low =
    let most = mul_mono (byte + 1) 128 (2 ^ (7 * i)) (omega arith) in
    let one : (byte + 1) * 2 ^ (7 * i) ≡ byte * 2 ^ (7 * i) + 2 ^ (7 * i) = omega arith in
    let next : 7 * (i + 1) ≡ 7 + 7 * i = omega arith in
    let whole : 2 ^ (7 * (i + 1)) ≡ 128 * 2 ^ (7 * i) = ap (λ k. 2 ^ k) next ∙ pow-add 2 7 (7 * i) in
    let limit = pow_mono {i = 7 * (i + 1)} {j = 64} (omega arith) in
    (mod-eq_of_lt (omega arith), omega arith, omega arith)

-- one more byte, after which more follow
pub front_on : (block i x byte : ℕ) → i < 8 → byte ≡ block / 2 ^ (56 - 8 * i) % 256 → 128 ≤ byte → IsFront block i x → IsFront block (i + 1) (x + byte % 128 * 2 ^ (7 * i) % 2 ^ 64)
front_on block i x byte few is high f =
    let group = group_above i x (byte % 128) few f.small (omega arith) in
    let fits : x + byte % 128 * 2 ^ (7 * i) % 2 ^ 64 ≡ x + byte % 128 * 2 ^ (7 * i) = ap (λ k. x + k) group.0 in
    let rest : 9 - i - 1 ≡ 9 - (i + 1) = omega arith in
    let next : 7 * (i + 1) ≡ 7 + 7 * i = omega arith in
    let whole : 2 ^ (7 * (i + 1)) ≡ 128 * 2 ^ (7 * i) = ap (λ k. 2 ^ k) next ∙ pow-add 2 7 (7 * i) in
    record {
      bits = λ upper h.
          (let some : 0 < upper = elim h [ inl e ↦ absurd (omega arith) | inr l ↦ l ] in
          let sum : upper * 2 ^ (7 * (i + 1)) + (x + byte % 128 * 2 ^ (7 * i) % 2 ^ 64) ≡ (upper * 128 + byte % 128) * 2 ^ (7 * i) + x =
          ap (λ k. upper * 2 ^ (7 * (i + 1)) + k) fits ∙ ap (λ k. upper * k + (x + byte % 128 * 2 ^ (7 * i))) whole ∙ omega arith in
          ap (leb_bytes 9) sum ∙ f.bits (upper * 128 + byte % 128) (inr (omega arith))
          ∙ ap (λ l. take (8 * i) (binary 64 block) ++ l) (leb_read (9 - i) byte upper (omega arith) some high (omega arith))
          ∙ sym (append_assoc (take (8 * i) (binary 64 block)) (binary 8 byte) (leb_bytes (9 - i - 1) upper))
          ∙ ap (λ l. l ++ leb_bytes (9 - i - 1) upper) (ap (λ b. take (8 * i) (binary 64 block) ++ binary 8 b) is ∙ byte_of_block block i few)
          ∙ ap (λ k. take (8 * (i + 1)) (binary 64 block) ++ leb_bytes k upper) rest);
      small = (let p = group.1 in omega arith);
    }

-- the last byte
pub front_last : (block i x byte : ℕ) → i < 8 → byte ≡ block / 2 ^ (56 - 8 * i) % 256 → byte < 128 → (byte ≡ 0 → i ≡ 0) → IsFront block i x
    → (leb_bytes 9 (x + byte * 2 ^ (7 * i) % 2 ^ 64) ≡ take (8 * (i + 1)) (binary 64 block)) × (x + byte * 2 ^ (7 * i) % 2 ^ 64 < 2 ^ 64)
front_last block i x byte few is low shortest f =
    let group = group_above i x byte few f.small low in
    let fits : x + byte * 2 ^ (7 * i) % 2 ^ 64 ≡ byte * 2 ^ (7 * i) + x = ap (λ k. x + k) group.0 ∙ omega arith in
    let least : (i ≡ 0) ⊎ (0 < byte) = elim (cases_lt 0 byte) [ inl l ↦ inr l | inr l ↦ inl (shortest (omega arith)) ] in
    let less = group.2 in (
      ap (leb_bytes 9) fits ∙ f.bits byte least ∙ ap (λ l. take (8 * i) (binary 64 block) ++ l) (leb_last (9 - i) byte low)
          ∙ ap (λ b. take (8 * i) (binary 64 block) ++ binary 8 b) is ∙ byte_of_block block i few,
      omega arith,
    )

-- ---- one number

same_bytes : (n x y : ℕ) (xs a b : List Bool) → xs ≡ binary n x ++ a → xs ≡ binary n y ++ b → x < 2 ^ n → y < 2 ^ n → (x ≡ y) × (a ≡ b)
same_bytes n x y xs a b e f below less =
    let p = reads_back n x xs a e below in
    let q = reads_back n y xs b f less in
    (sym p.0 ∙ q.0, sym p.1 ∙ q.1)

-- bits begin with the code of one number
pub leb_same : (m x y : ℕ) (xs a b : List Bool) → x < 2 ^ (8 + 7 * m) → y < 2 ^ (8 + 7 * m) → xs ≡ leb_bytes m x ++ a → xs ≡ leb_bytes m y ++ b → (x ≡ y) × (a ≡ b)
leb_same zero x y xs a b small less e f =
    let p = first_byte zero x xs a small e in
    let q = first_byte zero y xs b less f in
    let same = same_bytes 8 p.byte q.byte xs p.tail q.tail p.is q.is p.below q.below in
    let one = p.none_is refl in
    let two = q.none_is refl in
    (sym one.0 ∙ same.0 ∙ two.0, sym one.1 ∙ same.1 ∙ two.1)
leb_same (suc m) x y xs a b small less e f =
    let p = first_byte (suc m) x xs a small e in
    let q = first_byte (suc m) y xs b less f in
    let same = same_bytes 8 p.byte q.byte xs p.tail q.tail p.is q.is p.below q.below in
    let bytes = same.0 in
    elim (cases_lt x 128) [
      | inl l ↦ elim (cases_lt y 128) [
        | inl k ↦ (let one = p.last_is l in let two = q.last_is k in (sym one.0 ∙ bytes ∙ two.0, sym one.1 ∙ same.1 ∙ two.1))
        | inr k ↦ absurd (let one = (p.last_is l).0 in let two = (q.more_is (omega arith) k).0 in omega arith)
      ]
      | inr l ↦ elim (cases_lt y 128) [
        | inl k ↦ absurd (let one = (p.more_is (omega arith) l).0 in let two = (q.last_is k).0 in omega arith)
        | inr k ↦ (let one = p.more_is (omega arith) l in
            let two = q.more_is (omega arith) k in
            let low = one.0 in
            let low_too = two.0 in
            let same_m : suc m - 1 ≡ m = omega arith in
            let more : p.tail ≡ leb_bytes m (x / 128) ++ a = one.1 ∙ ap (λ k. leb_bytes k (x / 128) ++ a) same_m in
            let more_too : p.tail ≡ leb_bytes m (y / 128) ++ b = same.1 ∙ two.1 ∙ ap (λ k. leb_bytes k (y / 128) ++ b) same_m in
            let room = leb_within (suc m) x (omega arith) small in
            let room_too = leb_within (suc m) y (omega arith) less in
            let limit = ap (λ k. 2 ^ (8 + 7 * k)) same_m in
            let rest = leb_same m (x / 128) (y / 128) p.tail a b (omega arith) (omega arith) more more_too in
            let upper = rest.0 in (omega arith, rest.1))
      ]
    ]

-- the first of the first items
pub take_twice : (k n : ℕ) (xs : List Bool) → k ≤ n → n ≤ length xs → take k (take n xs) ≡ take k xs
take_twice k n xs few room = same_lists _ _ (simp length-take (omega arith)) (λ i d below. grind (arith, places))

-- a code that comes first, and what comes after it
pub code_found : (k : ℕ) (xs code rest : List Bool) → code ≡ take k xs → rest ≡ drop k xs → xs ≡ code ++ rest
code_found k xs code rest front back = sym (take-append-drop k xs) ∙ ap (λ l. l ++ drop k xs) (sym front) ∙ ap (λ l. code ++ l) (sym back)

below_more : (x i j : ℕ) → i ≤ j → x < 2 ^ i → x < 2 ^ j
below_more x i j more less = let most = pow_mono {i = i} {j = j} more in omega arith

-- LEB128 has one number of at most 64 digits for each beginning
pub number_same : (x y : ℕ) (xs a b : List Bool) → x < 2 ^ 64 → y < 2 ^ 64 → xs ≡ leb_bytes 9 x ++ a → xs ≡ leb_bytes 9 y ++ b → (x ≡ y) × (a ≡ b)
number_same x y xs a b small less = leb_same 9 x y xs a b (below_more x 64 (8 + 7 * 9) (omega arith) small) (below_more y 64 (8 + 7 * 9) (omega arith) less)
