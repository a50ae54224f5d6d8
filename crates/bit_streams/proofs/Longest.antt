-- LEB128: codes of nine and ten bytes.
use Rattle.std.proofs.Common.{◌≡◌, ℕ, ◌+◌, ◌-◌, ◌*◌, ◌%◌, ◌^◌, ◌<◌, List, Bool, ◌++◌, take, sym, ◌∙◌, ap, inr, arith}
use Rattle.std.proofs.Math.Nat.{mod-eq_of_lt}
use Rattle.std.proofs.lemmas.List.{take_all}
use Rattle.bit_addressing.specs.Row.{binary}
use Rattle.bit_rows.proofs.Binary.{length-binary}
use Rattle.bit_streams.specs.Codes.{leb_bytes}
use Rattle.bit_streams.proofs.Coded.{both_parts}
use Rattle.bit_streams.proofs.Leading.{IsFront}

-- the eight bytes of a block are those of a number's code, whatever follows them
pub front_whole : (block i x upper : ℕ) → i ≡ 8 → 0 < upper → IsFront block i x → leb_bytes 9 (upper * 2 ^ 56 + x) ≡ binary 64 block ++ leb_bytes 1 upper
front_whole block i x upper all some f =
    let digits : 7 * i ≡ 56 = omega arith in
    let bits : 8 * i ≡ 64 = omega arith in
    let one : 9 - i ≡ 1 = omega arith in
    let long = length-binary 64 block in
    ap (λ k. leb_bytes 9 (upper * 2 ^ k + x)) (sym digits) ∙ f.bits upper (inr some) ∙ ap (λ k. take k (binary 64 block) ++ leb_bytes (9 - i) upper) bits
    ∙ ap (λ k. take 64 (binary 64 block) ++ leb_bytes k upper) one ∙ ap (λ l. l ++ leb_bytes 1 upper) (take_all 64 (binary 64 block) (omega arith))

-- the digits above those of the eight bytes
pub longest_fits : (low upper : ℕ) → low < 2 ^ 56 → upper < 256 → (upper * 2 ^ 56 % 2 ^ 64 ≡ upper * 2 ^ 56) × (upper * 2 ^ 56 + low < 2 ^ 64)
longest_fits low upper small few = (mod-eq_of_lt (omega arith), omega arith)

-- a number of which eight bytes come first, and one or two after them
pub longest_found : (old mid new : List Bool) (block low upper : ℕ) → ((k : ℕ) → 0 < k → leb_bytes 9 (k * 2 ^ 56 + low) ≡ binary 64 block ++ leb_bytes 1 k) → low < 2 ^ 56 → 0 < upper → upper < 256
    → old ≡ binary 64 block ++ mid → mid ≡ leb_bytes 1 upper ++ new → old ≡ leb_bytes 9 (upper * 2 ^ 56 % 2 ^ 64 + low) ++ new
longest_found old mid new block low upper code small some few first second =
    both_parts old mid new (binary 64 block) (leb_bytes 1 upper) (leb_bytes 9 (upper * 2 ^ 56 % 2 ^ 64 + low)) first second (ap (λ k. leb_bytes 9 (k + low)) (longest_fits low upper small few).0 ∙ code upper some)
