-- The numbers of a range counted by the blocks that have them.
use Rattle.std.proofs.Common.{◌≡◌, ℕ, suc, ◌+◌, ◌-◌, ◌*◌, ◌/◌, ◌%◌, ◌^◌, ◌<◌, ◌≤◌, Bool, true, false, cond, List, ◌++◌, drop, length, length-take, length-append, refl, sym, ◌∙◌, ap, arith}
use Rattle.std.proofs.lemmas.List.{length-drop, length-map}
use mir.Val.{bool_byte}
use Rattle.bit_blocks.specs.Numbers.{Ascends, count_below, has, numbers_between}
use Rattle.bit_blocks.specs.declared.keyed.Keyed.{Keyed}
use Rattle.bit_blocks.proofs.Ascending.{counts_at_most}
use Rattle.bit_blocks.proofs.Between.{below_up, between_places}
use Rattle.bit_blocks.proofs.Counting.{below_next}
use Rattle.bit_roaring.specs.Keyed.{AreKeyed, block_at, set_numbers}
use Rattle.bit_roaring.specs.Ranges.{ArePart, numbers_within}
use Rattle.bit_roaring.proofs.Counted.{few_in_set}
use Rattle.bit_roaring.proofs.Parts.{one_key, part_numbers, two_keys}
use Rattle.bit_roaring.proofs.Ranged.{within_count}

-- as many numbers of a block are in a range as are below its last number and not below its first, and that one
pub part_count : (low high : ℕ) (xs : List ℕ) → Ascends xs → low ≤ high → (count_below xs low ≤ count_below xs high) × ((count_below xs high - count_below xs low) + cond (has xs high) 1 0 ≡ length (numbers_between low high xs))
part_count low high xs up ordered =
    let i = count_below xs low in
    let j = count_below xs (high + 1) in
    let e : high + 1 ≡ suc high = omega arith in
    let next : j ≡ count_below xs high + cond (has xs high) 1 0 = ap (count_below xs) e ∙ below_next 0 65536 xs high up in
    let less = below_up xs low high ordered in
    let most = counts_at_most xs (high + 1) in
    let size = length-take (j - i) (drop i xs) in
    let left = length-drop i xs in
    (less, sym (ap length (between_places 0 65536 xs low high up ordered) ∙ (omega arith)))

byte_count : (b : Bool) → bool_byte b ≡ cond b 1 0
byte_count true = refl
byte_count false = refl

pub few_byte : (b : Bool) → bool_byte b ≤ 1
few_byte true = omega arith
few_byte false = omega arith

-- the same of counts that calls returned
pub part_total : (low high : ℕ) (xs : List ℕ) (m n k : ℕ) (there : Bool) → Ascends xs → low ≤ high → m ≡ count_below xs high → n ≡ count_below xs low → there ≡ has xs high → k ≡ bool_byte there → (n ≤ m) × ((m - n) + k ≡ length (numbers_between low high xs))
part_total low high xs m n k there up ordered above below is byte =
    let parts = part_count low high xs up ordered in
    let less = parts.0 in
    let size = parts.1 in
    let one : k ≡ cond (has xs high) 1 0 = byte ∙ byte_count there ∙ ap (λ b. cond {A = ℕ} b 1 0) is in
    (omega arith, omega arith)

-- the numbers of a range within one key
pub one_count : (bs : List Keyed) (first last a low high : ℕ) → AreKeyed bs → first ≤ last → a < 65536 → a ≡ first / 65536 → a ≡ last / 65536 → low ≡ first % 65536 → high ≡ last % 65536
    → length (numbers_between low high (block_at bs a)) ≡ length (numbers_within first (last + 1) (set_numbers bs))
one_count bs first last a low high h ordered small from upto begins ends =
    sym (length-map (numbers_between low high (block_at bs a)) (λ k. a * 65536 + k)) ∙ ap length (one_key bs first last a low high h ordered small from upto begins ends)

-- and of one over two keys or more
pub two_count : (bs middle : List Keyed) (first last a b low high : ℕ) → AreKeyed bs → a < b → b < 65536 → a ≡ first / 65536 → b ≡ last / 65536 → low ≡ first % 65536 → high ≡ last % 65536 → ArePart bs middle (a + 1) b
    → length (numbers_between low 65535 (block_at bs a)) + (length (set_numbers middle) + length (numbers_between 0 high (block_at bs b))) ≡ length (numbers_within first (last + 1) (set_numbers bs))
two_count bs middle first last a b low high h less small from upto begins ends part =
    let front = part_numbers a low 65535 (block_at bs a) in
    let back = part_numbers b 0 high (block_at bs b) in
    let whole = ap length (two_keys bs middle first last a b low high h less small from upto begins ends part) in
    let all = length-append front (set_numbers middle ++ back) in
    let rest = length-append (set_numbers middle) back in
    let one = length-map (numbers_between low 65535 (block_at bs a)) (λ k. a * 65536 + k) in
    let two = length-map (numbers_between 0 high (block_at bs b)) (λ k. b * 65536 + k) in
    omega arith

-- a set has at most 2 ^ 32 numbers of a range
pub few_within : (bs : List Keyed) (a b : ℕ) → AreKeyed bs → a ≤ b → length (numbers_within a b (set_numbers bs)) ≤ 2 ^ 32
few_within bs a b h ordered =
    let parts = within_count (set_numbers bs) a b ordered in
    let most = counts_at_most (set_numbers bs) b in
    let few = few_in_set bs h in
    omega arith
