-- Chunks written one after another as numbers.
use Rattle.std.proofs.Common.{◌≡◌, ℕ, ◌+◌, ◌-◌, ◌*◌, ◌/◌, ◌<◌, ◌≤◌, min, Bool, List, [], ◌∷◌, ◌++◌, length, length-append, append-nil, slice_range, rules, sym, ◌∙◌, ap, inl, inr, arith}
use Rattle.std.proofs.lemmas.Bool.{cases_lt}
use Rattle.std.proofs.lemmas.List.{append_assoc, places, same_lists}
use Rattle.std.proofs.Math.Nat.{mod-lt, zero-div}
use Rattle.std.proofs.lemmas.Nat.{div-add-mod', div-mul-add}
use Rattle.bit_addressing.specs.Row.{number_bits, put}
use Rattle.bit_addressing.proofs.Runs.{mul_mono}
use Rattle.bit_addressing.proofs.lists.Sized.{one_more_word}
use Rattle.bit_rows.proofs.Binary.{length-number_bits}
use Rattle.bit_slice.specs.Mapped.{from_chunk_numbers}
use Rattle.bit_slice.specs.Pieces.{chunk_count, part}

-- one number more
pub chunks_more : (size at n m : ℕ) (numbers : List ℕ) → at ≡ length numbers * size → n ≤ size → from_chunk_numbers size (at + n) (numbers ++ m ∷ []) ≡ from_chunk_numbers size at numbers ++ number_bits m n
chunks_more size at n m [] start few =
    let all : min size (at + n) ≡ n = omega (arith, start, few) in
    ap (λ k. number_bits m k ++ []) all ∙ append-nil (number_bits m n)
chunks_more size at n m (a ∷ numbers) start few =
    let next = one_more_word (length numbers) size in
    let full : min size (at + n) ≡ min size at = omega (arith, start, next) in
    let later : at + n - size ≡ at - size + n = omega (arith, start, next) in
    let begins : at - size ≡ length numbers * size = omega (arith, start, next) in
    ap (λ k. number_bits a k ++ from_chunk_numbers size (at + n - size) (numbers ++ m ∷ [])) full
    ∙ ap (λ l. number_bits a (min size at) ++ from_chunk_numbers size l (numbers ++ m ∷ [])) later
    ∙ ap (λ l. number_bits a (min size at) ++ l) (chunks_more size (at - size) n m numbers begins few)
    ∙ sym (append_assoc (number_bits a (min size at)) (from_chunk_numbers size (at - size) numbers) (number_bits m n))

-- as many items as the numbers have room for
pub length-chunks : (size at : ℕ) (numbers : List ℕ) → at ≤ length numbers * size → length (from_chunk_numbers size at numbers) ≡ at
length-chunks size at [] room = omega arith
length-chunks size at (a ∷ numbers) room =
    let next = one_more_word (length numbers) size in
    let rest = length-chunks size (at - size) numbers (omega (arith, room, next)) in
    let first = length-number_bits a (min size at) in
    length-append (number_bits a (min size at)) (from_chunk_numbers size (at - size) numbers) ∙ omega (arith, first, rest)

-- no item, no chunk
pub count_none : (size : ℕ) → chunk_count 0 size ≡ 0
count_none size =
    let none = zero-div size in
    let split = div-add-mod' 0 size in
    let e : 0 / size * size ≡ 0 * size = ap (λ q. q * size) none in
    omega (arith, none, split, e)

-- one chunk more, which has a bit
pub count_more : (size k rest : ℕ) → 0 < rest → rest ≤ size → chunk_count (k * size + rest) size ≡ k + 1
count_more size k rest some few = elim (cases_lt rest size) [
  | inl less ↦
      let quotient = div-mul-add k size rest less in
      let split = div-add-mod' (k * size + rest) size in
      let e : (k * size + rest) / size * size ≡ k * size = ap (λ q. q * size) quotient in
      omega (arith, quotient, split, e, some)
  | inr whole ↦
      let next = one_more_word k size in
      let all : k * size + rest ≡ (k + 1) * size + 0 = omega (arith, few, whole, next) in
      let quotient = div-mul-add (k + 1) size 0 (omega (arith, some, few)) in
      let split = div-add-mod' ((k + 1) * size + 0) size in
      let e : ((k + 1) * size + 0) / size * size ≡ (k + 1) * size = ap (λ q. q * size) quotient in
      ap (λ n. chunk_count n size) all ∙ omega (arith, quotient, split, e)
]

-- where a chunk begins inside, it is one of them
pub counts_on : (size k len : ℕ) → 0 < size → k * size < len → k < chunk_count len size
counts_on size k len some begins = elim (cases_lt k (chunk_count len size)) [
  | inl less ↦ less
  | inr over ↦
      let split = div-add-mod' len size in
      elim (cases_lt (len / size) k) [
        | inl under ↦
            let next = one_more_word (len / size) size in
            let most = mul_mono (len / size + 1) k size (omega arith) in
            absurd (let rest = mod-lt len some in omega (arith, begins, split, next, most, rest))
        | inr up ↦
            let same = mul_mono (len / size) k size (omega (arith, over)) in
            absurd (omega (arith, begins, split, same, over, up))
      ]
]

-- what is written before a chunk leaves its items
pub chunk_stays : (r bits : List Bool) (head len at n size : ℕ) → head + len ≤ length r → length bits ≡ at → at + n ≤ len → n ≡ min (len - at) size → slice_range (put r head bits) (head + at) (head + at + n) ≡ part size (slice_range r head (head + len)) at
unfolding put
chunk_stays r bits head len at n size room wrote inside some = same_lists _ _ (search (rules, places)) (λ i d below. grind (arith, places))
