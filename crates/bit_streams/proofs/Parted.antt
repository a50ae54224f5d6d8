-- Formats of several parts: what is read is one of them, and what is written is read.
use Rattle.std.proofs.Common.{◌≡◌, ◌≢◌, ℕ, ◌+◌, ◌-◌, ◌*◌, ◌/◌, ◌%◌, ◌^◌, ◌<◌, ◌≤◌, ◌↔◌, inr, Bool, false, List, [], ◌++◌, append-nil, append_assoc, length, take, drop, replicate, refl, sym, ◌∙◌, ap, arith}
use Rattle.std.proofs.lemmas.List.{drop_at, length-append, length-replicate, length-take-le}
use Rattle.std.proofs.lemmas.Nat.{mod_below}
use Rattle.std.proofs.Math.Pow.{pow_pos}
use Rattle.bit_addressing.specs.Binary.{value}
use Rattle.bit_addressing.specs.Row.{binary}
use Rattle.bit_rows.proofs.Binary.{binary_low, length-binary, value_of_binary}
use Rattle.bit_streams.specs.Formats.{listed_bits, tagged_bits}
use Rattle.bit_streams.specs.Refusals.{ListEnds, ListFilled}
use Rattle.bit_streams.proofs.Lists.{take_front}
use Rattle.bit_streams.proofs.Zeros.{zeros_of}

-- three parts, one after another
pub three_parts : (old first second new xs ys zs : List Bool) → old ≡ xs ++ first → first ≡ ys ++ second → second ≡ zs ++ new → old ≡ ((xs ++ ys) ++ zs) ++ new
three_parts old first second new xs ys zs a b c =
    a ∙ ap (λ l. xs ++ l) (b ∙ ap (λ l. ys ++ l) c) ∙ sym (append_assoc xs ys (zs ++ new)) ∙ sym (append_assoc (xs ++ ys) zs new)

-- three parts and a rest, grouped from the right
pub three_opened : (old more xs ys zs : List Bool) → old ≡ ((xs ++ ys) ++ zs) ++ more → old ≡ xs ++ (ys ++ (zs ++ more))
three_opened old more xs ys zs e = e ∙ append_assoc (xs ++ ys) zs more ∙ append_assoc xs ys (zs ++ more)

-- a part of n bits
pub part_size : (n : ℕ) (old new part : List Bool) → part ≡ take n old → length new + n ≡ length old → length part ≡ n
part_size n old new part is left = ap length is ∙ length-take-le n old (omega arith)

-- a part taken is the value, and the rest what follows
pub part_is : (n : ℕ) (old new part value more : List Bool) → part ≡ take n old → new ≡ drop n old → old ≡ value ++ more → length value ≡ n → (part ≡ value) × (new ≡ more)
part_is n old new part value more is rest e size = (is ∙ ap (take n) e ∙ take_front n value more size, rest ∙ ap (drop n) e ∙ drop_at value more n size)

-- a value of n bits needs n bits
pub part_there : (n : ℕ) (old value more : List Bool) → old ≡ value ++ more → length value ≡ n → n ≤ length old
part_there n old value more e size = let sum = ap length e ∙ length-append value more in omega arith

-- ---- tagged values

-- a tag, a length and a value read in turn are a tagged value
pub tagged_found : (old first second new value : List Bool) (tag bytes : ℕ) → old ≡ binary 8 tag ++ first → first ≡ binary 16 bytes ++ second → second ≡ value ++ new → length value ≡ 8 * bytes → old ≡ tagged_bits tag value ++ new
tagged_found old first second new value tag bytes a b c size =
    let is : length value / 8 ≡ bytes = omega arith in
    three_parts old first second new (binary 8 tag) (binary 16 bytes) value a b c ∙ ap (λ k. ((binary 8 tag ++ binary 16 k) ++ value) ++ new) (sym is)

-- how many bits a tagged value has
pub tagged_size : (tag : ℕ) (value : List Bool) → length (tagged_bits tag value) ≡ 24 + length value
tagged_size tag value =
    let parts = length-append (binary 8 tag ++ binary 16 (length value / 8)) value in
    let front = length-append (binary 8 tag) (binary 16 (length value / 8)) in
    let first = length-binary 8 tag in
    let second = length-binary 16 (length value / 8) in
    omega arith

-- ---- lists with their length

-- a length, bits and filling read in turn are a list with its length
pub listed_found : (old first second new bits : List Bool) (len zeros : ℕ) → old ≡ binary 64 len ++ first → first ≡ bits ++ second → second ≡ binary ((8 - len % 8) % 8) zeros ++ new → length bits ≡ len → zeros ≡ 0 → old ≡ listed_bits bits ++ new
listed_found old first second new bits len zeros a b c size none =
    let few : (8 - len % 8) % 8 ≤ 64 = omega arith in
    let last : binary ((8 - len % 8) % 8) zeros ≡ replicate ((8 - len % 8) % 8) false = ap (binary ((8 - len % 8) % 8)) none ∙ zeros_of ((8 - len % 8) % 8) few in
    three_parts old first second new (binary 64 len) bits (binary ((8 - len % 8) % 8) zeros) a b c
    ∙ ap (λ l. ((binary 64 len ++ bits) ++ l) ++ new) last
    ∙ ap (λ k. ((binary 64 k ++ bits) ++ replicate ((8 - k % 8) % 8) false) ++ new) (sym size)

-- a list with its length is its length, its bits and its filling
pub listed_opened : (old more bits : List Bool) → old ≡ listed_bits bits ++ more → old ≡ binary 64 (length bits) ++ (bits ++ (binary ((8 - length bits % 8) % 8) 0 ++ more))
listed_opened old more bits e =
    let n = length bits in
    let few : (8 - n % 8) % 8 ≤ 64 = omega arith in
    three_opened old more (binary 64 n) bits (replicate ((8 - n % 8) % 8) false) e ∙ ap (λ l. binary 64 n ++ (bits ++ (l ++ more))) (sym (zeros_of ((8 - n % 8) % 8) few))

-- a length, bits and filling written in turn are a list with its length
pub listed_written : (old first second new bits : List Bool) (len : ℕ) → first ≡ old ++ binary 64 len → second ≡ first ++ bits → new ≡ second ++ binary ((8 - len % 8) % 8) 0 → len ≡ length bits → new ≡ old ++ listed_bits bits
listed_written old first second new bits len a b c size =
    let few : (8 - len % 8) % 8 ≤ 64 = omega arith in
    c ∙ ap (λ l. l ++ binary ((8 - len % 8) % 8) 0) (b ∙ ap (λ l. l ++ bits) a ∙ append_assoc old (binary 64 len) bits)
    ∙ append_assoc old (binary 64 len ++ bits) (binary ((8 - len % 8) % 8) 0)
    ∙ ap (λ l. old ++ ((binary 64 len ++ bits) ++ l)) (zeros_of ((8 - len % 8) % 8) few)
    ∙ ap (λ k. old ++ ((binary 64 k ++ bits) ++ replicate ((8 - k % 8) % 8) false)) size

-- a list with its length has 64 bits or more
pub listed_least : (bits : List Bool) → 64 ≤ length (listed_bits bits)
listed_least bits =
    let all = length-append (binary 64 (length bits) ++ bits) (replicate ((8 - length bits % 8) % 8) false) in
    let front = length-append (binary 64 (length bits)) bits in
    let digits = length-binary 64 (length bits) in
    omega arith

-- what is written of a list is that of no other
pub listed_once : (a b : List Bool) → (listed_bits a ≡ listed_bits b) ↔ (a ≡ b)
listed_once a b = (
  λ same.
      let digits : binary 64 (length a) ≡ binary 64 (length b) = sym (front a) ∙ ap (take 64) same ∙ front b in
      let counts : length a % 2 ^ 64 ≡ length b % 2 ^ 64 = sym (count (length a)) ∙ ap value digits ∙ count (length b) in
      let long : 64 + length a + (8 - length a % 8) % 8 ≡ 64 + length b + (8 - length b % 8) % 8 = sym (size a) ∙ ap length same ∙ size b in
      let len : length b ≡ length a = omega arith in
      sym (rest (length a) a refl) ∙ ap (λ l. take (length a) (drop 64 l)) same ∙ rest (length a) b len,
  λ same. ap listed_bits same,
)
  where
    opened : (bits : List Bool) → listed_bits bits ≡ binary 64 (length bits) ++ (bits ++ (replicate ((8 - length bits % 8) % 8) false ++ []))
    opened bits = three_opened (listed_bits bits) [] (binary 64 (length bits)) bits (replicate ((8 - length bits % 8) % 8) false) (sym (append-nil (listed_bits bits)))

    front : (bits : List Bool) → take 64 (listed_bits bits) ≡ binary 64 (length bits)
    front bits = ap (take 64) (opened bits) ∙ take_front 64 (binary 64 (length bits)) (bits ++ (replicate ((8 - length bits % 8) % 8) false ++ [])) (length-binary 64 (length bits))

    rest : (n : ℕ) (bits : List Bool) → length bits ≡ n → take n (drop 64 (listed_bits bits)) ≡ bits
    rest n bits len = ap (λ l. take n (drop 64 l)) (opened bits) ∙ ap (take n) (drop_at (binary 64 (length bits)) (bits ++ (replicate ((8 - length bits % 8) % 8) false ++ [])) 64 (length-binary 64 (length bits)))
        ∙ take_front n bits (replicate ((8 - length bits % 8) % 8) false ++ []) len

    count : (n : ℕ) → value (binary 64 n) ≡ n % 2 ^ 64
    count n = ap value (sym (binary_low 64 n)) ∙ value_of_binary 64 (n % 2 ^ 64) (mod_below n (2 ^ 64) (pow_pos 64))

    size : (bits : List Bool) → length (listed_bits bits) ≡ 64 + length bits + (8 - length bits % 8) % 8
    size bits = simp (length-append, length-binary, length-replicate) refl

-- a list of which bits are missing
pub list_cut : (old first second part : List Bool) (len : ℕ) → old ≡ binary 64 len ++ first → first ≡ part ++ second → length part ≡ len → length second < (8 - len % 8) % 8 → ListEnds old
list_cut old first second part len a b size short =
    let sum = ap length b ∙ length-append part second in
    inr (len, first, a, omega arith)

-- a list whose last byte is not filled up with zeros
pub list_filled : (old first second new bits : List Bool) (len ones : ℕ) → old ≡ binary 64 len ++ first → first ≡ bits ++ second → second ≡ binary ((8 - len % 8) % 8) ones ++ new → length bits ≡ len → ones < 2 ^ ((8 - len % 8) % 8) → ones ≢ 0 → ListFilled old
list_filled old first second new bits len ones a b c size below some =
    let pad = (8 - len % 8) % 8 in
    let few : pad ≤ 64 = omega arith in
    let wide = length-binary pad ones in (
      bits,
      binary pad ones,
      new,
      a ∙ ap (λ l. binary 64 len ++ l) (b ∙ ap (λ l. bits ++ l) c) ∙ sym (append_assoc (binary 64 len) bits (binary pad ones ++ new)) ∙ ap (λ k. (binary 64 k ++ bits) ++ (binary pad ones ++ new)) (sym size),
      wide ∙ ap (λ k. (8 - k % 8) % 8) (sym size),
      λ e. some (sym (value_of_binary pad ones below) ∙ ap value (e ∙ ap (λ k. replicate k false) wide ∙ sym (zeros_of pad few)) ∙ value_of_binary pad 0 (pow_pos pad)),
    )
