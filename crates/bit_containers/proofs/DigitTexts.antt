-- Texts of digits, read digit by digit.
use Rattle.std.proofs.Common.{◌≡◌, ℕ, zero, suc, ◌+◌, ◌-◌, ◌*◌, ◌/◌, ◌%◌, ◌^◌, ◌<◌, ◌≤◌, ◌≢◌, ◌&&◌, Bool, true, false, if◌then◌else◌, min, List, [], ◌∷◌, ◌++◌, length, take, drop, get_or, slice_range, refl, sym, ◌∙◌, ap, inl, inr, arith, append_assoc, append-nil, length-append}
use Rattle.std.specs.Prelude.{Some, None, Result, Ok, Err, nat_lt, eqb, slice_index}
use Rattle.std.specs.Fmt.{digit_glyph}
use Rattle.std.proofs.Math.Dec.{eqb-suc-zero}
use Rattle.std.proofs.Math.Nat.{mul-suc, pow-suc}
use Rattle.std.proofs.Math.Pow.{pow_mono}
use Rattle.std.proofs.Math.Seq.{get_or-append_seam, take-append_seam}
use Rattle.std.proofs.lemmas.Bool.{cases_lt, lt-ltb, le-ltb}
use Rattle.std.proofs.lemmas.Bool.Decides.{eqb_tells}
use Rattle.bit_addressing.proofs.Runs.{mul_mono}
use Rattle.std.proofs.lemmas.List.{drop_all, drop_more, get_or-drop, get_or-take, length-drop, length-take, take-append-drop}
use Rattle.std.proofs.lemmas.Nat.{div-mul-add}
use Rattle.bit_addressing.specs.Binary.{value, value_after}
use Rattle.bit_addressing.specs.Row.{binary, words_for}
use Rattle.bit_addressing.proofs.lists.Sized.{room}
use Rattle.bit_rows.proofs.Binary.{binary_parted, length-binary}
use Rattle.bit_slice.specs.Texts.{digits_from}
use Rattle.bit_containers.specs.DigitTexts.{IsDigitsOf, bits_of_value, digits_of_text, digits_said, is_bracketed, said_before, value_of_digit}

-- ---- what one digit says

-- a digit that was written has its value
pub value_of_glyph : (upper : Bool) (v : ℕ) → v < 16 → value_of_digit (digit_glyph upper v) ≡ Some v
value_of_glyph upper v small = elim (cases_lt v 10) [
  | inl l ↦
      let e : 48 + v - 48 ≡ v = omega arith in
      rw (lt-ltb v 10 l, le-ltb (48 + v) 48 (omega arith), lt-ltb (48 + v) 58 (omega arith), e) refl
  | inr l ↦ letter upper v l small
]
  where
    letter : (upper : Bool) (v : ℕ) → 10 ≤ v → v < 16 → value_of_digit (digit_glyph upper v) ≡ Some v
    letter true v l small =
        let e : 55 + v - 55 ≡ v = omega arith in
        rw (le-ltb v 10 l, le-ltb (55 + v) 48 (omega arith), le-ltb (55 + v) 58 (omega arith), le-ltb (55 + v) 65 (omega arith), lt-ltb (55 + v) 71 (omega arith), e) refl
    letter false v l small =
        let e : 87 + v - 87 ≡ v = omega arith in
        rw (le-ltb v 10 l, le-ltb (87 + v) 48 (omega arith), le-ltb (87 + v) 58 (omega arith), le-ltb (87 + v) 65 (omega arith), le-ltb (87 + v) 71 (omega arith), le-ltb (87 + v) 97 (omega arith), lt-ltb (87 + v) 103 (omega arith), e) refl

-- a bit more at the end of a number in binary
one_digit : (b : Bool) → binary 1 (if b then 1 else 0) ≡ b ∷ []
unfolding binary
one_digit true = refl
one_digit false = refl

no_digits : (x : ℕ) → binary 0 x ≡ []
unfolding binary
no_digits x = refl

-- digits after those of a number
digits_after : (m a : ℕ) (bits : List Bool) → binary (m + length bits) (value_after a bits) ≡ binary m a ++ bits
digits_after m a [] =
    let e : m + 0 ≡ m = omega arith in
    ap (λ n. binary n a) e ∙ sym (append-nil (binary m a))
digits_after m a (b ∷ bits) =
    let c : ℕ = if b then 1 else 0 in
    let bound : c < 2 = one_bit b in
    let next : ℕ = a * 2 + c in
    let e : m + suc (length bits) ≡ m + 1 + length bits = omega arith in
    let quotient : next / 2 ^ 1 ≡ a = div-mul-add a 2 c bound in
    let rest : next % 2 ^ 1 ≡ c = omega arith in
    ap (λ n. binary n (value_after next bits)) e
    ∙ digits_after (m + 1) next bits
    ∙ ap (λ l. l ++ bits) (binary_parted m 1 next ∙ ap (λ q. binary m q ++ binary 1 (next % 2 ^ 1)) quotient ∙ ap (λ r. binary m a ++ binary 1 r) rest ∙ ap (λ l. binary m a ++ l) (one_digit b))
    ∙ append_assoc (binary m a) (b ∷ []) bits
  where
    one_bit : (b : Bool) → (if b then 1 else 0) < 2
    one_bit true = omega arith
    one_bit false = omega arith

-- the digits of the number that bits write are the bits
pub binary_of_value : (bits : List Bool) → binary (length bits) (value bits) ≡ bits
binary_of_value bits = let e : length bits ≡ 0 + length bits = omega arith in ap (λ n. binary n (value bits)) e ∙ digits_after 0 0 bits ∙ ap (λ l. l ++ bits) (no_digits 0)

-- bits write a number below that power of two
pub value_below : (a : ℕ) (bits : List Bool) → value_after a bits + 1 ≤ (a + 1) * 2 ^ length bits
value_below a [] = omega arith
value_below a (b ∷ bits) =
    let c : ℕ = if b then 1 else 0 in
    let rest = value_below (a * 2 + c) bits in
    let p : ℕ = 2 ^ length bits in
    let most : (a * 2 + c + 1) * p ≤ (a * 2 + 2) * p = mul_mono (a * 2 + c + 1) (a * 2 + 2) p (one_more b) in
    let twice : (a * 2 + 2) * p ≡ (a + 1) * 2 ^ suc (length bits) = doubled a p ∙ ap (λ q. (a + 1) * q) (sym (pow-suc 2 (length bits))) in
    omega (arith, rest, most, twice)
  where
    one_more : (b : Bool) → a * 2 + (if b then 1 else 0) + 1 ≤ a * 2 + 2
    one_more true = omega arith
    one_more false = omega arith

    doubled : (a p : ℕ) → (a * 2 + 2) * p ≡ (a + 1) * (p * 2)
    doubled a p = grind arith

-- a digit that was written of a few bits says them
pub glyph_says : (upper : Bool) (bits : List Bool) → length bits ≤ 4 → bits_of_value (length bits) (value_of_digit (digit_glyph upper (value_after 0 bits))) ≡ Some bits
glyph_says upper bits few =
    let below : value bits < 2 ^ length bits = omega (arith, value_below 0 bits) in
    let most : 2 ^ length bits ≤ 16 = pow_mono few in
    ap (bits_of_value (length bits)) (value_of_glyph upper (value bits) (omega (arith, below, most)))
    ∙ ap (λ b. if b then Some (binary (length bits) (value bits)) else None) (lt-ltb (value bits) (2 ^ length bits) below)
    ∙ ap Some (binary_of_value bits)

-- ---- what digits say

some_left : (n : ℕ) → 0 < n → eqb n 0 ≡ false
some_left zero h = absurd (omega arith)
some_left (suc n) h = eqb-suc-zero n

said_cons : (size left c : ℕ) (rest : List ℕ) → 0 < left → digits_said size left (c ∷ rest) ≡ said_before (bits_of_value (min left size) (value_of_digit c)) (digits_said size (left - size) rest)
said_cons size left c rest some =
    let least : min size left ≡ min left size = omega arith in
    ap (λ b. if b then Err 0 else said_before (bits_of_value (min size left) (value_of_digit c)) (digits_said size (left - size) rest)) (some_left left some)
    ∙ ap (λ m. said_before (bits_of_value m (value_of_digit c)) (digits_said size (left - size) rest)) least

said_end : (size left : ℕ) → 0 < left → digits_said size left [] ≡ Err 0
said_end size left some = ap (λ b. if b then Ok [] else Err 0) (some_left left some)

-- what was written of bits says them
pub said_back : (size : ℕ) (upper : Bool) (n : ℕ) (bits : List Bool) → 0 < size → size ≤ 4 → length bits ≤ size * n → size * n < length bits + size → digits_said size (length bits) (digits_from size upper n bits) ≡ Ok bits
said_back size upper zero [] some few most least = refl
said_back size upper zero (b ∷ bits) some few most least = absurd (omega arith)
said_back size upper (suc n) [] some few most least = absurd (omega (arith, mul-suc size n))
said_back size upper (suc n) (b ∷ bits) some few most least =
    let xs = b ∷ bits in
    let more = mul-suc size n in
    let here : length (take size xs) ≡ min size (length xs) = length-take size xs in
    let rest : length (drop size xs) ≡ length xs - size = length-drop size xs in
    let later : digits_said size (length xs - size) (digits_from size upper n (drop size xs)) ≡ Ok (drop size xs) =
    ap (λ k. digits_said size k (digits_from size upper n (drop size xs))) (sym rest)
    ∙ said_back size upper n (drop size xs) some few (omega (arith, rest, more, most)) (omega (arith, rest, more, least)) in
    let least : length (take size xs) ≡ min (length xs) size = omega (arith, here) in
    let first : bits_of_value (min (length xs) size) (value_of_digit (digit_glyph upper (value_after 0 (take size xs)))) ≡ Some (take size xs) =
    ap (λ k. bits_of_value k (value_of_digit (digit_glyph upper (value_after 0 (take size xs))))) (sym least) ∙ glyph_says upper (take size xs) (omega (arith, here, few)) in
    said_cons size (length xs) (digit_glyph upper (value_after 0 (take size xs))) (digits_from size upper n (drop size xs)) (omega arith)
    ∙ ap (λ o. said_before o (digits_said size (length xs - size) (digits_from size upper n (drop size xs)))) first
    ∙ ap (said_before (Some (take size xs))) later
    ∙ ap Ok (take-append-drop size xs)

-- what is read in turn: these bits of k digits, and then what the later ones say
abbrev pub read_on : List Bool → ℕ → Result (List Bool) ℕ → Result (List Bool) ℕ
read_on bits k (Ok more) = Ok (bits ++ more)
read_on bits k (Err at) = Err (k + at)

-- before the first digit, what is still to be said is all
pub nothing_read : (said : Result (List Bool) ℕ) → said ≡ read_on [] 0 said
nothing_read (Ok more) = refl
nothing_read (Err at) = ap Err (omega arith)

read_one : (bits more : List Bool) (k : ℕ) (later : Result (List Bool) ℕ) → read_on bits k (said_before (Some more) later) ≡ read_on (bits ++ more) (k + 1) later
read_one bits more k (Ok rest) = ap Ok (sym (append_assoc bits more rest))
read_one bits more k (Err at) = ap Err (omega arith)

module _ (size len k : ℕ) (ds : List ℕ) (bits : List Bool) (so_far : digits_said size len ds ≡ read_on bits k (digits_said size (len - length bits) (drop k ds))) where
  next_said : (c : ℕ) → k < length ds → c ≡ get_or ds k 0 → length bits < len → digits_said size len ds ≡ read_on bits k (said_before (bits_of_value (min (len - length bits) size) (value_of_digit c)) (digits_said size (len - length bits - size) (drop (k + 1) ds)))
  next_said c inside is left =
      so_far
      ∙ ap (λ l. read_on bits k (digits_said size (len - length bits) l)) (drop_more ds k 0 inside)
      ∙ ap (read_on bits k) (said_cons size (len - length bits) (get_or ds k 0) (drop (k + 1) ds) (omega (arith, left)))
      ∙ ap (λ d. read_on bits k (said_before (bits_of_value (min (len - length bits) size) (value_of_digit d)) (digits_said size (len - length bits - size) (drop (k + 1) ds)))) (sym is)

  -- one digit more
  pub said_more : (c v : ℕ) → k < length ds → c ≡ get_or ds k 0 → length bits < len → bits_of_value (min (len - length bits) size) (value_of_digit c) ≡ Some (binary (min (len - length bits) size) v) → digits_said size len ds ≡ read_on (bits ++ binary (min (len - length bits) size) v) (k + 1) (digits_said size (len - length (bits ++ binary (min (len - length bits) size) v)) (drop (k + 1) ds))
  said_more c v inside is left says =
      let m : ℕ = min (len - length bits) size in
      let more = binary m v in
      let longer = length-append bits more in
      let size_of = length-binary m v in
      let same : len - length bits - size ≡ len - length (bits ++ more) = omega (arith, longer, size_of) in
      next_said c inside is left
      ∙ ap (λ o. read_on bits k (said_before o (digits_said size (len - length bits - size) (drop (k + 1) ds)))) says
      ∙ read_one bits more k (digits_said size (len - length bits - size) (drop (k + 1) ds))
      ∙ ap (λ n. read_on (bits ++ more) (k + 1) (digits_said size n (drop (k + 1) ds))) same

  -- a character that is no digit
  pub wrong_digit : (c : ℕ) → k < length ds → c ≡ get_or ds k 0 → length bits < len → bits_of_value (min (len - length bits) size) (value_of_digit c) ≡ None → digits_said size len ds ≡ Err k
  wrong_digit c inside is left none =
      let e : k + 0 ≡ k = omega arith in
      next_said c inside is left ∙ ap (λ o. read_on bits k (said_before o (digits_said size (len - length bits - size) (drop (k + 1) ds)))) none ∙ ap Err e

  -- a digit too many
  pub digit_past : k < length ds → len ≤ length bits → digits_said size len ds ≡ Err k
  digit_past inside all =
      let none : len - length bits ≡ 0 = omega arith in
      let e : k + 0 ≡ k = omega arith in
      so_far ∙ ap (λ l. read_on bits k (digits_said size (len - length bits) l)) (drop_more ds k 0 inside) ∙ ap (λ n. read_on bits k (digits_said size n (get_or ds k 0 ∷ drop (k + 1) ds))) none ∙ ap Err e

  -- all digits
  pub all_said : length ds ≤ k → len ≤ length bits → digits_said size len ds ≡ Ok bits
  all_said end all =
      let none : len - length bits ≡ 0 = omega arith in
      so_far ∙ ap (λ l. read_on bits k (digits_said size (len - length bits) l)) (drop_all k ds end) ∙ ap (λ n. read_on bits k (digits_said size n [])) none ∙ ap Ok (append-nil bits)

  -- too few
  pub digits_missing : length ds ≤ k → length bits < len → digits_said size len ds ≡ Err k
  digits_missing end few =
      let e : k + 0 ≡ k = omega arith in
      so_far ∙ ap (λ l. read_on bits k (digits_said size (len - length bits) l)) (drop_all k ds end) ∙ ap (read_on bits k) (said_end size (len - length bits) (omega (arith, few))) ∙ ap Err e

-- ---- brackets

not_opening : (upper : Bool) (v : ℕ) → v < 16 → eqb (digit_glyph upper v) 91 ≡ false
not_opening upper v small = elim (cases_lt v 10) [
  | inl l ↦ rw (lt-ltb v 10 l) (other (48 + v) (omega arith))
  | inr l ↦ letter upper v l small
]
  where
    other : (n : ℕ) → n ≢ 91 → eqb n 91 ≡ false
    other n h = elim (eqb_tells n 91) [
      | inl same ↦ absurd (h same.1)
      | inr differ ↦ differ.0
    ]

    letter : (upper : Bool) (v : ℕ) → 10 ≤ v → v < 16 → eqb (digit_glyph upper v) 91 ≡ false
    letter true v l small = rw (le-ltb v 10 l) (other (55 + v) (omega arith))
    letter false v l small = rw (le-ltb v 10 l) (other (87 + v) (omega arith))

and_none : (a b c : Bool) → b ≡ false → (a && (b && c)) ≡ false
and_none true b c none = rw none refl
and_none false b c none = refl

alone : (size : ℕ) (upper : Bool) (n : ℕ) (bits : List Bool) → size ≤ 4 → is_bracketed (digits_from size upper n bits) ≡ false
alone size upper zero bits few = refl
alone size upper (suc n) bits few =
    let here : List Bool = take size bits in
    let c : ℕ = digit_glyph upper (value_after 0 here) in
    let text : List ℕ = c ∷ digits_from size upper n (drop size bits) in
    let short : length here ≤ 4 = omega (arith, length-take size bits, few) in
    let most : 2 ^ length here ≤ 16 = pow_mono short in
    let small : value_after 0 here < 16 = omega (arith, value_below 0 here, most) in
    and_none (nat_lt 1 (length text)) (eqb c 91) (eqb (slice_index text (length text - 1)) 93) (not_opening upper (value_after 0 here) small)

module _ (ds : List ℕ) where
  abbrev bracketed : List ℕ
  bracketed = 91 ∷ (ds ++ 93 ∷ [])

  long : length bracketed ≡ length ds + 2
  long = let e = length-append ds (93 ∷ []) in omega arith

  stands_between : is_bracketed bracketed ≡ true
  stands_between =
      let size = long in
      let last : length bracketed - 1 ≡ suc (length ds) = omega (arith, size) in
      let closing : slice_index bracketed (length bracketed - 1) ≡ 93 = ap (slice_index bracketed) last ∙ get_or-append_seam ds 93 [] 0 in
      ap (λ b. b && (eqb 91 91 && eqb (slice_index bracketed (length bracketed - 1)) 93)) (lt-ltb 1 (length bracketed) (omega (arith, size)))
      ∙ ap (λ c. eqb c 93) closing

  without_brackets : digits_of_text bracketed ≡ ds
  without_brackets =
      let size = long in
      let inner : length bracketed - 1 - 1 ≡ length ds = omega (arith, size) in
      ap (λ b. if b then slice_range bracketed 1 (length bracketed - 1) else bracketed) stands_between
      ∙ ap (λ n. take n (ds ++ 93 ∷ [])) inner
      ∙ take-append_seam ds (93 ∷ [])

-- what was written of bits, between brackets or alone, says them
pub read_back : (size len : ℕ) (upper : Bool) (text : List ℕ) (bits : List Bool) → 0 < size → size ≤ 4 → length bits ≡ len → IsDigitsOf size upper text bits → digits_said size len (digits_of_text text) ≡ Ok bits
read_back size len upper text bits some few full is =
    let n : ℕ = words_for size (length bits) in
    let ds : List ℕ = digits_from size upper n bits in
    let enough = room size (length bits) some in
    let said : digits_said size len ds ≡ Ok bits = ap (λ k. digits_said size k ds) (sym full) ∙ said_back size upper n bits some few enough.0 enough.1 in
    elim is [
      | inl plain ↦
          ap (λ t. digits_said size len (digits_of_text t)) plain
          ∙ ap (λ b. digits_said size len (if b then slice_range ds 1 (length ds - 1) else ds)) (alone size upper n bits few)
          ∙ said
      | inr shown ↦ ap (λ t. digits_said size len (digits_of_text t)) shown ∙ ap (digits_said size len) (without_brackets ds) ∙ said
    ]

abbrev found : Result (List Bool) ℕ → List Bool
found (Ok bits) = bits
found (Err at) = []

-- two lists that a text says are one
pub said_once : (said : Result (List Bool) ℕ) (xs ys : List Bool) → said ≡ Ok xs → said ≡ Ok ys → xs ≡ ys
said_once said xs ys a b = ap found (sym a ∙ b)

-- ---- the digits of a text

-- the length of the digits is the distance of their ends
pub length-digits : (text : List ℕ) (first end : ℕ) → end ≤ length text → length (slice_range text first end) ≡ end - first
length-digits text first end inside = length-take (end - first) (drop first text) ∙ (let rest = length-drop first text in omega (arith, rest, inside))

-- a character of the text is that of the digits, counted from where they begin
pub char_at : (text : List ℕ) (first end at : ℕ) → first ≤ at → at < end → get_or text at 0 ≡ get_or (slice_range text first end) (at - first) 0
char_at text first end at begins below =
    let e : first + (at - first) ≡ at = omega arith in
    ap (λ i. get_or text i 0) (sym e) ∙ sym (get_or-take (end - first) (drop first text) (at - first) 0 (omega arith) ∙ get_or-drop first text (at - first) 0)
