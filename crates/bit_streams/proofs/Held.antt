-- Bits that are held between bytes and numbers.
use Rattle.std.proofs.Common.{◌≡◌, ℕ, ◌+◌, ◌-◌, ◌*◌, ◌/◌, ◌%◌, ◌^◌, ◌<◌, ◌≤◌, Bool, List, [], ◌∷◌, ◌++◌, append_assoc, false, length, replicate, slice_range, take, Some, None, refl, sym, ◌∙◌, ap, arith}
use Rattle.std.specs.Prelude.{Option, IfSome}
use Rattle.std.specs.Io.KnownBytes.{Appends, IsAtEnd}
use Rattle.std.proofs.Math.Nat.{div-div-eq-div-mul, mod-eq_of_lt}
use Rattle.std.proofs.Math.Pow.{pow_mono}
use Rattle.std.proofs.lemmas.List.{length-append, length-take-le, nil_from_length}
use Rattle.std.proofs.lemmas.Nat.{pow-add, pow_below}
use Rattle.bit_addressing.specs.Row.{binary, row_of}
use Rattle.bit_addressing.proofs.Runs.{slices_joined}
use Rattle.bit_addressing.proofs.Rows.{row_append, row_take}
use Rattle.bit_rows.proofs.Binary.{length-binary, binary_parted}
use Rattle.bit_streams.specs.Streamed.{Adds, Gains, Loses, Passes, Stays, bits_left, bits_made}
use Rattle.bit_streams.proofs.Lists.{joined_below, joined_digits, take_front}
use Rattle.bit_streams.proofs.Padded.{digits_padded}

module _ (place : ℕ → ℕ → ℕ) where
  -- bits of bytes are held after the bits that were held
  pub more_taken : (old new : Option (List ℕ)) (held pending n x joined : ℕ) → binary (held + n) joined ≡ binary held pending ++ binary n x → Loses place old new (binary n x) → Stays (bits_left place held pending old) (bits_left place (held + n) joined new)
  more_taken None new held pending n x joined is e = tt
  more_taken (Some xs) None held pending n x joined is e = e
  more_taken (Some xs) (Some ys) held pending n x joined is e =
      ap (λ l. l ++ row_of place 8 ys) is ∙ append_assoc (binary held pending) (binary n x) (row_of place 8 ys) ∙ ap (λ l. binary held pending ++ l) (sym e)

  -- no byte was taken
  pub none_taken : (old new : Option (List ℕ)) (held pending n x : ℕ) → n ≡ 0 → Loses place old new (binary n x) → Stays (bits_left place held pending old) (bits_left place held pending new)
  none_taken None new held pending n x none e = tt
  none_taken (Some xs) None held pending n x none e = e
  none_taken (Some xs) (Some ys) held pending n x none e =
      ap (λ l. binary held pending ++ l) (sym (e ∙ ap (λ l. l ++ row_of place 8 ys) (nil_from_length (binary n x) (length-binary n x ∙ none))))

  row_none : (held pending : ℕ) → length (binary held pending) + length (row_of place 8 []) ≡ held
  unfolding row_of
  row_none held pending = let d = length-binary held pending in omega arith

  -- at the end of input only the held bits are left
  pub end_left : (old : Option (List ℕ)) (held pending : ℕ) → IsAtEnd old → IfSome (bits_left place held pending old) (λ bits. length bits ≡ held)
  end_left None held pending e = tt
  end_left (Some xs) held pending e =
      ap (λ bs. length (binary held pending ++ row_of place 8 bs)) e ∙ length-append (binary held pending) (row_of place 8 []) ∙ row_none held pending

  -- the first of the bits that are held were taken
  pub front_taken : (bytes : Option (List ℕ)) (held pending n left : ℕ) → held ≡ n + left → Passes (bits_left place held pending bytes) (bits_left place left (pending % 2 ^ left) bytes) (binary n (pending / 2 ^ left))
  front_taken None held pending n left is = tt
  front_taken (Some xs) held pending n left is =
      ap (λ k. binary k pending ++ row_of place 8 xs) is ∙ ap (λ l. l ++ row_of place 8 xs) (binary_parted n left pending)
      ∙ append_assoc (binary n (pending / 2 ^ left)) (binary left (pending % 2 ^ left)) (row_of place 8 xs)

  -- ---- a sink

  -- a byte more of a block
  pub row_more : (front : List ℕ) (word : ℕ) (b : List Bool) (n : ℕ) → row_of place 8 front ≡ slice_range b 0 n → row_of place 8 (word ∷ []) ≡ slice_range b n (n + 8) → n + 8 ≤ length b → row_of place 8 (front ++ word ∷ []) ≡ slice_range b 0 (n + 8)
  row_more front word b n first next room =
      row_append place 8 front (word ∷ []) (omega arith) ∙ ap (λ l. l ++ row_of place 8 (word ∷ [])) first ∙ ap (λ l. slice_range b 0 n ++ l) next ∙ slices_joined b 0 n (n + 8) (omega arith) (omega arith) room

  -- the first n of the bytes that show a number have its highest digits
  first_bytes : (bytes : List ℕ) (count n number : ℕ) → length bytes ≡ 8 → n ≤ count → count ≤ 8 → number < 2 ^ (8 * count) → row_of place 8 bytes ≡ binary 64 (number * 2 ^ (64 - 8 * count) % 2 ^ 64)
      → row_of place 8 (take n (take count bytes)) ≡ binary (8 * n) (number / 2 ^ (8 * count - 8 * n))
  first_bytes bytes count n number size within few small is =
      let low = 8 * count - 8 * n in
      let high = binary (8 * n) (number / 2 ^ low) in
      let all : 8 * count ≡ 8 * n + low = omega arith in
      let enough : n ≤ length (take count bytes) = (let e = length-take-le count bytes (omega arith) in omega arith) in
      let digits = length-binary (8 * count) number in
      let first = length-binary (8 * n) (number / 2 ^ low) in
      row_take place 8 n (take count bytes) (omega arith) enough ∙ ap (take (8 * n)) (row_take place 8 count bytes (omega arith) (omega arith)
      ∙ ap (take (8 * count)) (is ∙ digits_padded (8 * count) number (omega arith) small) ∙ take_front (8 * count) (binary (8 * count) number) (replicate (64 - 8 * count) false) digits
      ∙ ap (λ k. binary k number) all ∙ binary_parted (8 * n) low number) ∙ take_front (8 * n) high (binary low (number % 2 ^ low)) first

  -- a writer took them
  pub bytes_put : (old new : Option (List ℕ)) (bytes : List ℕ) (count n number : ℕ) → length bytes ≡ 8 → n ≤ count → count ≤ 8 → number < 2 ^ (8 * count) → row_of place 8 bytes ≡ binary 64 (number * 2 ^ (64 - 8 * count) % 2 ^ 64)
      → Appends old new (take n (take count bytes)) → Adds place old new (binary (8 * n) (number / 2 ^ (8 * count - 8 * n)))
  bytes_put None new bytes count n number size within few small is e = tt
  bytes_put (Some xs) None bytes count n number size within few small is e = e
  bytes_put (Some xs) (Some ys) bytes count n number size within few small is e =
      ap (row_of place 8) e ∙ row_append place 8 xs (take n (take count bytes)) (omega arith) ∙ ap (λ l. row_of place 8 xs ++ l) (first_bytes bytes count n number size within few small is)

  -- the first bits that were held are in the writer
  pub first_put : (old new : Option (List ℕ)) (held pending n left high : ℕ) → held ≡ n + left → high ≡ pending / 2 ^ left → Adds place old new (binary n high) → Stays (bits_made place held pending old) (bits_made place left (pending % 2 ^ left) new)
  first_put None new held pending n left high is whole e = tt
  first_put (Some xs) None held pending n left high is whole e = e
  first_put (Some xs) (Some ys) held pending n left high is whole e =
      ap (λ l. l ++ binary left (pending % 2 ^ left)) (e ∙ ap (λ k. row_of place 8 xs ++ binary n k) whole)
      ∙ append_assoc (row_of place 8 xs) (binary n (pending / 2 ^ left)) (binary left (pending % 2 ^ left))
      ∙ ap (λ l. row_of place 8 xs ++ l) (sym (binary_parted n left pending) ∙ ap (λ k. binary k pending) (sym is))

  -- more bits are held
  pub more_held : (bytes : Option (List ℕ)) (held pending n x : ℕ) → Gains (bits_made place held pending bytes) (bits_made place (held + n) (pending * 2 ^ n + x % 2 ^ n) bytes) (binary n x)
  more_held None held pending n x = tt
  more_held (Some xs) held pending n x = ap (λ l. row_of place 8 xs ++ l) (joined_digits held n pending x) ∙ sym (append_assoc (row_of place 8 xs) (binary held pending) (binary n x))

-- what was not touched stays
pub stays_same : (a : Option (List Bool)) → Stays a a
stays_same None = tt
stays_same (Some xs) = refl

-- what stays twice stays
pub stays_on : (a b c : Option (List Bool)) → Stays a b → Stays b c → Stays a c
stays_on None b c e f = tt
stays_on (Some xs) None c e f = absurd e
stays_on (Some xs) (Some ys) None e f = f
stays_on (Some xs) (Some ys) (Some zs) e f = f ∙ e

-- too few bits are too few of what stayed
pub too_few : (a b : Option (List Bool)) (k n : ℕ) → Stays a b → IfSome b (λ bits. length bits ≡ k) → k < n → IfSome a (λ bits. length bits < n)
too_few None b k n e f less = tt
too_few (Some xs) None k n e f less = absurd e
too_few (Some xs) (Some ys) k n e f less = let size = ap length e in omega arith

-- a passage after nothing was touched is the whole passage
pub passes_on : (a b c : Option (List Bool)) (bits : List Bool) → Stays a b → Passes b c bits → Passes a c bits
passes_on None b c bits e f = tt
passes_on (Some xs) None c bits e f = absurd e
passes_on (Some xs) (Some ys) None bits e f = f
passes_on (Some xs) (Some ys) (Some zs) bits e f = sym e ∙ f

-- a part of the highest digits of a number
pub high_part : (pending rest more left : ℕ) → rest + more ≡ left → pending / 2 ^ rest / 2 ^ more ≡ pending / 2 ^ left
high_part pending rest more left is = div-div-eq-div-mul pending (2 ^ rest) (2 ^ more) ∙ ap (λ k. pending / k) (sym (pow-add 2 rest more) ∙ ap (λ k. 2 ^ k) is)

-- ---- numbers of 128 digits

-- the remainder by a shifted 1 of 128 bits is that by the power
pub wide_rest : (b x : ℕ) → b < 128 → x % (1 * 2 ^ b % 2 ^ 128) ≡ x % 2 ^ b
wide_rest b x few = ap (λ k. x % (k % 2 ^ 128)) (let e : 1 * 2 ^ b ≡ 2 ^ b = omega arith in e) ∙ ap (λ k. x % k) (mod-eq_of_lt (pow_below b 128 few))

-- digits below those held make one number
pub wide_joined : (a b p x : ℕ) → b < 128 → a + b ≤ 128 → p < 2 ^ a → p * 2 ^ b % 2 ^ 128 + x % (1 * 2 ^ b % 2 ^ 128) ≡ p * 2 ^ b + x % 2 ^ b
wide_joined a b p x few all small =
    let below = joined_below a b p x small in
    let most = pow_mono {i = a + b} {j = 128} all in
    let whole : p * 2 ^ b % 2 ^ 128 ≡ p * 2 ^ b = mod-eq_of_lt (omega arith) in
    ap (λ k. k + x % (1 * 2 ^ b % 2 ^ 128)) whole ∙ ap (λ k. p * 2 ^ b + k) (wide_rest b x few)
