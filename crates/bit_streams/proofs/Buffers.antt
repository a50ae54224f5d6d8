-- Bits in a buffer between bytes and readers.
use Rattle.std.proofs.Common.{◌≡◌, ℕ, ◌+◌, ◌-◌, ◌*◌, ◌/◌, ◌≤◌, Bool, List, ◌++◌, append_assoc, append-nil, length, slice_range, take, drop, Some, None, refl, sym, ◌∙◌, ap, arith}
use Rattle.std.specs.Prelude.{Option, IfSome}
use Rattle.std.specs.Io.KnownBytes.{Appends, Consumes, IsAtEnd}
use Rattle.std.proofs.lemmas.List.{length-drop, take-append-drop, drop-append-le, drop-drop, drop-take, take-take, take_at}
use Rattle.bit_addressing.specs.Row.{row_of}
use Rattle.bit_addressing.proofs.Rows.{row_append, row_of_none, row_take}
use Rattle.bit_streams.proofs.Windows.{slice_front}
use Rattle.bit_streams.specs.Buffers.{bits_ahead, known_bits}
use Rattle.bit_streams.specs.Streamed.{Gains, Passes, Stays}

-- what comes after the first items of a list that begins with another
pub drop_begun : (passed : ℕ) (xs ys : List Bool) → passed ≤ length xs → take (length xs) ys ≡ xs → drop passed ys ≡ drop passed xs ++ drop (length xs) ys
drop_begun passed xs ys within front =
    let whole : xs ++ drop (length xs) ys ≡ ys = ap (λ l. l ++ drop (length xs) ys) (sym front) ∙ take-append-drop (length xs) ys in
    ap (drop passed) (sym whole) ∙ drop-append-le passed xs (drop (length xs) ys) within

-- it begins with what comes after them in the other
pub front_begun : (passed : ℕ) (xs ys : List Bool) → passed ≤ length xs → take (length xs) ys ≡ xs → take (length (drop passed xs)) (drop passed ys) ≡ drop passed xs
front_begun passed xs ys within front =
    ap (take (length (drop passed xs))) (drop_begun passed xs ys within front) ∙ take_at (drop passed xs) (drop (length xs) ys) (length (drop passed xs)) refl

-- a list that begins with one that begins with another begins with that
pub front_on : (xs ys zs : List Bool) → take (length xs) ys ≡ xs → take (length ys) zs ≡ ys → length xs ≤ length ys → take (length xs) zs ≡ xs
front_on xs ys zs first second longer = sym (take-take (length xs) (length ys) zs longer) ∙ ap (take (length xs)) second ∙ first

-- bytes that a writer took after others
pub given_on : (a b c : Option (List ℕ)) (bytes : List ℕ) (t n : ℕ) → Appends a b (take t bytes) → Appends b c (take n (drop t bytes)) → Appends a c (take (t + n) bytes)
given_on None b c bytes t n e f = tt
given_on (Some xs) None c bytes t n e f = absurd e
given_on (Some xs) (Some ys) None bytes t n e f = f
given_on (Some xs) (Some ys) (Some zs) bytes t n e f =
    let parts : take t bytes ++ take n (drop t bytes) ≡ take (t + n) bytes = ap (λ l. l ++ take n (drop t bytes)) (sym (take-take t (t + n) bytes (omega arith)))
    ∙ ap (λ l. take t (take (t + n) bytes) ++ l) (sym (drop-take t n bytes)) ∙ take-append-drop t (take (t + n) bytes) in
    f ∙ ap (λ l. l ++ take n (drop t bytes)) e ∙ append_assoc xs (take t bytes) (take n (drop t bytes)) ∙ ap (λ l. xs ++ l) parts

-- a writer that was not called took nothing
pub given_none : (a : Option (List ℕ)) (bytes : List ℕ) → Appends a a (take 0 bytes)
given_none None bytes = tt
given_none (Some xs) bytes = sym (append-nil xs)

module _ (place : ℕ → ℕ → ℕ) where
  -- the bits of the bytes that a reader gave
  pub bytes_passed : (old new : Option (List ℕ)) (bytes : List ℕ) → Consumes old new bytes → Passes (known_bits place old) (known_bits place new) (row_of place 8 bytes)
  bytes_passed None new bytes e = tt
  bytes_passed (Some xs) None bytes e = e
  bytes_passed (Some xs) (Some ys) bytes e = ap (row_of place 8) e ∙ row_append place 8 bytes ys (omega arith)

  -- the bits of the bytes that a writer took
  pub bytes_gained : (old new : Option (List ℕ)) (bytes : List ℕ) → Appends old new bytes → Gains (known_bits place old) (known_bits place new) (row_of place 8 bytes)
  bytes_gained None new bytes e = tt
  bytes_gained (Some xs) None bytes e = e
  bytes_gained (Some xs) (Some ys) bytes e = ap (row_of place 8) e ∙ row_append place 8 xs bytes (omega arith)

  -- the bits that a read gave are held after those before
  pub chunk_held : (old new : Option (List ℕ)) (passed : ℕ) (xs ys : List Bool) → passed ≤ length xs → take (length xs) ys ≡ xs → Passes (known_bits place old) (known_bits place new) (drop (length xs) ys) → Stays (bits_ahead place (drop passed xs) old) (bits_ahead place (drop passed ys) new)
  chunk_held None new passed xs ys within front e = tt
  chunk_held (Some bs) None passed xs ys within front e = e
  chunk_held (Some bs) (Some cs) passed xs ys within front e =
      ap (λ l. l ++ row_of place 8 cs) (drop_begun passed xs ys within front) ∙ append_assoc (drop passed xs) (drop (length xs) ys) (row_of place 8 cs)
      ∙ ap (λ l. drop passed xs ++ l) (sym e)

  -- at the end of the bytes only the held bits are left
  pub held_left : (bytes : Option (List ℕ)) (held : List Bool) → IsAtEnd bytes → IfSome (bits_ahead place held bytes) (λ bits. bits ≡ held)
  held_left None held e = tt
  held_left (Some xs) held e = ap (λ bs. held ++ row_of place 8 bs) e ∙ ap (λ l. held ++ l) (row_of_none place 8) ∙ append-nil held

  -- the first of the held bits were passed
  pub held_passed : (bytes : Option (List ℕ)) (passed n : ℕ) (xs : List Bool) → Passes (bits_ahead place (drop passed xs) bytes) (bits_ahead place (drop (passed + n) xs) bytes) (take n (drop passed xs))
  held_passed None passed n xs = tt
  held_passed (Some bs) passed n xs =
      ap (λ l. l ++ row_of place 8 bs) (sym (take-append-drop n (drop passed xs)) ∙ ap (λ l. take n (drop passed xs) ++ l) (drop-drop n passed xs))
      ∙ append_assoc (take n (drop passed xs)) (drop (passed + n) xs) (row_of place 8 bs)

  -- the first bytes of words have the bits that come before those that stay
  pub front_given : (words : List ℕ) (row xs rest : List Bool) (t whole : ℕ) → row_of place 8 words ≡ row → slice_range row 0 (0 + length xs) ≡ xs → whole ≡ length xs / 8 → t ≤ whole → whole ≤ length words → rest ≡ drop (8 * t) xs → row_of place 8 (take t (take whole words)) ≡ take (length xs - length rest) xs
  front_given words row xs rest t whole is shows count few within left =
      let size : length xs - length rest ≡ 8 * t = (let a = ap length left in let b = length-drop (8 * t) xs in omega arith) in
      let front : take (0 + length xs) row ≡ xs = sym (slice_front row (0 + length xs)) ∙ shows in
      ap (row_of place 8) (take-take t whole words few) ∙ row_take place 8 t words (omega arith) (omega arith) ∙ ap (take (8 * t)) is
      ∙ sym (take-take (8 * t) (0 + length xs) row (omega arith)) ∙ ap (take (8 * t)) front ∙ ap (λ n. take n xs) (sym size)
