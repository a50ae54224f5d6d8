-- Bytes that are taken ahead of a reader's.
use Rattle.std.proofs.Common.{◌≡◌, ℕ, ◌+◌, ◌-◌, ◌*◌, ◌≤◌, List, [], ◌++◌, append_assoc, drop, length, slice_range, take, Some, None, sym, ◌∙◌, ap, arith}
use Rattle.std.specs.Prelude.{Option}
use Rattle.std.specs.Io.KnownBytes.{Consumes, Keeps, prepend_known}
use Rattle.std.proofs.lemmas.List.{length-append, length-drop, length-take, places, same_lists}
use Rattle.bit_addressing.specs.Row.{binary, row_of}
use Rattle.bit_addressing.proofs.Rows.{row_append, row_take}
use Rattle.bit_slice.proofs.Parts.{row_drop}
use Rattle.bit_streams.specs.Streamed.{Loses}

none_between : (bytes : List ℕ) (at end : ℕ) → at ≡ end → slice_range bytes at end ≡ []
none_between bytes at end none = let e : end - at ≡ 0 = omega arith in ap (λ k. take k (drop at bytes)) e

parts_joined : (bytes : List ℕ) (a b c : ℕ) → a ≤ b → b ≤ c → c ≤ length bytes → slice_range bytes a b ++ slice_range bytes b c ≡ slice_range bytes a c
parts_joined bytes a b c h k l = same_lists _ _ (simp (length-append, length-take, length-drop) (omega arith)) (λ i d below. grind (arith, places))

-- a reader gave bytes where none was waiting
pub refilled : (old new : Option (List ℕ)) (bytes now : List ℕ) (at end n : ℕ) → at ≡ end → Consumes old new (take n now) → Keeps (prepend_known (slice_range bytes at end) old) (prepend_known (slice_range now 0 n) new)
refilled None new bytes now at end n none e = tt
refilled (Some xs) None bytes now at end n none e = e
refilled (Some xs) (Some ys) bytes now at end n none e =
    let all : n - 0 ≡ n = omega arith in
    ap (λ k. take k now ++ ys) all ∙ sym e ∙ ap (λ l. l ++ xs) (sym (none_between bytes at end none))

module _ (place : ℕ → ℕ → ℕ) where
  -- the row of a part of bytes
  pub row_part_of : (bytes : List ℕ) (at n : ℕ) → at + n ≤ length bytes → row_of place 8 (slice_range bytes at (at + n)) ≡ slice_range (row_of place 8 bytes) (8 * at) (8 * at + 8 * n)
  row_part_of bytes at n room =
      let few : at + n - at ≡ n = omega arith in
      let many : 8 * at + 8 * n - 8 * at ≡ 8 * n = omega arith in
      let enough : n ≤ length (drop at bytes) = (let e = length-drop at bytes in omega arith) in
      ap (λ k. row_of place 8 (take k (drop at bytes))) few ∙ row_take place 8 n (drop at bytes) (omega arith) enough
      ∙ ap (take (8 * n)) (row_drop place 8 at bytes (omega arith) (omega arith)) ∙ ap (λ k. take k (drop (8 * at) (row_of place 8 bytes))) (sym many)

  -- the first that wait were given
  pub bytes_given : (rest : Option (List ℕ)) (bytes : List ℕ) (at n end x : ℕ) → at + n ≤ end → end ≤ length bytes → binary (8 * n) x ≡ slice_range (row_of place 8 bytes) (8 * at) (8 * at + 8 * n)
      → Loses place (prepend_known (slice_range bytes at end) rest) (prepend_known (slice_range bytes (at + n) end) rest) (binary (8 * n) x)
  bytes_given None bytes at n end x within room is = tt
  bytes_given (Some xs) bytes at n end x within room is =
      let front = slice_range bytes at (at + n) in
      let back = slice_range bytes (at + n) end in
      ap (λ l. row_of place 8 (l ++ xs)) (sym (parts_joined bytes at (at + n) end (omega arith) within room)) ∙ ap (row_of place 8) (append_assoc front back xs)
      ∙ row_append place 8 front (back ++ xs) (omega arith) ∙ ap (λ l. l ++ row_of place 8 (back ++ xs)) (row_part_of bytes at n (omega arith) ∙ sym is)
