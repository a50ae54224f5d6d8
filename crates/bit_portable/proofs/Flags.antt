-- The flags of blocks as bytes.
use Rattle.std.proofs.Common.{◌≡◌, ℕ, zero, suc, ◌+◌, ◌-◌, ◌*◌, ◌/◌, ◌%◌, ◌<◌, Bool, true, false, List, [], ◌∷◌, length, get_or, take, drop, refl, sym, ◌∙◌, ap, arith, inl, inr}
use Rattle.std.proofs.lemmas.Bool.{cases_lt}
use Rattle.std.proofs.lemmas.List.{get_or-take, get_or-drop, get_or_past}
use Rattle.bit_portable.specs.declared.stored.Head.{Head}
use Rattle.bit_portable.specs.Stored.{Piece}
use Rattle.bit_portable.specs.Form.{FlagsFrom, digits, flag_at, flag_bytes, flag_count, flags_for, heads_of, run_flags}
use Rattle.bit_portable.specs.Portable.{any_runs}
use Rattle.bit_portable.proofs.Digits.{bit, digit_bit, zero_bit}
use Rattle.bit_portable.proofs.Fields.{neither}

pub flag_bytes_length : (n : ℕ) (fs : List Bool) → length (flag_bytes n fs) ≡ n
flag_bytes_length zero fs = refl
flag_bytes_length (suc n) fs = ap suc (flag_bytes_length n (drop 8 fs))

-- flag k of the bytes is the flag that was written there
flag_written : (n : ℕ) (fs : List Bool) (k : ℕ) → k < 8 * n → flag_at (flag_bytes n fs) k ≡ get_or fs k false
flag_written zero fs k inside = absurd (omega arith)
flag_written (suc n) fs k inside = elim (cases_lt k 8) [
  | inl low ↦ (
      let byte : k / 8 ≡ 0 = omega arith in
      let place : k % 8 ≡ k = omega arith in
      ap (λ (i : ℕ). bit (get_or (flag_bytes (suc n) fs) i 0) (k % 8)) byte
      ∙ ap (bit (digits (take 8 fs))) place
      ∙ digit_bit (take 8 fs) k
      ∙ get_or-take 8 fs k false low)
  | inr high ↦ (
      let j : ℕ = k - 8 in
      let byte : k / 8 ≡ suc (j / 8) = omega arith in
      let place : k % 8 ≡ j % 8 = omega arith in
      let there : 8 + j ≡ k = omega arith in
      ap (λ (i : ℕ). bit (get_or (flag_bytes (suc n) fs) i 0) (k % 8)) byte
      ∙ ap (bit (get_or (flag_bytes n (drop 8 fs)) (j / 8) 0)) place
      ∙ flag_written n (drop 8 fs) j (omega arith)
      ∙ get_or-drop 8 fs j false
      ∙ ap (λ (i : ℕ). get_or fs i false) there)
]

flags_from : (flags : List ℕ) (k : ℕ) (hs : List Head) → ((j : ℕ) → j < length hs → flag_at flags (k + j) ≡ get_or (run_flags hs) j false) → FlagsFrom flags k hs
flags_from flags k [] same = tt
flags_from flags k (h ∷ hs) same =
    let here : k ≡ k + 0 = omega arith in
    (ap (flag_at flags) here ∙ same 0 (omega arith), flags_from flags (k + 1) hs (λ j inside. let next : k + 1 + j ≡ k + suc j = omega arith in ap (flag_at flags) next ∙ same (suc j) (omega arith)))

no_flag : (k : ℕ) → flag_at [] k ≡ false
no_flag k = ap (λ (n : ℕ). bit n (k % 8)) (get_or_past [] (k / 8) 0 (omega arith)) ∙ zero_bit (k % 8)

no_flags : (k : ℕ) (ps : List Piece) → any_runs ps ≡ false → FlagsFrom [] k (heads_of ps)
no_flags k [] none = tt
no_flags k (p ∷ ps) none = let both = neither p.head.as_runs (any_runs ps) none in (no_flag k ∙ sym both.0, no_flags (k + 1) ps both.1)

-- the flags of blocks are theirs
pub flags_for_are : (flagged : Bool) (ps : List Piece) → any_runs ps ≡ flagged → FlagsFrom (flags_for flagged (heads_of ps)) 0 (heads_of ps)
flags_for_are true ps is =
    let hs : List Head = heads_of ps in
    let n : ℕ = (length hs + 7) / 8 in
    flags_from (flag_bytes n (run_flags hs)) 0 hs (λ j inside. let here : 0 + j ≡ j = omega arith in ap (flag_at (flag_bytes n (run_flags hs))) here ∙ flag_written n (run_flags hs) j (omega arith))
flags_for_are false ps is = no_flags 0 ps is

pub flags_for_length : (flagged : Bool) (hs : List Head) → length (flags_for flagged hs) ≡ flag_count flagged (length hs)
flags_for_length true hs = flag_bytes_length ((length hs + 7) / 8) (run_flags hs)
flags_for_length false hs = refl
