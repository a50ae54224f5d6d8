-- Parts of a text between separators, and the numbers that they write.
use Rattle.std.proofs.Common.{◌≡◌, ℕ, ◌+◌, ◌<◌, ◌≤◌, ◌^◌, ◌≢◌, ◌-◌, length-drop, List, Bool, true, false, [], ◌∷◌, refl, ap, length, take, drop, get_or, arith, cond, ◌==◌, Some, None, Result, Ok, Err, nat_lt, nat_le}
use Rattle.std.specs.Prelude.{position}
use Rattle.std.proofs.lemmas.List.{take_all}
use Rattle.std.specs.List.{slice_split, position_or_len, onto_first}
use Rattle.std.proofs.lemmas.List.Splits.{slice_split_first, length-slice_split}
use Rattle.std.proofs.lemmas.List.Sums.{prefix_len-le-length}
use Rattle.std.proofs.lemmas.Bool.{ltb-true, lt-ltb, le-leb}
use Rattle.std.specs.Str.{all_ascii_digits, IsUtf8}
use Rattle.std.proofs.lemmas.Str.{IsUtf8-from_ascii}
use Rattle.std.proofs.lemmas.Fmt.{IsAscii-from_digits}
use Rattle.std.specs.Str.Parse.{digits_value, ParsesUnsigned}
use Rattle.std.specs.Result.{result_ok}
use Rattle.std.proofs.lemmas.Str.Parse.{IsNumeralModel, numerals_by_value, tells_all_ascii_digits, parse_plain}
use Rattle.bit_containers.specs.TextParts.{number_of, parts_of}

module _ (p : ℕ → Bool) where
  uncut_step : (x : ℕ) (xs : List ℕ) (b : Bool) → p x ≡ b → (position_or_len p xs ≡ length xs → slice_split p xs ≡ xs ∷ []) → position_or_len p (x ∷ xs) ≡ length (x ∷ xs) → slice_split p (x ∷ xs) ≡ (x ∷ xs) ∷ []
  uncut_step x xs true e more h = let k : 0 ≡ length (x ∷ xs) = rw e at h in absurd (omega arith)
  uncut_step x xs false e more h = let k : 1 + position_or_len p xs ≡ length (x ∷ xs) = rw e at h in rw e (ap (onto_first x) (more (omega arith)))

  uncut_by : (xs : List ℕ) → position_or_len p xs ≡ length xs → slice_split p xs ≡ xs ∷ []
  uncut_by [] h = refl
  uncut_by (x ∷ xs) h = uncut_step x xs (p x) refl (uncut_by xs) h

module _ (s : ℕ) where
  cut_by : (text : List ℕ) (at : ℕ) (b : Bool) → nat_lt (position_or_len (λ c. c == s) text) (length text) ≡ b → Some at ≡ cond b (Some (position_or_len (λ c. c == s) text)) None → parts_of s text ≡ take at text ∷ parts_of s (drop (at + 1) text)
  cut_by text at true e h = let same : at ≡ position_or_len (λ c. c == s) text = cc in rw same (slice_split_first (λ c. c == s) text 0 (ltb-true _ _ e))
  cut_by text at false e h = cc

  -- a text with a separator is its first part and the parts of the rest
  pub cut_at : (text : List ℕ) (at : ℕ) → Some at ≡ position (λ c. c == s) text → parts_of s text ≡ take at text ∷ parts_of s (drop (at + 1) text)
  cut_at text at h = cut_by text at (nat_lt (position_or_len (λ c. c == s) text) (length text)) refl h

  uncut_at : (text : List ℕ) (b : Bool) → nat_lt (position_or_len (λ c. c == s) text) (length text) ≡ b → None ≡ cond b (Some (position_or_len (λ c. c == s) text)) None → parts_of s text ≡ text ∷ []
  uncut_at text true e h = cc
  uncut_at text false e h = uncut_by (λ c. c == s) text (grind (arith, prefix_len-le-length, lt-ltb))

  -- a text without a separator is one part
  pub uncut : (text : List ℕ) → None ≡ position (λ c. c == s) text → parts_of s text ≡ text ∷ []
  uncut text h = uncut_at text (nat_lt (position_or_len (λ c. c == s) text) (length text)) refl h

-- a text has a part at least
pub some_parts : (s : ℕ) (text : List ℕ) → 0 < length (parts_of s text)
some_parts s text = omega (arith, length-slice_split (λ c. c == s) text)

-- the digits of the standard library are decimal
pub own : IsNumeralModel (λ ds. all_ascii_digits ds ≡ true) (digits_value 10)
own = numerals_by_value _ tells_all_ascii_digits

no_digits : (bs : List ℕ) → ¬ IsUtf8 bs → (b : Bool) → all_ascii_digits bs ≡ b → None ≡ number_of bs
no_digits bs nope true e = absurd (nope (IsUtf8-from_ascii bs (IsAscii-from_digits bs (own.to bs e))))
no_digits bs nope false e = rw e refl

-- bytes that are no UTF-8 are no number
pub no_number : (bs : List ℕ) → ¬ IsUtf8 bs → None ≡ number_of bs
no_number bs nope = no_digits bs nope (all_ascii_digits bs) refl

refused : (bs : List ℕ) (b1 b2 b3 : Bool) → all_ascii_digits bs ≡ b1 → nat_lt 0 (length bs) ≡ b2 → nat_lt (digits_value 10 bs) (2 ^ 64) ≡ b3
    → nat_le (length bs) 20 ≡ true → ¬ ((all_ascii_digits bs ≡ true) × (0 < length bs) × (digits_value 10 bs < 2 ^ 64)) → None ≡ number_of bs
refused bs false b2 b3 e1 e2 e3 e4 nope = rw e1 refl
refused bs true false b3 e1 e2 e3 e4 nope = rw (e1, e2) refl
refused bs true true false e1 e2 e3 e4 nope = rw (e1, e2, e4, e3) refl
refused bs true true true e1 e2 e3 e4 nope = absurd (nope (e1, ltb-true _ _ e2, ltb-true _ _ e3))

-- what the standard library parses of a part without a plus is the part's number
pub parsed : {E : Type 0} (bs : List ℕ) (r : Result ℕ E) → length bs ≤ 20 → get_or bs 0 0 ≢ 43 → ParsesUnsigned 64 10 bs r → result_ok r ≡ number_of bs
parsed {E} bs (Ok x) short plain h =
    let p = parse_plain own {E = E} 64 bs (Ok x) h plain in
    rw (p.0.0, lt-ltb 0 (length bs) p.0.1, le-leb (length bs) 20 short, lt-ltb (digits_value 10 bs) (2 ^ 64) p.0.2) (ap Some p.1)
parsed {E} bs (Err e) short plain h =
    refused bs _ _ _ refl refl refl (le-leb (length bs) 20 short) (parse_plain own {E = E} 64 bs (Err e) h plain)

-- a byte that was compared with a plus, and differs, is none
pub no_plus : (bs : List ℕ) → false ≡ (get_or bs 0 0 == 43) → get_or bs 0 0 ≢ 43
no_plus bs h e = let k : false ≡ (43 == 43) = rw e at h in cc

-- the rest of a text, cut to its own length, is the rest
pub rest_whole : (text : List ℕ) (n : ℕ) → take (length text - n) (drop n text) ≡ drop n text
rest_whole text n = take_all (length text - n) (drop n text) (omega (arith, length-drop n text))
