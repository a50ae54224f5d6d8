-- LEB128: the bytes of a number, one by one.
use Rattle.std.proofs.Common.{◌≡◌, ℕ, zero, suc, ◌+◌, ◌-◌, ◌*◌, ◌/◌, ◌%◌, ◌^◌, ◌<◌, ◌≤◌, Bool, List, [], ◌∷◌, ◌++◌, append-nil, append_assoc, refl, sym, ◌∙◌, ap, subst, inl, inr, arith}
use Rattle.std.proofs.Math.Nat.{div-lt_iff_lt-mul}
use Rattle.std.proofs.lemmas.Bool.{cases_lt, lt-ltb, le-ltb}
use Rattle.std.proofs.lemmas.Nat.{pow-add}
use Rattle.bit_addressing.specs.Row.{binary}
use Rattle.std.proofs.lemmas.List.Elements.{All-cons, All-nil}
use Rattle.bit_streams.specs.Codes.{leb_bytes}
use Rattle.bit_streams.specs.Fields.{items_bits}
use Rattle.bit_streams.specs.Refusals.{LebEnds, LebPadded, LebPasses}

-- with no further bytes a number is one byte
pub leb_none : (m x : ℕ) → m ≡ 0 → leb_bytes m x ≡ binary 8 x
unfolding leb_bytes
leb_none m x none = rw none refl

-- a number below 128 is one byte
pub leb_last : (m x : ℕ) → x < 128 → leb_bytes m x ≡ binary 8 x
unfolding leb_bytes
leb_last zero x h = refl
leb_last (suc m) x h = rw (lt-ltb x 128 h) refl

-- a larger number is its low seven bits, marked, and the rest
pub leb_more : (m x : ℕ) → 0 < m → 128 ≤ x → leb_bytes m x ≡ binary 8 (x % 128 + 128) ++ leb_bytes (m - 1) (x / 128)
unfolding leb_bytes
leb_more zero x some h = absurd (omega arith)
leb_more (suc m) x some h = let e : suc m - 1 ≡ m = omega arith in rw (le-ltb x 128 h, e) refl

-- a byte that says that more follow, and a number that is not 0 after it
pub leb_read : (m byte upper : ℕ) → 0 < m → 0 < upper → 128 ≤ byte → byte < 256 → leb_bytes m (upper * 128 + byte % 128) ≡ binary 8 byte ++ leb_bytes (m - 1) upper
leb_read m byte upper more some high low =
    let first : (upper * 128 + byte % 128) % 128 + 128 ≡ byte = omega arith in
    let rest : (upper * 128 + byte % 128) / 128 ≡ upper = omega arith in
    leb_more m (upper * 128 + byte % 128) more (omega arith)
    ∙ ap (λ b. binary 8 b ++ leb_bytes (m - 1) ((upper * 128 + byte % 128) / 128)) first ∙ ap (λ u. binary 8 byte ++ leb_bytes (m - 1) u) rest

-- the rest of a number fits the bytes that are left
pub leb_within : (m x : ℕ) → 0 < m → x < 2 ^ (8 + 7 * m) → x / 128 < 2 ^ (8 + 7 * (m - 1))
leb_within m x some h =
    let more : 8 + 7 * m ≡ 8 + 7 * (m - 1) + 7 = omega arith in
    let whole : 2 ^ (8 + 7 * m) ≡ 2 ^ (8 + 7 * (m - 1)) * 128 = ap (λ e. 2 ^ e) more ∙ pow-add 2 (8 + 7 * (m - 1)) 7 in
    (div-lt_iff_lt-mul {k = 128} (omega arith)).1 (subst (λ e. x < e) whole h)

-- a list that begins with the bytes of a number begins with the first of them
pub record FirstByte (m x : ℕ) (old more : List Bool) : Type 0 where
  pub byte : ℕ
  pub tail : List Bool
  pub is : old ≡ binary 8 byte ++ tail
  pub below : byte < 2 ^ 8
  pub none_is : m ≡ 0 → (byte ≡ x) × (tail ≡ more)
  pub last_is : x < 128 → (byte ≡ x) × (tail ≡ more)
  pub more_is : 0 < m → 128 ≤ x → (byte ≡ x % 128 + 128) × (tail ≡ leb_bytes (m - 1) (x / 128) ++ more)

-- the first byte of a number tells whether more follow
pub first_byte : (m x : ℕ) (old more : List Bool) → x < 2 ^ (8 + 7 * m) → old ≡ leb_bytes m x ++ more → FirstByte m x old more
first_byte zero x old more h e = record {
  byte = x;
  tail = more;
  is = e ∙ ap (λ l. l ++ more) (leb_none zero x refl);
  below = h;
  none_is = λ _. (refl, refl);
  last_is = λ _. (refl, refl);
  more_is = λ some _. absurd (omega arith);
}
first_byte (suc m) x old more h e = elim (cases_lt x 128) [
  | inl l ↦ record {
    byte = x;
    tail = more;
    is = e ∙ ap (λ c. c ++ more) (leb_last (suc m) x l);
    below = let e : 2 ^ 8 ≡ 256 = refl in omega arith;
    none_is = λ none. absurd (omega arith);
    last_is = λ _. (refl, refl);
    more_is = λ _ high. absurd (omega arith);
  }
  | inr l ↦ record {
    byte = x % 128 + 128;
    tail = leb_bytes (suc m - 1) (x / 128) ++ more;
    is = e ∙ ap (λ c. c ++ more) (leb_more (suc m) x (omega arith) l) ∙ append_assoc (binary 8 (x % 128 + 128)) (leb_bytes (suc m - 1) (x / 128)) more;
    below = let e : 2 ^ 8 ≡ 256 = refl in omega arith;
    none_is = λ none. absurd (omega arith);
    last_is = λ low. absurd (omega arith);
    more_is = λ _ _. (refl, refl);
  }
]

-- ---- bytes that are no number

-- fewer than 8 bits, after a byte that says that more follow
pub ends_on : (old mid : List Bool) (byte m : ℕ) → old ≡ binary 8 byte ++ mid → 128 ≤ byte → 0 < m → LebEnds (m - 1) mid → LebEnds m old
ends_on old mid byte m is high more p =
    let size = p.4 in (
      byte ∷ p.0,
      p.1,
      is ∙ ap (λ l. binary 8 byte ++ l) p.2 ∙ sym (append_assoc (binary 8 byte) (items_bits (binary 8) p.0) p.1),
      All-cons (λ b. 128 ≤ b) byte p.0 high p.3,
      omega arith,
      p.5,
    )

-- a marked byte before a padded number makes one that is padded
pub padded_on : (old mid : List Bool) (byte m : ℕ) → old ≡ binary 8 byte ++ mid → 128 ≤ byte → 0 < m → LebPadded (m - 1) mid → LebPadded m old
padded_on old mid byte m is high more p =
    let size = p.4 in (
      byte ∷ p.0,
      p.1,
      is ∙ ap (λ l. binary 8 byte ++ l) p.2 ∙ sym (append_assoc (binary 8 byte) (items_bits (binary 8) p.0) (binary 8 0 ++ p.1)),
      All-cons (λ b. 128 ≤ b) byte p.0 high p.3,
      omega arith,
      omega arith,
    )

-- the number after such a byte is 0
pub padded_here : (old mid new : List Bool) (byte m upper : ℕ) → old ≡ binary 8 byte ++ mid → mid ≡ leb_bytes (m - 1) upper ++ new → upper ≡ 0 → 128 ≤ byte → 0 < m → LebPadded m old
padded_here old mid new byte m upper is next none high more = (
  byte ∷ [],
  new,
  is ∙ ap (λ l. binary 8 byte ++ l) (next ∙ ap (λ u. leb_bytes (m - 1) u ++ new) none ∙ ap (λ l. l ++ new) (leb_last (m - 1) 0 (omega arith)))
      ∙ ap (λ l. l ++ (binary 8 0 ++ new)) (sym (append-nil (binary 8 byte))),
  All-cons (λ b. 128 ≤ b) byte [] high (All-nil (λ b. 128 ≤ b)),
  omega arith,
  omega arith,
)

-- the number passes 64 digits here
pub passes_here : (old mid new : List Bool) (byte m upper : ℕ) → old ≡ binary 8 byte ++ mid → mid ≡ leb_bytes (m - 1) upper ++ new → 2 ^ 64 ≤ upper * 128 + byte % 128 → 128 ≤ byte → byte < 256 → 0 < m → LebPasses m old
passes_here old mid new byte m upper is next past high low more = (
  upper * 128 + byte % 128,
  past,
  new,
  is ∙ ap (λ l. binary 8 byte ++ l) next ∙ sym (append_assoc (binary 8 byte) (leb_bytes (m - 1) upper) new)
      ∙ ap (λ l. l ++ new) (sym (leb_read m byte upper more (omega arith) high low)),
)

-- a marked byte before a number that is too long makes one that is
pub passes_on : (old mid : List Bool) (byte m : ℕ) → old ≡ binary 8 byte ++ mid → 128 ≤ byte → byte < 256 → 0 < m → LebPasses (m - 1) mid → LebPasses m old
passes_on old mid byte m is high low more p =
    let past = p.1 in passes_here old mid p.2 byte m p.0 is p.3 (omega arith) high low more
