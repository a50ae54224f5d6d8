-- The header of a packet: how many bits it has, and that as many bits are those of one.
use Rattle.std.proofs.Common.{◌≡◌, ℕ, zero, suc, ◌+◌, ◌*◌, ◌%◌, ◌^◌, ◌<◌, ◌≤◌, Bool, true, false, cond, List, [], ◌∷◌, ◌++◌, append_assoc, length, refl, sym, ◌∙◌, ap, subst, arith}
use Rattle.std.proofs.lemmas.List.{length-append}
use Rattle.bit_addressing.specs.Row.{binary}
use Rattle.bit_rows.proofs.Binary.{length-binary}
use Rattle.bit_streams.proofs.Lists.{bit_digit, joined_below, joined_digits}
use Rattle.bit_streams.specs.declared.formats.header.Header.{Header}
use Rattle.bit_streams.specs.Header.{HasFields, header_bits}

-- a header has 160 bits
pub header_size : (h : Header) → length (header_bits h) ≡ 160
header_size h = simp (length-append, length-binary) refl

no_digits : (x : ℕ) → binary 0 x ≡ []
unfolding binary
no_digits x = refl

-- a list begins with the digits of a number, as many as it has bits or fewer
pub some_number : (n : ℕ) (xs : List Bool) → n ≤ length xs → (x : ℕ) × (more : List Bool) × (xs ≡ binary n x ++ more) × (x < 2 ^ n) × (length more + n ≡ length xs)
some_number zero xs h = (0, xs, sym (ap (λ l. l ++ xs) (no_digits 0)), omega arith, omega arith)
some_number (suc n) [] h = absurd (omega arith)
some_number (suc n) (b ∷ ys) h =
    let r = some_number n ys (omega arith) in
    let x = cond b 1 0 * 2 ^ n + r.0 % 2 ^ n in
    let count : 1 + n ≡ suc n = omega arith in
    let digits : binary (1 + n) x ≡ b ∷ binary n r.0 = joined_digits 1 n (cond b 1 0) r.0 ∙ ap (λ l. l ++ binary n r.0) (bit_digit b) in
    let same : binary (suc n) x ≡ b ∷ binary n r.0 = subst (λ k. binary k x ≡ b ∷ binary n r.0) count digits in
    (x, r.1, ap (λ l. b ∷ l) r.2 ∙ sym (ap (λ l. l ++ r.1) same), subst (λ k. x < 2 ^ k) count (joined_below 1 n (cond b 1 0) r.0 (digit b)), omega (arith, r.4))
  where
    digit : (b : Bool) → cond b 1 0 < 2 ^ 1
    digit true = omega arith
    digit false = omega arith

-- a number of n digits comes first, and `room` bits or more after it
next_number : (n room : ℕ) (xs : List Bool) → n + room ≤ length xs → (x : ℕ) × (more : List Bool) × (xs ≡ binary n x ++ more) × (x < 2 ^ n) × (room ≤ length more)
next_number n room xs enough =
    let r = some_number n xs (omega arith) in
    (r.0, r.1, r.2, r.3, omega (arith, r.4))

-- two parts, one after the other
both : (old mid new xs ys : List Bool) → old ≡ xs ++ mid → mid ≡ ys ++ new → old ≡ (xs ++ ys) ++ new
both old mid new xs ys first second = first ∙ ap (λ l. xs ++ l) second ∙ sym (append_assoc xs ys new)

three : (old a b c p q r : List Bool) → old ≡ p ++ a → a ≡ q ++ b → b ≡ r ++ c → old ≡ (p ++ (q ++ r)) ++ c
three old a b c p q r first second third = both old a c p (q ++ r) first (both a b c q r second third)

five : (old a b c d e p q r s t : List Bool) → old ≡ p ++ a → a ≡ q ++ b → b ≡ r ++ c → c ≡ s ++ d → d ≡ t ++ e → old ≡ (p ++ (q ++ (r ++ (s ++ t)))) ++ e
five old a b c d e p q r s t i j k l m = both old a e p (q ++ (r ++ (s ++ t))) i (both a b e q (r ++ (s ++ t)) j (three b c d e r s t k l m))

-- bits that are enough begin with those of a header
pub some_header : (xs : List Bool) → 160 ≤ length xs → (h : Header) × (more : List Bool) × HasFields h × (xs ≡ header_bits h ++ more)
some_header xs enough =
    let a = next_number 4 156 xs enough in
    let b = next_number 4 152 a.1 a.4 in
    let c = next_number 6 146 b.1 b.4 in
    let d = next_number 2 144 c.1 c.4 in
    let e = next_number 16 128 d.1 d.4 in
    let f = next_number 16 112 e.1 e.4 in
    let g = next_number 3 109 f.1 f.4 in
    let h = next_number 13 96 g.1 g.4 in
    let i = next_number 8 88 h.1 h.4 in
    let j = next_number 8 80 i.1 i.4 in
    let k = next_number 16 64 j.1 j.4 in
    let l = next_number 32 32 k.1 k.4 in
    let m = next_number 32 0 l.1 l.4 in
    let header : Header = record { version = a.0; header_words = b.0; service = c.0; congestion = d.0; total_length = e.0; identification = f.0; flags = g.0; fragment_offset = h.0; time_to_live = i.0; protocol = j.0; checksum = k.0; source = l.0; destination = m.0 } in
    let fields : HasFields header = record { version = a.3; header_words = b.3; service = c.3; congestion = d.3; total_length = e.3; identification = f.3; flags = g.3; fragment_offset = h.3; time_to_live = i.3; protocol = j.3; checksum = k.3; source = l.3; destination = m.3 } in
    let first = five xs a.1 b.1 c.1 d.1 e.1 (binary 4 a.0) (binary 4 b.0) (binary 6 c.0) (binary 2 d.0) (binary 16 e.0) a.2 b.2 c.2 d.2 e.2 in
    let second = five e.1 f.1 g.1 h.1 i.1 j.1 (binary 16 f.0) (binary 3 g.0) (binary 13 h.0) (binary 8 i.0) (binary 8 j.0) f.2 g.2 h.2 i.2 j.2 in
    let third = three j.1 k.1 l.1 m.1 (binary 16 k.0) (binary 32 l.0) (binary 32 m.0) k.2 l.2 m.2 in
    let x = binary 4 a.0 ++ (binary 4 b.0 ++ (binary 6 c.0 ++ (binary 2 d.0 ++ binary 16 e.0))) in
    let y = binary 16 f.0 ++ (binary 3 g.0 ++ (binary 13 h.0 ++ (binary 8 i.0 ++ binary 8 j.0))) in
    let z = binary 16 k.0 ++ (binary 32 l.0 ++ binary 32 m.0) in
    (header, m.1, fields, both xs e.1 m.1 x (y ++ z) first (both e.1 j.1 m.1 y z second third))
