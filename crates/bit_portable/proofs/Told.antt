-- What a fault tells of the bytes.
use Rattle.std.proofs.Common.{◌≡◌, ◌⊎◌, ℕ, ◌+◌, ◌*◌, ◌<◌, Bool, true, false, ◌&&◌, cond, nat_eq, nat_lt, List, ◌++◌, length, take, drop, Result, Ok, Err, refl, sym, ap, subst, ◌∙◌, inl, inr, arith, length-append}
use Rattle.std.specs.Int.{Width, w16, w32, byte_len, from_le_bytes}
use Rattle.std.proofs.lemmas.Bool.{eqb-true, eq-eqb, ltb-true}
use Rattle.std.proofs.lemmas.List.{take_at}
use Rattle.std.proofs.lemmas.Bool.Decides.{nat_tests}
use Rattle.std.proofs.lemmas.Nat.{from_le_bytes-to_le_bytes_2}
use Rattle.bit_portable.specs.declared.fault.Fault.{Fault}
use Rattle.bit_portable.specs.declared.fault.Fault.TheVariants as faults
use Rattle.bit_portable.specs.declared.fault.ReadError.{ReadError}
use Rattle.bit_portable.specs.declared.fault.ReadError.TheVariants as errors
use Rattle.bit_portable.specs.declared.stored.Stored.{Stored}
use Rattle.std.specs.Global.{Vec}
use Rattle.bit_portable.specs.Stored.{Piece, pieces_of, two}
use Rattle.bit_portable.specs.Form.{form, four, has_offsets}
use Rattle.bit_portable.specs.Faults.{FailsBy, HasFront, HasNoCookie, HasTooMany, Tells}
use Rattle.bit_portable.specs.Reading.{◌>>=◌, Fails, Gives, all_of, bytes_at, flags_len, heads_in, number_at, offsets_len, pieces_in, plain_start_at, start_at}
use Rattle.bit_portable.proofs.Fields.{IsBytes, chosen, guard_ok, number_takes, takes_both, wide16, ok_is}
use Rattle.bit_portable.proofs.Faults.{IsInner, bind_err, bytes_inner, heads_inner, pieces_inner}
use Rattle.bit_portable.proofs.Whole.{after_described, after_flags, after_heads, after_offsets, after_start, all_trailing, ends, flagged_or_plain, front_takes}

-- where the bytes go on after a form
ends_err : (b : Bool) (ps : List Piece) (f : Fault) → cond b (Ok ps) (Err faults.Trailing) ≡ Err f → (b ≡ false) × (faults.Trailing ≡ f)
ends_err true ps f e = absurd cc
ends_err false ps f e = (refl, cc)

fault_from : (bytes : List ℕ) (f : Fault) → IsBytes bytes → all_of bytes ≡ Err f → (start_at bytes ≡ Err f) ⊎ (IsInner f ⊎ ((faults.Trailing ≡ f) × HasFront bytes))
unfolding all_of
fault_from bytes f fits e = elim (bind_err (start_at bytes) (after_start bytes) f e) [
  | inl q ↦ inl q
  | inr s ↦ inr (elim (bind_err (bytes_at (flags_len s.0.0) s.0.1) (after_flags bytes s.0.0) f s.2) [
    | inl q ↦ inl (bytes_inner (flags_len s.0.0) s.0.1 f q)
    | inr g ↦ elim (bind_err (bytes_at (4 * s.0.0.count) g.0.1) (after_described bytes s.0.0 g.0) f g.2) [
      | inl q ↦ inl (bytes_inner (4 * s.0.0.count) g.0.1 f q)
      | inr d ↦ elim (bind_err (heads_in g.0.0 0 0 d.0.0) (after_heads bytes s.0.0 d.0) f d.2) [
        | inl q ↦ inl (heads_inner g.0.0 0 0 d.0.0 f q)
        | inr h ↦ elim (bind_err (bytes_at (offsets_len s.0.0) d.0.1) (after_offsets bytes s.0.0 h.0) f h.2) [
          | inl q ↦ inl (bytes_inner (offsets_len s.0.0) d.0.1 f q)
          | inr o ↦ elim (bind_err (pieces_in (has_offsets s.0.0.flagged s.0.0.count) (length bytes) o.0.0 0 h.0 o.0.1) ends f o.2) [
            | inl q ↦ inl (pieces_inner (has_offsets s.0.0.flagged s.0.0.count) (length bytes) o.0.0 0 h.0 o.0.1 f q)
            | inr p ↦ (
                let before = front_takes bytes s.0 g.0 d.0 h.0 o.0 p.0 fits s.1 g.1 d.1 h.1 o.1 p.1 in
                let last = ends_err (nat_eq (length p.0.1) 0) p.0.0 f p.2 in
                let text : List ℕ = form before.0 before.1 p.0.0 in
                let some : 0 < length p.0.1 = grind (arith, nat_tests, last.0) in
                let size : length bytes ≡ length text + length p.0.1 = ap length before.3 ∙ length-append text p.0.1 in
                let front : take (length text) bytes ≡ text = ap (λ (t : List ℕ). take (length text) t) before.3 ∙ take_at text p.0.1 (length text) refl in
                inr (last.1, (length text, omega arith, p.0.0, (before.0, before.1, before.2, front))))
          ]
        ]
      ]
    ]
  ])
]

-- ---- the beginning

abbrev StartTells : List ℕ → Fault → Type 0
StartTells bytes faults.Short = Unit {0}
StartTells bytes faults.Cookie = HasNoCookie bytes
StartTells bytes faults.TooMany = HasTooMany bytes
StartTells bytes _ = ⊥

number_err : (w : Width) (bytes : List ℕ) (f : Fault) → number_at w bytes ≡ Err f → faults.Short ≡ f
number_err w bytes f e = elim (chosen (nat_lt (length bytes) (byte_len w)) (Err faults.Short) (Ok (from_le_bytes w (take (byte_len w) bytes), drop (byte_len w) bytes)) (Err f) e) [
  | inl q ↦ (let same = q.1 in cc)
  | inr q ↦ (let same = q.1 in absurd cc)
]

number_is : (w : Width) (bytes : List ℕ) (x : ℕ × List ℕ) → number_at w bytes ≡ Ok x → x.0 ≡ from_le_bytes w (take (byte_len w) bytes)
number_is w bytes x e =
    let g = guard_ok (nat_lt (length bytes) (byte_len w)) faults.Short (Ok (from_le_bytes w (take (byte_len w) bytes), drop (byte_len w) bytes)) x e in
    sym (ap (λ (p : ℕ × List ℕ). p.0) (ok_is (from_le_bytes w (take (byte_len w) bytes), drop (byte_len w) bytes) x g.1))

same_two : (a b : ℕ) → a < 65536 → b < 65536 → two a ≡ two b → a ≡ b
same_two a b low high e = sym (from_le_bytes-to_le_bytes_2 a low) ∙ ap (from_le_bytes w16) e ∙ from_le_bytes-to_le_bytes_2 b high

no_cookie : (bytes : List ℕ) (a b : ℕ) (rest : List ℕ) → bytes ≡ (two a ++ two b) ++ rest → a < 65536 → b < 65536 → nat_eq a 12347 ≡ false → (nat_eq a 12346 && nat_eq b 0) ≡ false → HasNoCookie bytes
no_cookie bytes a b rest is low high first second =
    let front2 : take 2 bytes ≡ two a = ap (λ (t : List ℕ). take 2 t) is in
    let front4 : take 4 bytes ≡ two a ++ two b = ap (λ (t : List ℕ). take 4 t) is in (
      λ e. (
          let same : a ≡ 12347 = same_two a 12347 low (omega arith) (sym front2 ∙ e) in
          let yes : nat_eq a 12347 ≡ true = eq-eqb a 12347 same in
          let no : true ≡ false = sym yes ∙ first in cc),
      λ e. (
          let both : two a ++ two b ≡ four 12346 = sym front4 ∙ e in
          let one : a ≡ 12346 = same_two a 12346 low (omega arith) (ap (λ (t : List ℕ). take 2 t) both) in
          let other : b ≡ 0 = same_two b 0 high (omega arith) (ap (λ (t : List ℕ). drop 2 t) both) in
          let yes : (nat_eq a 12346 && nat_eq b 0) ≡ true = ap (λ (k : ℕ). nat_eq k 12346 && nat_eq b 0) one ∙ ap (λ (k : ℕ). nat_eq k 0) other in
          let no : true ≡ false = sym yes ∙ second in cc),
    )

both_are : (a b : Bool) → (a && b) ≡ true → (a ≡ true) × (b ≡ true)
both_are true b e = (refl, e)
both_are false b e = absurd cc

err_same : (f g : Fault) (P : Fault → Type 0) → f ≡ g → P f → P g
err_same f g P e h = subst P e h

plain_told : (bytes : List ℕ) (rest : List ℕ) (f : Fault) → bytes ≡ four 12346 ++ rest → plain_start_at rest ≡ Err f → StartTells bytes f
unfolding plain_start_at
plain_told bytes rest f is e = elim (bind_err (number_at w32 rest) (λ n. cond (nat_lt 65536 n.0) (Err faults.TooMany) (Ok (record { flagged = false; count = n.0 }, n.1))) f e) [
  | inl q ↦ err_same faults.Short f (StartTells bytes) (number_err w32 rest f q) tt
  | inr n ↦ elim (chosen (nat_lt 65536 n.0.0) (Err faults.TooMany) (Ok (record { flagged = false; count = n.0.0 }, n.0.1)) (Err f) n.2) [
    | inl q ↦ (
        let same : faults.TooMany ≡ f = (let fault = q.1 in cc) in
        let many : 65536 < n.0.0 = ltb-true _ _ q.0 in
        let front : take 4 bytes ≡ four 12346 = ap (λ (t : List ℕ). take 4 t) is in
        let number : n.0.0 ≡ from_le_bytes w32 (take 4 (drop 4 bytes)) = number_is w32 rest n.0 n.1 ∙ ap (λ (t : List ℕ). from_le_bytes w32 (take 4 (drop 4 t))) (sym is) in
        err_same faults.TooMany f (StartTells bytes) same (front, omega arith))
    | inr q ↦ (let fault = q.1 in absurd cc)
  ]
]

start_told : (bytes : List ℕ) (f : Fault) → IsBytes bytes → start_at bytes ≡ Err f → StartTells bytes f
unfolding start_at
start_told bytes f fits e = elim (bind_err (number_at w16 bytes) (λ a. number_at w16 a.1 >>= λ b. flagged_or_plain a b) f e) [
  | inl q ↦ err_same faults.Short f (StartTells bytes) (number_err w16 bytes f q) tt
  | inr a ↦ elim (bind_err (number_at w16 a.0.1) (λ b. flagged_or_plain a.0 b) f a.2) [
    | inl q ↦ err_same faults.Short f (StartTells bytes) (number_err w16 a.0.1 f q) tt
    | inr b ↦ (
        let s = number_takes w16 65536 wide16 bytes a.0 fits a.1 in
        let t = number_takes w16 65536 wide16 a.0.1 b.0 s.0.rest_fits b.1 in
        let front = (takes_both bytes (two a.0.0) a.0.1 (two b.0.0) b.0.1 s.0 t.0).parts in
        elim (chosen (nat_eq a.0.0 12347) (Ok (record { flagged = true; count = b.0.0 + 1 }, b.0.1)) (cond (nat_eq a.0.0 12346 && nat_eq b.0.0 0) (plain_start_at b.0.1) (Err faults.Cookie)) (Err f) b.2) [
          | inl q ↦ (let fault = q.1 in absurd cc)
          | inr q ↦ elim (chosen (nat_eq a.0.0 12346 && nat_eq b.0.0 0) (plain_start_at b.0.1) (Err faults.Cookie) (Err f) q.1) [
            | inl r ↦ (
                let tests = both_are (nat_eq a.0.0 12346) (nat_eq b.0.0 0) r.0 in
                let text : bytes ≡ four 12346 ++ b.0.1 =
                front ∙ ap (λ (k : ℕ). (two k ++ two b.0.0) ++ b.0.1) (eqb-true _ _ tests.0) ∙ ap (λ (k : ℕ). (two 12346 ++ two k) ++ b.0.1) (eqb-true _ _ tests.1) in
                plain_told bytes b.0.1 f text r.1)
            | inr r ↦ (
                let same : faults.Cookie ≡ f = (let fault = r.1 in cc) in
                err_same faults.Cookie f (StartTells bytes) same (no_cookie bytes a.0.0 b.0.0 b.0.1 front s.1 t.1 q.0 r.0))
          ]
        ])
  ]
]

-- ---- each fault

no_front : (bytes : List ℕ) (f : Fault) → all_of bytes ≡ Err f → (f ≡ faults.Trailing → ⊥) → HasFront bytes → ⊥
no_front bytes f e other front =
    let told : all_of bytes ≡ Err faults.Trailing = all_trailing bytes front.0 front.2 front.1 front.3 in
    other (let same = sym e ∙ told in cc)

pub tells : (bytes : List ℕ) (f : Fault) → IsBytes bytes → all_of bytes ≡ Err f → Tells bytes f
tells bytes faults.Cookie fits e = elim (fault_from bytes faults.Cookie fits e) [
  | inl q ↦ start_told bytes faults.Cookie fits q
  | inr q ↦ elim q [ inl h ↦ absurd h | inr h ↦ (let other = h.0 in absurd cc) ]
]
tells bytes faults.TooMany fits e = elim (fault_from bytes faults.TooMany fits e) [
  | inl q ↦ start_told bytes faults.TooMany fits q
  | inr q ↦ elim q [ inl h ↦ absurd h | inr h ↦ (let other = h.0 in absurd cc) ]
]
tells bytes faults.Trailing fits e = elim (fault_from bytes faults.Trailing fits e) [
  | inl q ↦ absurd (start_told bytes faults.Trailing fits q)
  | inr q ↦ elim q [ inl h ↦ absurd h | inr h ↦ h.1 ]
]
tells bytes f fits e = no_front bytes f e (λ same. cc)

pub fault_tells : (X : Type 0) (bytes : List ℕ) (e : ReadError) → IsBytes bytes → Fails e (all_of bytes) → FailsBy {X = X} (Err e) (Tells bytes)
fault_tells X bytes errors.Memory fits fails = tt
fault_tells X bytes (errors.Fault f) fits fails = tells bytes f fits fails

pub result_tells : (bytes : List ℕ) (r : Result (Vec Stored) ReadError) → IsBytes bytes → Gives (λ v. pieces_of v.items) r (all_of bytes) → FailsBy r (Tells bytes)
result_tells bytes (Ok v) fits given = tt
result_tells bytes (Err e) fits given = fault_tells (Vec Stored) bytes e fits given
