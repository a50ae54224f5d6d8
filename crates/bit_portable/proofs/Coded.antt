-- Lists of numbers, words and runs as bytes: what is read was written there, and what was written is read again.
use Rattle.std.proofs.Common.{◌≡◌, ℕ, zero, suc, ◌+◌, ◌-◌, ◌*◌, ◌^◌, ◌<◌, ◌≤◌, Bool, true, false, ◌||◌, ◌&&◌, nat_lt, nat_le, List, [], ◌∷◌, ◌++◌, length, get_or, Ok, refl, sym, ap, subst, ◌∙◌, arith}
use Rattle.std.specs.List.{flat_map, AllByRecursion}
use Rattle.std.specs.Int.{w16, w64, from_le_bytes}
use Rattle.std.proofs.lemmas.Bool.{ltb-false, le-ltb, leb-true, le-leb}
use Rattle.std.proofs.lemmas.Nat.{le_bytes_2, le_bytes_8, from_le_bytes-to_le_bytes_2, from_le_bytes-to_le_bytes_8}
use Rattle.bit_blocks.specs.declared.ranged.Run.{Run}
use Rattle.bit_blocks.specs.Numbers.{AscendsIn}
use Rattle.bit_blocks.specs.Runs.{AreRunsFrom}
use Rattle.bit_portable.specs.declared.fault.Fault.TheVariants as faults
use Rattle.bit_portable.specs.Stored.{two, eight, run_bytes}
use Rattle.bit_portable.specs.Reading.{◌>>=◌, twos, eights, ascends, one_run, runs_in}
use Rattle.bit_portable.proofs.Fields.{IsBytes, IsBytes-take, IsBytes-drop, bind_ok, guard_ok, ok_is, neither, neither_is, wide16}

abbrev pub Halves : List ℕ → Type 0
Halves xs = AllByRecursion (λ x. x < 65536) xs

abbrev pub Wholes : List ℕ → Type 0
Wholes ws = AllByRecursion (λ w. w < 2 ^ 64) ws

pub wholes_from : (ws : List ℕ) → ((k : ℕ) → get_or ws k 0 < 2 ^ 64) → Wholes ws
wholes_from [] below = tt
wholes_from (w ∷ ws) below = (below 0, wholes_from ws (λ k. below (suc k)))

pub twos_take : (n : ℕ) (bs : List ℕ) → IsBytes bs → length bs ≡ 2 * n → (flat_map two (twos bs) ≡ bs) × (length (twos bs) ≡ n) × Halves (twos bs)
twos_take zero [] fits len = (refl, refl, tt)
twos_take zero (a ∷ bs) fits len = absurd (omega arith)
twos_take (suc n) [] fits len = absurd (omega arith)
twos_take (suc n) (a ∷ []) fits len = absurd (omega arith)
twos_take (suc n) (a ∷ b ∷ rest) fits len =
    let here : two (from_le_bytes w16 (a ∷ b ∷ [])) ≡ a ∷ b ∷ [] = le_bytes_2 (a ∷ b ∷ []) _ refl (IsBytes-take 2 (a ∷ b ∷ rest) fits) refl in
    let below : from_le_bytes w16 (a ∷ b ∷ []) < 65536 = wide16.below (a ∷ b ∷ []) (IsBytes-take 2 (a ∷ b ∷ rest) fits) in
    let others = twos_take n rest (IsBytes-drop 2 (a ∷ b ∷ rest) fits) (omega arith) in
    (ap (λ (t : List ℕ). t ++ flat_map two (twos rest)) here ∙ ap (λ (t : List ℕ). a ∷ (b ∷ t)) others.0, ap suc others.1, (below, others.2))

pub twos_again : (xs : List ℕ) → Halves xs → twos (flat_map two xs) ≡ xs
twos_again [] h = refl
twos_again (x ∷ xs) h = ap (λ (n : ℕ). n ∷ twos (flat_map two xs)) (from_le_bytes-to_le_bytes_2 x h.0) ∙ ap (λ (t : List ℕ). x ∷ t) (twos_again xs h.1)

pub eights_take : (n : ℕ) (bs : List ℕ) → IsBytes bs → length bs ≡ 8 * n → (flat_map eight (eights bs) ≡ bs) × (length (eights bs) ≡ n) × Wholes (eights bs)
eights_take zero [] fits len = (refl, refl, tt)
eights_take zero (a ∷ bs) fits len = absurd (omega arith)
eights_take (suc n) (a ∷ b ∷ c ∷ d ∷ e ∷ f ∷ g ∷ h ∷ rest) fits len =
    let front = IsBytes-take 8 (a ∷ b ∷ c ∷ d ∷ e ∷ f ∷ g ∷ h ∷ rest) fits in
    let cells : List ℕ = a ∷ b ∷ c ∷ d ∷ e ∷ f ∷ g ∷ h ∷ [] in
    let here : eight (from_le_bytes w64 cells) ≡ cells = le_bytes_8 cells _ refl front refl in
    let below : from_le_bytes w64 cells < 2 ^ 64 = omega (arith, front 0, front 1, front 2, front 3, front 4, front 5, front 6, front 7) in
    let others = eights_take n rest (IsBytes-drop 8 (a ∷ b ∷ c ∷ d ∷ e ∷ f ∷ g ∷ h ∷ rest) fits) (omega arith) in
    (ap (λ (t : List ℕ). t ++ flat_map eight (eights rest)) here ∙ ap (λ (t : List ℕ). cells ++ t) others.0, ap suc others.1, (below, others.2))
eights_take (suc n) _ fits len = absurd (omega arith)

pub eights_again : (ws : List ℕ) → Wholes ws → eights (flat_map eight ws) ≡ ws
eights_again [] h = refl
eights_again (w ∷ ws) h = ap (λ (n : ℕ). n ∷ eights (flat_map eight ws)) (from_le_bytes-to_le_bytes_8 w h.0) ∙ ap (λ (t : List ℕ). w ∷ t) (eights_again ws h.1)

-- ---- ascending numbers

both : (a b : Bool) → (a && b) ≡ true → (a ≡ true) × (b ≡ true)
both true b e = (refl, e)
both false b e = absurd cc

pub ascends_takes : (from : ℕ) (xs : List ℕ) → Halves xs → ascends from xs ≡ true → AscendsIn from 65536 xs
ascends_takes from [] h e = tt
ascends_takes from (x ∷ xs) h e = let p = both (nat_le from x) (ascends (x + 1) xs) e in (leb-true _ _ p.0, h.0, ascends_takes (x + 1) xs h.1 p.1)

pub ascends_again : (from : ℕ) (xs : List ℕ) → AscendsIn from 65536 xs → ascends from xs ≡ true
ascends_again from [] h = refl
ascends_again from (x ∷ xs) h = ap (λ (b : Bool). b && ascends (x + 1) xs) (le-leb from x h.0) ∙ ascends_again (x + 1) xs h.2

pub ascending_halves : (from : ℕ) (xs : List ℕ) → AscendsIn from 65536 xs → Halves xs
ascending_halves from [] h = tt
ascending_halves from (x ∷ xs) h = (h.1, ascending_halves (x + 1) xs h.2)

-- ---- runs

run_takes : (from first more : ℕ) (r : Run) → one_run from first more ≡ Ok r → (from ≤ first) × (first + more < 65536) × (r.first ≡ first) × (r.last ≡ first + more)
run_takes from first more r e =
    let g = guard_ok (nat_lt first from || nat_lt 65535 (first + more)) faults.Runs (Ok (record { first = first; last = first + more })) r e in
    let tests = neither (nat_lt first from) (nat_lt 65535 (first + more)) g.0 in
    let same = ok_is (record { first = first; last = first + more }) r g.1 in
    let low : from ≤ first = ltb-false _ _ tests.0 in
    let high : first + more ≤ 65535 = ltb-false _ _ tests.1 in
    (low, omega arith, sym (ap (λ (q : Run). q.first) same), sym (ap (λ (q : Run). q.last) same))

pub runs_take : (n from : ℕ) (bs : List ℕ) (rs : List Run) → IsBytes bs → length bs ≡ 4 * n → runs_in from bs ≡ Ok rs → (flat_map run_bytes rs ≡ bs) × (length rs ≡ n) × AreRunsFrom from rs
runs_take zero from [] rs fits len e = subst (λ (qs : List Run). (flat_map run_bytes qs ≡ []) × (length qs ≡ 0) × AreRunsFrom from qs) (ok_is [] rs e) (refl, refl, tt)
runs_take zero from (a ∷ bs) rs fits len e = absurd (omega arith)
runs_take (suc n) from (a ∷ b ∷ c ∷ d ∷ rest) rs fits len e =
    let all : List ℕ = a ∷ b ∷ c ∷ d ∷ rest in
    let first = from_le_bytes w16 (a ∷ b ∷ []) in
    let more = from_le_bytes w16 (c ∷ d ∷ []) in
    let p = bind_ok (one_run from first more) (λ r. runs_in (r.last + 2) rest >>= λ qs. Ok (r ∷ qs)) rs e in
    let r : Run = p.0 in
    let q = bind_ok (runs_in (r.last + 2) rest) (λ qs. Ok (r ∷ qs)) rs p.2 in
    let one = run_takes from first more r p.1 in
    let others = runs_take n (r.last + 2) rest q.0 (IsBytes-drop 4 all fits) (omega arith) q.1 in
    let low : two first ≡ a ∷ b ∷ [] = le_bytes_2 (a ∷ b ∷ []) _ refl (IsBytes-take 2 all fits) refl in
    let high : two more ≡ c ∷ d ∷ [] = le_bytes_2 (c ∷ d ∷ []) _ refl (IsBytes-take 2 (c ∷ d ∷ rest) (IsBytes-drop 2 all fits)) refl in
    let firsts : two r.first ≡ a ∷ b ∷ [] = ap two one.2 ∙ low in
    let lasts : two (r.last - r.first) ≡ c ∷ d ∷ [] = ap two (omega (arith, one.2, one.3)) ∙ high in
    let text : flat_map run_bytes (r ∷ q.0) ≡ all = ap (λ (t : List ℕ). (t ++ two (r.last - r.first)) ++ flat_map run_bytes q.0) firsts ∙ ap (λ (t : List ℕ). ((a ∷ b ∷ []) ++ t) ++ flat_map run_bytes q.0) lasts ∙ ap (λ (t : List ℕ). a ∷ (b ∷ (c ∷ (d ∷ t)))) others.0 in
    subst (λ (qs : List Run). (flat_map run_bytes qs ≡ all) × (length qs ≡ suc n) × AreRunsFrom from qs) (ok_is (r ∷ q.0) rs q.2) (text, ap suc others.1, (omega (arith, one.0, one.2), omega (arith, one.2, one.3), omega (arith, one.1, one.3), others.2))
runs_take (suc n) from _ rs fits len e = absurd (omega arith)

pub runs_again : (from : ℕ) (rs : List Run) → AreRunsFrom from rs → runs_in from (flat_map run_bytes rs) ≡ Ok rs
runs_again from [] h = refl
runs_again from (r ∷ rs) h =
    let begins : from ≤ r.first = h.0 in
    let ordered : r.first ≤ r.last = h.1 in
    let most : r.last < 65536 = h.2 in
    let firsts : from_le_bytes w16 (two r.first) ≡ r.first = from_le_bytes-to_le_bytes_2 r.first (omega arith) in
    let lasts : from_le_bytes w16 (two (r.last - r.first)) ≡ r.last - r.first = from_le_bytes-to_le_bytes_2 (r.last - r.first) (omega arith) in
    let whole : r.first + (r.last - r.first) ≡ r.last = omega arith in
    let tests : (nat_lt r.first from || nat_lt 65535 (r.first + (r.last - r.first))) ≡ false = neither_is _ _ (le-ltb r.first from begins) (le-ltb 65535 (r.first + (r.last - r.first)) (omega arith)) in
    let one : one_run from r.first (r.last - r.first) ≡ Ok r = rw tests (ap (λ (m : ℕ). Ok (record { first = r.first; last = m })) whole) in
    ap (λ (m : ℕ). one_run from m (from_le_bytes w16 (two (r.last - r.first))) >>= λ q. runs_in (q.last + 2) (flat_map run_bytes rs) >>= λ qs. Ok (q ∷ qs)) firsts
    ∙ ap (λ (m : ℕ). one_run from r.first m >>= λ q. runs_in (q.last + 2) (flat_map run_bytes rs) >>= λ qs. Ok (q ∷ qs)) lasts
    ∙ ap (λ x. x >>= λ q. runs_in (q.last + 2) (flat_map run_bytes rs) >>= λ qs. Ok (q ∷ qs)) one
    ∙ ap (λ x. x >>= λ qs. Ok (r ∷ qs)) (runs_again (r.last + 2) rs h.3)
