-- The numbers of a block: what is read was written there, and what was written is read again.
use Rattle.std.proofs.Common.{◌≡◌, ℕ, ◌*◌, ◌^◌, ◌<◌, ◌≤◌, true, false, cond, nat_le, nat_eq, List, ◌++◌, length, Ok, Err, refl, sym, ap, subst, ◌∙◌, append_assoc, arith, inl, inr, eq-eqb}
use Rattle.std.specs.List.{flat_map}
use Rattle.std.specs.Int.{w16}
use Rattle.std.proofs.lemmas.Bool.{eqb-true, ne_eqb, leb-true, leb-false, le-leb, lt-leb}
use Rattle.std.proofs.lemmas.Bool.Decides.{nat_tests}
use Rattle.std.proofs.lemmas.List.Elements.{All-from_recursion, recursion_from_All}
use Rattle.bit_blocks.specs.declared.ranged.Run.{Run}
use Rattle.bit_portable.specs.declared.fault.Fault.TheVariants as faults
use Rattle.bit_portable.specs.declared.stored.Head.{Head}
use Rattle.bit_portable.specs.Stored.{Content, Numbers, Words, Runs, Holds, two, eight, run_bytes, content_bytes, run_total, word_total}
use Rattle.bit_portable.specs.Reading.{◌>>=◌, bytes_at, number_at, twos, eights, ascends, runs_in, numbers_at, words_at, counted_runs_at, runs_at, content_at}
use Rattle.bit_portable.proofs.Bytes.{numbers_length, words_length, runs_length}
use Rattle.bit_blocks.proofs.Runs.{few_runs}
use Rattle.bit_portable.proofs.Fields.{IsBytes, Takes, bind_ok, guard_ok, guarded_ok, chosen, ok_is, bytes_take, bytes_again, number_takes, number_again, wide16}
use Rattle.bit_portable.proofs.Coded.{twos_take, twos_again, eights_take, eights_again, ascends_takes, ascends_again, ascending_halves, runs_take, runs_again}

-- what was read of a block whose header is h
abbrev Read : Head → List ℕ → Content × List ℕ → Type 0
Read h bytes x = Takes bytes (content_bytes x.0) x.1 × Holds h x.0

numbers_read : (h : Head) (bytes : List ℕ) (x : Content × List ℕ) → IsBytes bytes → h.as_runs ≡ false → h.count ≤ 4096 → numbers_at h.count bytes ≡ Ok x → Read h bytes x
unfolding numbers_at
numbers_read h bytes x fits plain few e =
    let b = bind_ok (bytes_at (2 * h.count) bytes) (λ b. cond (ascends 0 (twos b.0)) (Ok (Numbers (twos b.0), b.1)) (Err faults.Unsorted)) x e in
    let t = bytes_take (2 * h.count) bytes b.0 fits b.1 in
    let g = guarded_ok (ascends 0 (twos b.0.0)) faults.Unsorted (Ok (Numbers (twos b.0.0), b.0.1)) x b.2 in
    let all = twos_take h.count b.0.0 t.2 t.1 in
    let text : Takes bytes (flat_map two (twos b.0.0)) b.0.1 = subst (λ (s : List ℕ). Takes bytes s b.0.1) (sym all.0) t.0 in
    subst (Read h bytes) (ok_is (Numbers (twos b.0.0), b.0.1) x g.1) (text, (plain, few, all.1, ascends_takes 0 (twos b.0.0) all.2 g.0))

words_read : (h : Head) (bytes : List ℕ) (x : Content × List ℕ) → IsBytes bytes → h.as_runs ≡ false → 4096 < h.count → words_at h.count bytes ≡ Ok x → Read h bytes x
unfolding words_at
words_read h bytes x fits plain many e =
    let b = bind_ok (bytes_at 8192 bytes) (λ b. cond (nat_eq (word_total (eights b.0)) h.count) (Ok (Words (eights b.0), b.1)) (Err faults.Cardinality)) x e in
    let t = bytes_take 8192 bytes b.0 fits b.1 in
    let g = guarded_ok (nat_eq (word_total (eights b.0.0)) h.count) faults.Cardinality (Ok (Words (eights b.0.0), b.0.1)) x b.2 in
    let all = eights_take 1024 b.0.0 t.2 t.1 in
    let text : Takes bytes (flat_map eight (eights b.0.0)) b.0.1 = subst (λ (s : List ℕ). Takes bytes s b.0.1) (sym all.0) t.0 in
    subst (Read h bytes) (ok_is (Words (eights b.0.0), b.0.1) x g.1) (text, (plain, many, all.1, eqb-true _ _ g.0, All-from_recursion (λ w. w < 2 ^ 64) (eights b.0.0) all.2))

counted_read : (h : Head) (count : ℕ) (bytes : List ℕ) (x : Content × List ℕ) → IsBytes bytes → h.as_runs ≡ true → counted_runs_at h.count count bytes ≡ Ok x → Takes (two count ++ bytes) (content_bytes x.0) x.1 × Holds h x.0
unfolding counted_runs_at
counted_read h count bytes x fits ranged e =
    let g = guard_ok (nat_eq count 0) faults.NoRun (bytes_at (4 * count) bytes >>= λ b. runs_in 0 b.0 >>= λ rs. cond (nat_eq (run_total rs) h.count) (Ok (Runs rs, b.1)) (Err faults.Cardinality)) x e in
    let b = bind_ok (bytes_at (4 * count) bytes) (λ b. runs_in 0 b.0 >>= λ rs. cond (nat_eq (run_total rs) h.count) (Ok (Runs rs, b.1)) (Err faults.Cardinality)) x g.1 in
    let t = bytes_take (4 * count) bytes b.0 fits b.1 in
    let r = bind_ok (runs_in 0 b.0.0) (λ rs. cond (nat_eq (run_total rs) h.count) (Ok (Runs rs, b.0.1)) (Err faults.Cardinality)) x b.2 in
    let rs : List Run = r.0 in
    let s = guarded_ok (nat_eq (run_total rs) h.count) faults.Cardinality (Ok (Runs rs, b.0.1)) x r.2 in
    let all = runs_take count 0 b.0.0 rs t.2 t.1 r.1 in
    let parts : two count ++ bytes ≡ (two (length rs) ++ flat_map run_bytes rs) ++ b.0.1 =
    ap (λ (t : List ℕ). two count ++ t) t.0.parts
    ∙ ap (λ (t : List ℕ). two count ++ (t ++ b.0.1)) (sym all.0)
    ∙ ap (λ (n : ℕ). two n ++ (flat_map run_bytes rs ++ b.0.1)) (sym all.1)
    ∙ sym (append_assoc (two (length rs)) (flat_map run_bytes rs) b.0.1) in
    let some : 0 < length rs = grind (arith, nat_tests, g.0, all.1) in
    subst (λ (y : Content × List ℕ). Takes (two count ++ bytes) (content_bytes y.0) y.1 × Holds h y.0) (ok_is (Runs rs, b.0.1) x s.1) (record { parts = parts; rest_fits = t.0.rest_fits }, (ranged, some, all.2, eqb-true _ _ s.0))

runs_read : (h : Head) (bytes : List ℕ) (x : Content × List ℕ) → IsBytes bytes → h.as_runs ≡ true → runs_at h.count bytes ≡ Ok x → Read h bytes x
unfolding runs_at
runs_read h bytes x fits ranged e =
    let c = bind_ok (number_at w16 bytes) (λ count. counted_runs_at h.count count.0 count.1) x e in
    let t = number_takes w16 65536 wide16 bytes c.0 fits c.1 in
    let others = counted_read h c.0.0 c.0.1 x t.0.rest_fits ranged c.2 in
    (record { parts = t.0.parts ∙ others.0.parts; rest_fits = others.0.rest_fits }, others.1)

-- what is read of a block was written there
pub content_takes : (h : Head) (bytes : List ℕ) (x : Content × List ℕ) → IsBytes bytes → content_at h bytes ≡ Ok x → Takes bytes (content_bytes x.0) x.1 × Holds h x.0
unfolding content_at
content_takes h bytes x fits e = elim (chosen h.as_runs (runs_at h.count bytes) (cond (nat_le h.count 4096) (numbers_at h.count bytes) (words_at h.count bytes)) (Ok x) e) [
  | inl p ↦ runs_read h bytes x fits p.0 p.1
  | inr p ↦ elim (chosen (nat_le h.count 4096) (numbers_at h.count bytes) (words_at h.count bytes) (Ok x) p.1) [
    | inl q ↦ numbers_read h bytes x fits p.0 (leb-true _ _ q.0) q.1
    | inr q ↦ words_read h bytes x fits p.0 (leb-false _ _ q.0) q.1
  ]
]

-- what was written of a block is read again
pub content_again : (h : Head) (c : Content) (rest : List ℕ) → Holds h c → content_at h (content_bytes c ++ rest) ≡ Ok (c, rest)
unfolding content_at numbers_at words_at runs_at counted_runs_at
content_again h (Numbers xs) rest holds =
    let len : length (flat_map two xs) ≡ 2 * h.count = omega (arith, numbers_length xs, holds.2) in
    let few : nat_le h.count 4096 ≡ true = le-leb h.count 4096 holds.1 in
    rw (holds.0, few, bytes_again (2 * h.count) (flat_map two xs) rest len, twos_again xs (ascending_halves 0 xs holds.3), ascends_again 0 xs holds.3) refl
content_again h (Words ws) rest holds =
    let len : length (flat_map eight ws) ≡ 8192 = omega (arith, words_length ws, holds.2) in
    let many : nat_le h.count 4096 ≡ false = lt-leb h.count 4096 holds.1 in
    let total : nat_eq (word_total ws) h.count ≡ true = eq-eqb _ _ holds.3 in
    rw (holds.0, many, bytes_again 8192 (flat_map eight ws) rest len, eights_again ws (recursion_from_All (λ w. w < 2 ^ 64) ws holds.4), total) refl
content_again h (Runs rs) rest holds =
    let few : length rs < 65536 = omega (arith, few_runs 0 rs (omega arith) holds.2) in
    let some : nat_eq (length rs) 0 ≡ false = ne_eqb (length rs) 0 (λ e. omega (arith, holds.1)) in
    let total : nat_eq (run_total rs) h.count ≡ true = eq-eqb _ _ holds.3 in
    rw (holds.0, append_assoc (two (length rs)) (flat_map run_bytes rs) rest, number_again w16 65536 wide16 (length rs) (flat_map run_bytes rs ++ rest) few, some, bytes_again (4 * length rs) (flat_map run_bytes rs) rest (runs_length rs), runs_again 0 rs holds.2, total) refl
