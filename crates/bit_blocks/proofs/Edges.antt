-- Runs of true items, counted by the true items that follow another one.
use Rattle.std.proofs.Common.{◌≡◌, ℕ, suc, ◌+◌, ◌-◌, ◌<◌, Bool, true, false, cond, ◌&&◌, nat_eq, List, [], ◌∷◌, count_by, get_or, length, replicate, take, refl, sym, ◌∙◌, ap, arith, rules}
use Rattle.std.specs.Prelude.{slice_range}
use Rattle.std.proofs.lemmas.Bool.{eq-eqb, ne_eqb}
use Rattle.std.proofs.lemmas.List.{places, same_lists}
use Rattle.std.proofs.lemmas.List.Sums.{sum_by-cons}
use Rattle.bit_addressing.specs.Row.{put}
use Rattle.bit_slice.specs.Operators.{and_of}
use Rattle.bit_slice.specs.Places.{ones_of}
use Rattle.bit_blocks.specs.Numbers.{those}
use Rattle.bit_blocks.specs.Runs.{runs_of}
use Rattle.bit_blocks.proofs.Bits.{ones_those}
use Rattle.bit_blocks.proofs.Joined.{breaks, runs_breaks}
use Rattle.bit_blocks.proofs.Those.{those_first, those_none}

-- the indices of the true items, of which the first has index a
abbrev pub ones_from : ℕ → List Bool → List ℕ
ones_from a [] = []
ones_from a (b ∷ bits) = cond b (a ∷ ones_from (a + 1) bits) (ones_from (a + 1) bits)

those_from : (p : ℕ → Bool) (a : ℕ) (bits : List Bool) → ((k : ℕ) → k < length bits → p (a + k) ≡ get_or bits k false) → those p a (length bits) ≡ ones_from a bits
those_from p a [] same = those_none p a
those_from p a (b ∷ bits) same =
    let z : a + 0 ≡ a = omega arith in
    let here : p a ≡ b = ap p (sym z) ∙ same 0 (omega arith) in
    let rest = those_from p (a + 1) bits (λ k l. let e : a + 1 + k ≡ a + suc k = omega arith in ap p e ∙ same (suc k) (omega arith)) in
    those_first p a (length bits) ∙ ap (λ l. cond (p a) (a ∷ l) l) rest ∙ ap (λ t. cond t (a ∷ ones_from (a + 1) bits) (ones_from (a + 1) bits)) here

ones_from_start : (bits : List Bool) → ones_of bits ≡ ones_from 0 bits
ones_from_start bits =
    ones_those bits (length bits) refl ∙ those_from (λ k. get_or bits k false) 0 bits (λ k l. let e : 0 + k ≡ k = omega arith in ap (λ j. get_or bits j false) e)

-- how many items are true
abbrev trues : List Bool → ℕ
trues [] = 0
trues (b ∷ bits) = cond b 1 0 + trues bits

-- how many are true and follow a true one, where `before` stands before the first
abbrev follow : Bool → List Bool → ℕ
follow before [] = 0
follow before (b ∷ bits) = cond (b && before) 1 0 + follow b bits

-- a number below the first index is followed by those that break a run, and the others follow a true item
broken : (last a : ℕ) (bits : List Bool) → last < a → breaks last (ones_from a bits) + follow (nat_eq a (last + 1)) bits ≡ trues bits
broken last a [] below = refl
broken last a (true ∷ bits) below =
    let rest : breaks a (ones_from (a + 1) bits) + follow true bits ≡ trues bits = ap (λ t. breaks a (ones_from (a + 1) bits) + follow t bits) (sym (eq-eqb (a + 1) (a + 1) refl)) ∙ broken a (a + 1) bits (omega arith) in
    by_test (nat_eq a (last + 1)) rest
  where
    by_test : (t : Bool) → breaks a (ones_from (a + 1) bits) + follow true bits ≡ trues bits → (cond t 0 1 + breaks a (ones_from (a + 1) bits)) + (cond t 1 0 + follow true bits) ≡ 1 + trues bits
    by_test true rest = omega arith
    by_test false rest = omega arith
broken last a (false ∷ bits) below =
    let rest : breaks last (ones_from (a + 1) bits) + follow false bits ≡ trues bits = ap (λ t. breaks last (ones_from (a + 1) bits) + follow t bits) (sym (ne_eqb (a + 1) (last + 1) (λ e. omega arith))) ∙ broken last (a + 1) bits (omega arith) in
    omega arith

-- as many runs as true items that do not follow another
runs_and_followers : (a : ℕ) (bits : List Bool) → length (runs_of (ones_from a bits)) + follow false bits ≡ trues bits
runs_and_followers a [] = refl
runs_and_followers a (true ∷ bits) =
    let rest : breaks a (ones_from (a + 1) bits) + follow true bits ≡ trues bits = ap (λ t. breaks a (ones_from (a + 1) bits) + follow t bits) (sym (eq-eqb (a + 1) (a + 1) refl)) ∙ broken a (a + 1) bits (omega arith) in
    let all = runs_breaks a (ones_from (a + 1) bits) in
    omega arith
runs_and_followers a (false ∷ bits) = let rest = runs_and_followers (a + 1) bits in omega arith

trues_counted : (bits : List Bool) → count_by (λ b. b) bits ≡ trues bits
trues_counted [] = refl
trues_counted (b ∷ bits) = sum_by-cons (λ t. cond {A = ℕ} t 1 0) b bits ∙ ap (λ n. cond b 1 0 + n) (trues_counted bits)

-- the followers, by the items and those before them
follow_counted : (before : Bool) (bits : List Bool) → count_by (λ b. b) (and_of bits (take (length bits) (before ∷ bits))) ≡ follow before bits
follow_counted before [] = refl
follow_counted before (b ∷ bits) =
    sum_by-cons (λ t. cond {A = ℕ} t 1 0) (b && before) (and_of bits (take (length bits) (b ∷ bits))) ∙ ap (λ n. cond (b && before) 1 0 + n) (follow_counted b bits)

-- bits that are copied to the next index each, over bits that are false
moved_on : (bits : List Bool) (n : ℕ) → length bits ≡ n → 0 < n → put (replicate n false) 1 (slice_range bits 0 (n - 1)) ≡ take (length bits) (false ∷ bits)
unfolding put
moved_on bits n size some = same_lists _ _ (search (rules, places)) (λ i b below. grind (arith, places))

-- the runs of the numbers of bits, by the bits and the bits before them
pub runs_by_earlier : (bits earlier : List Bool) (n : ℕ) → length bits ≡ n → 0 < n → earlier ≡ put (replicate n false) 1 (slice_range bits 0 (n - 1)) → length (runs_of (ones_of bits)) + count_by (λ b. b) (and_of bits earlier) ≡ count_by (λ b. b) bits
runs_by_earlier bits earlier n size some is =
    ap (λ l. length (runs_of (ones_of bits)) + count_by (λ b. b) (and_of bits l)) (is ∙ moved_on bits n size some)
    ∙ ap (λ k. length (runs_of (ones_of bits)) + k) (follow_counted false bits) ∙ ap (λ l. length (runs_of l) + follow false bits) (ones_from_start bits)
    ∙ runs_and_followers 0 bits ∙ sym (trues_counted bits)
