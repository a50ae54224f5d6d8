-- Two ascending lists read side by side.
use Rattle.std.proofs.Common.{◌≡◌, ℕ, zero, suc, ◌+◌, ◌-◌, ◌<◌, ◌≤◌, Bool, true, false, cond, ◌&&◌, ◌||◌, nat_eq, nat_lt, List, [], ◌∷◌, ◌++◌, append-nil, get_or, length, min, take, drop, refl, sym, ◌∙◌, ap, inl, inr, arith}
use Rattle.std.specs.Prelude.{◌⊎◌}
use Rattle.std.proofs.Math.Bool.{and-true as and_true, and-false as and_none, or-true}
use Rattle.std.proofs.Common.{length-drop, subst}
use Rattle.std.proofs.Math.Seq.{take-length}
use Rattle.std.proofs.lemmas.Bool.{cases_lt, eq-eqb, le-ltb, ne_eqb}
use Rattle.std.proofs.lemmas.List.{get_or_past}
use Rattle.std.proofs.lemmas.Grind.{get_or_default_zero}
use Rattle.bit_blocks.specs.Numbers.{AscendsIn, Ascends, Combines, count_below, has, those}
use Rattle.bit_blocks.specs.Operation.{made_by}
use Rattle.bit_blocks.specs.declared.operation.Operation.{Operation}
use Rattle.bit_blocks.specs.declared.operation.Operation.TheVariants.{Union, Intersection, Difference, SymmetricDifference}
use Rattle.bit_blocks.proofs.Ascending.{at_place, below_all, below_bound, counted_at, later}
use Rattle.bit_blocks.proofs.Those.{ascends_those, has_those, those_empty, those_here, those_joined, those_not_here, those_of, those_same}

-- the number at an index, or the bound past the end
abbrev pub next_at : List ℕ → ℕ → ℕ
next_at xs i = get_or xs i 65536

-- the numbers before index i are below b
abbrev pub AllBefore : List ℕ → ℕ → ℕ → Type 0
AllBefore xs i b = (m : ℕ) → m < i → get_or xs m 0 < b

-- two lists are read to i and j, and what was made has the numbers below b that pass
pub record AreReadTo (p : ℕ → Bool) (xs ys made : List ℕ) (i j b : ℕ) : Type 0 where
  pub left : i ≤ length xs
  pub right : j ≤ length ys
  pub bound : b ≡ min (next_at xs i) (next_at ys j)
  pub left_below : AllBefore xs i b
  pub right_below : AllBefore ys j b
  pub numbers : made ≡ those p 0 b

-- a number passes only if it is in one of the lists
abbrev pub PassesOnlyIn : (ℕ → Bool) → List ℕ → List ℕ → Type 0
PassesOnlyIn p xs ys = (k : ℕ) → has xs k ≡ false → has ys k ≡ false → p k ≡ false

pub next_inside : (xs : List ℕ) (i : ℕ) → i < length xs → next_at xs i ≡ get_or xs i 0
next_inside xs i inside = get_or_default_zero xs i 65536 inside

pub next_most : (xs : List ℕ) (i : ℕ) → Ascends xs → next_at xs i ≤ 65536
next_most xs i h = elim (cases_lt i (length xs)) [
  | inl inside ↦ (let low = below_bound 0 65536 xs i 65536 h inside in omega arith)
  | inr past ↦ (let e = get_or_past xs i 65536 past in omega arith)
]

-- a number that lies before the next one of a list, and after those before it, is not in it
pub between : (xs : List ℕ) (i k : ℕ) → Ascends xs → i ≤ length xs → AllBefore xs i k → k < next_at xs i → has xs k ≡ false
between xs i k h within before next =
    let at : i ≡ count_below xs k = counted_at xs i k within before (λ m low inside. elim (cases_lt i m) [
      | inl more ↦ (let up = later 0 65536 xs i m 0 h more inside in let e = next_inside xs i (omega arith) in omega arith)
      | inr same ↦ (let e : i ≡ m = omega arith in let f = ap (λ n. get_or xs n 0) e in let g = next_inside xs i (omega arith) in omega arith)
    ]) in
    at_place 0 65536 xs k h ∙ ap (λ n. nat_lt n (length xs) && nat_eq (get_or xs n 0) k) (sym at) ∙ elim (cases_lt i (length xs)) [
      | inl inside ↦ (
          let e = next_inside xs i inside in
          let apart : nat_eq (get_or xs i 0) k ≡ false = ne_eqb (get_or xs i 0) k (λ s. omega arith) in
          ap (λ b. nat_lt i (length xs) && b) apart ∙ and_none (nat_lt i (length xs)))
      | inr past ↦ ap (λ b. b && nat_eq (get_or xs i 0) k) (le-ltb i (length xs) past)
    ]

-- the number at an index is in the list
pub at_index : (xs : List ℕ) (i : ℕ) → i < length xs → has xs (get_or xs i 0) ≡ true
at_index [] i inside = absurd (omega arith)
at_index (x ∷ xs) zero inside = ap (λ b. b || has xs x) (eq-eqb x x refl)
at_index (x ∷ xs) (suc i) inside = ap (λ b. nat_eq x (get_or xs i 0) || b) (at_index xs i (omega arith)) ∙ or-true (nat_eq x (get_or xs i 0))

-- of the numbers up to a greater bound, one more may pass
pub one_more : (p : ℕ → Bool) (b c : ℕ) → b < c → ((k : ℕ) → b < k → k < c → p k ≡ false) → those p 0 c ≡ those p 0 b ++ cond (p b) (b ∷ []) []
one_more p b c up out =
    let size : b + suc (c - suc b) ≡ c = omega arith in
    let z : 0 + b ≡ b = omega arith in
    let none : those p (b + 1) (c - suc b) ≡ [] = those_empty p (b + 1) (c - suc b) (λ k low high. out k (omega arith) (omega arith)) in
    ap (λ n. those p 0 n) (sym size) ∙ those_joined p 0 b (suc (c - suc b)) ∙ ap (λ a. those p 0 b ++ those p a (suc (c - suc b))) z
    ∙ ap (λ l. those p 0 b ++ l) (first (p b) refl none)
  where
    first : (here : Bool) → p b ≡ here → those p (b + 1) (c - suc b) ≡ [] → those p b (suc (c - suc b)) ≡ cond (p b) (b ∷ []) []
    first true here none = those_here p b (c - suc b) here ∙ ap (λ l. b ∷ l) none ∙ sym (ap (λ t. cond t (b ∷ []) []) here)
    first false here none = those_not_here p b (c - suc b) here ∙ none ∙ sym (ap (λ t. cond t (b ∷ []) []) here)

pub more_below : (xs : List ℕ) (i b c : ℕ) → b < c → AllBefore xs i b → get_or xs i 0 ≡ b → AllBefore xs (i + 1) c
more_below xs i b c up before here m low = elim (cases_lt m i) [
  | inl less ↦ (let old = before m less in omega arith)
  | inr not_less ↦ (let e : m ≡ i = omega arith in let f = ap (λ n. get_or xs n 0) e in omega arith)
]

-- the next number of a list is greater than the one before it
pub next_up : (xs : List ℕ) (i : ℕ) → Ascends xs → i < length xs → get_or xs i 0 < next_at xs (i + 1)
next_up xs i h inside = elim (cases_lt (i + 1) (length xs)) [
  | inl more ↦ (let up = later 0 65536 xs i (i + 1) 0 h (omega arith) more in let e = next_inside xs (i + 1) more in omega arith)
  | inr last ↦ (let e = get_or_past xs (i + 1) 65536 last in let low = below_bound 0 65536 xs i 0 h inside in omega arith)
]

pub still_below : (xs : List ℕ) (i b c : ℕ) → b ≤ c → AllBefore xs i b → AllBefore xs i c
still_below xs i b c up before m low = let old = before m low in omega arith

-- nothing was read yet
pub begun : (p : ℕ → Bool) (xs ys : List ℕ) → Ascends xs → Ascends ys → PassesOnlyIn p xs ys → AreReadTo p xs ys [] 0 0 (min (next_at xs 0) (next_at ys 0))
begun p xs ys h g only = record {
  left = omega arith;
  right = omega arith;
  bound = refl;
  left_below = λ m low. omega arith;
  right_below = λ m low. omega arith;
  numbers = sym (those_empty p 0 (min (next_at xs 0) (next_at ys 0)) (λ k low high.
      only k (between xs 0 k h (omega arith) (λ m l. omega arith) (omega arith)) (between ys 0 k g (omega arith) (λ m l. omega arith) (omega arith))));
}

-- the next number is in the left list alone
pub step_left : (p : ℕ → Bool) (xs ys made new : List ℕ) (i j b x : ℕ) (keep : Bool) → Ascends xs → Ascends ys → PassesOnlyIn p xs ys → AreReadTo p xs ys made i j b
    → i < length xs → get_or xs i 0 ≡ x → x < next_at ys j → p x ≡ keep → new ≡ made ++ cond keep (x ∷ []) []
    → AreReadTo p xs ys new (i + 1) j (min (next_at xs (i + 1)) (next_at ys j))
step_left p xs ys made new i j b x keep h g only r inside at less here is =
    let c = min (next_at xs (i + 1)) (next_at ys j) in
    let e = next_inside xs i inside in
    let up = next_up xs i h inside in
    let lb = r.left in
    let rb = r.right in
    let eb = r.bound in
    let now : b ≡ x = omega arith in
    record {
      left = omega arith;
      right = rb;
      bound = refl;
      left_below = more_below xs i b c (omega arith) r.left_below (omega arith);
      right_below = still_below ys j b c (omega arith) r.right_below;
      numbers = is ∙ ap (λ l. l ++ cond keep (x ∷ []) []) r.numbers
          ∙ ap (λ t. those p 0 b ++ cond t (x ∷ []) []) (sym here)
          ∙ ap (λ n. those p 0 b ++ cond (p n) (n ∷ []) []) (sym now)
          ∙ sym (one_more p b c (omega arith) (λ k low high. only k
          (between xs (i + 1) k h (omega arith) (more_below xs i b k low r.left_below (omega arith)) (omega arith))
          (between ys j k g rb (still_below ys j b k (omega arith) r.right_below) (omega arith))));
    }

-- the lists exchanged
exchanged : (p : ℕ → Bool) (xs ys made : List ℕ) (i j b : ℕ) → AreReadTo p xs ys made i j b → AreReadTo p ys xs made j i b
exchanged p xs ys made i j b r = let e = r.bound in record { left = r.right; right = r.left; bound = omega arith; left_below = r.right_below; right_below = r.left_below; numbers = r.numbers }

-- the bound written another way
at_bound : (p : ℕ → Bool) (xs ys made : List ℕ) (i j b c : ℕ) → b ≡ c → AreReadTo p xs ys made i j b → AreReadTo p xs ys made i j c
at_bound p xs ys made i j b c e r = subst (λ n. AreReadTo p xs ys made i j n) e r

-- the next number is in the right list alone
pub step_right : (p : ℕ → Bool) (xs ys made new : List ℕ) (i j b y : ℕ) (keep : Bool) → Ascends xs → Ascends ys → PassesOnlyIn p xs ys → AreReadTo p xs ys made i j b
    → j < length ys → get_or ys j 0 ≡ y → y < next_at xs i → p y ≡ keep → new ≡ made ++ cond keep (y ∷ []) []
    → AreReadTo p xs ys new i (j + 1) (min (next_at xs i) (next_at ys (j + 1)))
step_right p xs ys made new i j b y keep h g only r inside at less here is =
    at_bound p xs ys new i (j + 1) (min (next_at ys (j + 1)) (next_at xs i)) (min (next_at xs i) (next_at ys (j + 1))) (omega arith)
    (exchanged p ys xs new (j + 1) i (min (next_at ys (j + 1)) (next_at xs i))
    (step_left p ys xs made new j i b y keep g h (λ k l m. only k m l) (exchanged p xs ys made i j b r) inside at less here is))

-- the next number is in both lists
pub step_both : (p : ℕ → Bool) (xs ys made new : List ℕ) (i j b x : ℕ) (keep : Bool) → Ascends xs → Ascends ys → PassesOnlyIn p xs ys → AreReadTo p xs ys made i j b
    → i < length xs → j < length ys → get_or xs i 0 ≡ x → get_or ys j 0 ≡ x → p x ≡ keep → new ≡ made ++ cond keep (x ∷ []) []
    → AreReadTo p xs ys new (i + 1) (j + 1) (min (next_at xs (i + 1)) (next_at ys (j + 1)))
step_both p xs ys made new i j b x keep h g only r inside within at too here is =
    let c = min (next_at xs (i + 1)) (next_at ys (j + 1)) in
    let e = next_inside xs i inside in
    let f = next_inside ys j within in
    let up = next_up xs i h inside in
    let higher = next_up ys j g within in
    let eb = r.bound in
    let now : b ≡ x = omega arith in
    record {
      left = omega arith;
      right = omega arith;
      bound = refl;
      left_below = more_below xs i b c (omega arith) r.left_below (omega arith);
      right_below = more_below ys j b c (omega arith) r.right_below (omega arith);
      numbers = is ∙ ap (λ l. l ++ cond keep (x ∷ []) []) r.numbers
          ∙ ap (λ t. those p 0 b ++ cond t (x ∷ []) []) (sym here)
          ∙ ap (λ n. those p 0 b ++ cond (p n) (n ∷ []) []) (sym now)
          ∙ sym (one_more p b c (omega arith) (λ k low high. only k
          (between xs (i + 1) k h (omega arith) (more_below xs i b k low r.left_below (omega arith)) (omega arith))
          (between ys (j + 1) k g (omega arith) (more_below ys j b k low r.right_below (omega arith)) (omega arith))));
    }

-- the rest of an ascending list ascends from where it begins
pub ascends_dropped : (from upto : ℕ) (xs : List ℕ) (i b : ℕ) → AscendsIn from upto xs → (i < length xs → b ≤ get_or xs i 0) → AscendsIn b upto (drop i xs)
ascends_dropped from upto [] zero b h low = tt
ascends_dropped from upto [] (suc i) b h low = tt
ascends_dropped from upto (x ∷ xs) zero b h low = (low (omega arith), h.1, h.2)
ascends_dropped from upto (x ∷ xs) (suc i) b h low = ascends_dropped (x + 1) upto xs i b h.2 (λ l. low (omega arith))

-- and has the same numbers from there on
pub has_dropped : (xs : List ℕ) (i b k : ℕ) → AllBefore xs i b → b ≤ k → i ≤ length xs → has (drop i xs) k ≡ has xs k
has_dropped [] zero b k before low within = refl
has_dropped [] (suc i) b k before low within = refl
has_dropped (x ∷ xs) zero b k before low within = refl
has_dropped (x ∷ xs) (suc i) b k before low within =
    let first = before 0 (omega arith) in
    has_dropped xs i b k (λ m l. before (suc m) (omega arith)) low (omega arith) ∙ sym (ap (λ t. t || has xs k) (ne_eqb x k (λ e. omega arith)))

-- the rest of a list by its numbers
rest_of : (xs : List ℕ) (i b : ℕ) → Ascends xs → i ≤ length xs → AllBefore xs i b → b ≤ next_at xs i → b ≤ 65536 → drop i xs ≡ those (has xs) b (65536 - b)
rest_of xs i b h within before next most =
    let up = ascends_dropped 0 65536 xs i b h (λ l. let e = next_inside xs i l in omega arith) in
    those_of b 65536 (drop i xs) (65536 - b) (omega arith) up
    ∙ those_same (has (drop i xs)) (has xs) b (65536 - b) (λ k low high. has_dropped xs i b k before low within)

-- one list was read to its end, so what is left of the other follows
one_left : (p : ℕ → Bool) (xs ys : List ℕ) (i j b : ℕ) (keep : Bool) → Ascends xs → Ascends ys → length xs ≡ i → j ≤ length ys → AllBefore xs i b → AllBefore ys j b → b ≤ next_at ys j → b ≤ 65536
    → ((k : ℕ) → has xs k ≡ false → p k ≡ (keep && has ys k)) → those p b (65536 - b) ≡ cond keep (drop j ys) []
one_left p xs ys i j b keep h g end within before after next most alone =
    let past = get_or_past xs i 65536 (omega arith) in
    let out : (k : ℕ) → b ≤ k → k < b + (65536 - b) → p k ≡ (keep && has ys k) = λ k low high. alone k (between xs i k h (omega arith) (still_below xs i b k low before) (omega arith)) in
    kept keep out
  where
    kept : (t : Bool) → ((k : ℕ) → b ≤ k → k < b + (65536 - b) → p k ≡ (t && has ys k)) → those p b (65536 - b) ≡ cond t (drop j ys) []
    kept true out = those_same p (has ys) b (65536 - b) out ∙ sym (rest_of ys j b g within after next most)
    kept false out = those_empty p b (65536 - b) out

-- what is left of both lists follows
pub finished : (p : ℕ → Bool) (xs ys made : List ℕ) (i j b : ℕ) (keep_left keep_right : Bool) → Ascends xs → Ascends ys → AreReadTo p xs ys made i j b → (length xs ≡ i) ⊎ (length ys ≡ j)
    → ((k : ℕ) → has ys k ≡ false → p k ≡ (keep_left && has xs k)) → ((k : ℕ) → has xs k ≡ false → p k ≡ (keep_right && has ys k))
    → (made ++ cond keep_left (drop i xs) []) ++ cond keep_right (drop j ys) [] ≡ those p 0 65536
finished p xs ys made i j b keep_left keep_right h g r end left right =
    let eb = r.bound in
    let nx = next_most xs i h in
    let ny = next_most ys j g in
    let size : b + (65536 - b) ≡ 65536 = omega arith in
    let z : 0 + b ≡ b = omega arith in
    let whole : those p 0 65536 ≡ made ++ those p b (65536 - b) = ap (those p 0) (sym size) ∙ those_joined p 0 b (65536 - b) ∙ ap (λ a. those p 0 b ++ those p a (65536 - b)) z ∙ ap (λ l. l ++ those p b (65536 - b)) (sym r.numbers) in
    elim end [
      | inl e ↦ (
          let none : drop i xs ≡ [] = drop_end xs i e in
          ap (λ l. (made ++ cond keep_left l []) ++ cond keep_right (drop j ys) []) none ∙ ap (λ l. (made ++ l) ++ cond keep_right (drop j ys) []) (cond_same keep_left) ∙ ap (λ l. l ++ cond keep_right (drop j ys) []) (append-nil made)
          ∙ ap (λ l. made ++ l) (sym (one_left p xs ys i j b keep_right h g e r.right r.left_below r.right_below (omega arith) (omega arith) right)) ∙ sym whole)
      | inr e ↦ (
          let none : drop j ys ≡ [] = drop_end ys j e in
          ap (λ l. (made ++ cond keep_left (drop i xs) []) ++ cond keep_right l []) none ∙ ap (λ l. (made ++ cond keep_left (drop i xs) []) ++ l) (cond_same keep_right) ∙ append-nil (made ++ cond keep_left (drop i xs) [])
          ∙ ap (λ l. made ++ l) (sym (one_left p ys xs j i b keep_left g h e r.left r.right_below r.left_below (omega arith) (omega arith) left)) ∙ sym whole)
    ]
  where
    cond_same : (t : Bool) → cond {A = List ℕ} t [] [] ≡ []
    cond_same true = refl
    cond_same false = refl

    drop_end : (l : List ℕ) (n : ℕ) → length l ≡ n → drop n l ≡ []
    drop_end [] zero e = refl
    drop_end [] (suc n) e = refl
    drop_end (x ∷ l) zero e = absurd (omega arith)
    drop_end (x ∷ l) (suc n) e = drop_end l n (omega arith)

-- ---- what an operation makes

pub made_none : (op : Operation) → made_by op false false ≡ false
made_none Union = refl
made_none Intersection = refl
made_none Difference = refl
made_none SymmetricDifference = refl

-- whether an operation keeps a number
abbrev pub kept : Operation → List ℕ → List ℕ → ℕ → Bool
kept op xs ys k = made_by op (has xs k) (has ys k)

pub kept_where : (op : Operation) (xs ys : List ℕ) (k : ℕ) (x y : Bool) → has xs k ≡ x → has ys k ≡ y → kept op xs ys k ≡ made_by op x y
kept_where op xs ys k x y left right = ap (λ b. made_by op b (has ys k)) left ∙ ap (made_by op x) right

pub kept_only : (op : Operation) (xs ys : List ℕ) → PassesOnlyIn (kept op xs ys) xs ys
kept_only op xs ys k left right = kept_where op xs ys k false false left right ∙ made_none op

pub kept_left : (op : Operation) (xs ys : List ℕ) (k : ℕ) → has ys k ≡ false → kept op xs ys k ≡ (made_by op true false && has xs k)
kept_left op xs ys k out = ap (made_by op (has xs k)) out ∙ by_left op (has xs k)
  where
    by_left : (o : Operation) (x : Bool) → made_by o x false ≡ (made_by o true false && x)
    by_left o true = sym (and_true (made_by o true false))
    by_left o false = made_none o ∙ sym (and_none (made_by o true false))

pub kept_right : (op : Operation) (xs ys : List ℕ) (k : ℕ) → has xs k ≡ false → kept op xs ys k ≡ (made_by op false true && has ys k)
kept_right op xs ys k out = ap (λ b. made_by op b (has ys k)) out ∙ by_right op (has ys k)
  where
    by_right : (o : Operation) (y : Bool) → made_by o false y ≡ (made_by o false true && y)
    by_right o true = sym (and_true (made_by o false true))
    by_right o false = made_none o ∙ sym (and_none (made_by o false true))

-- two lists are read to i and j for an operation
abbrev pub ReadTo : Operation → List ℕ → List ℕ → List ℕ → ℕ → ℕ → Type 0
ReadTo op xs ys made i j = AreReadTo (kept op xs ys) xs ys made i j (min (next_at xs i) (next_at ys j))

pub op_begun : (op : Operation) (xs ys : List ℕ) → Ascends xs → Ascends ys → ReadTo op xs ys [] 0 0
op_begun op xs ys h g = begun (kept op xs ys) xs ys h g (kept_only op xs ys)

pub op_left : (op : Operation) (xs ys made new : List ℕ) (i j : ℕ) → Ascends xs → Ascends ys → ReadTo op xs ys made i j → i < length xs → j < length ys → get_or xs i 0 < get_or ys j 0
    → new ≡ made ++ cond (made_by op true false) (get_or xs i 0 ∷ []) [] → ReadTo op xs ys new (i + 1) j
op_left op xs ys made new i j h g r inside within less is =
    let e = next_inside xs i inside in
    let f = next_inside ys j within in
    let rb = r.right in
    step_left (kept op xs ys) xs ys made new i j (min (next_at xs i) (next_at ys j)) (get_or xs i 0) (made_by op true false) h g (kept_only op xs ys) r inside refl (omega arith)
    (kept_where op xs ys (get_or xs i 0) true false (at_index xs i inside) (between ys j (get_or xs i 0) g rb (still_below ys j (min (next_at xs i) (next_at ys j)) (get_or xs i 0) (omega arith) r.right_below) (omega arith))) is

pub op_right : (op : Operation) (xs ys made new : List ℕ) (i j : ℕ) → Ascends xs → Ascends ys → ReadTo op xs ys made i j → i < length xs → j < length ys → get_or ys j 0 < get_or xs i 0
    → new ≡ made ++ cond (made_by op false true) (get_or ys j 0 ∷ []) [] → ReadTo op xs ys new i (j + 1)
op_right op xs ys made new i j h g r inside within less is =
    let e = next_inside xs i inside in
    let f = next_inside ys j within in
    let lb = r.left in
    step_right (kept op xs ys) xs ys made new i j (min (next_at xs i) (next_at ys j)) (get_or ys j 0) (made_by op false true) h g (kept_only op xs ys) r within refl (omega arith)
    (kept_where op xs ys (get_or ys j 0) false true (between xs i (get_or ys j 0) h lb (still_below xs i (min (next_at xs i) (next_at ys j)) (get_or ys j 0) (omega arith) r.left_below) (omega arith)) (at_index ys j within)) is

pub op_both : (op : Operation) (xs ys made new : List ℕ) (i j : ℕ) → Ascends xs → Ascends ys → ReadTo op xs ys made i j → i < length xs → j < length ys → get_or ys j 0 ≡ get_or xs i 0
    → new ≡ made ++ cond (made_by op true true) (get_or xs i 0 ∷ []) [] → ReadTo op xs ys new (i + 1) (j + 1)
op_both op xs ys made new i j h g r inside within same is =
    step_both (kept op xs ys) xs ys made new i j (min (next_at xs i) (next_at ys j)) (get_or xs i 0) (made_by op true true) h g (kept_only op xs ys) r inside within refl same
    (kept_where op xs ys (get_or xs i 0) true true (at_index xs i inside) (ap (has ys) (sym same) ∙ at_index ys j within)) is

-- the numbers that an operation keeps
pub combines_those : (op : Operation) (xs ys zs : List ℕ) → Ascends xs → Ascends ys → zs ≡ those (kept op xs ys) 0 65536 → Combines (made_by op) xs ys zs
combines_those op xs ys zs h g is k = ap (λ l. has l k) is ∙ elim (cases_lt k 65536) [
  | inl low ↦ has_those (kept op xs ys) 0 65536 k (omega arith) (omega arith)
  | inr high ↦ below_all 0 65536 (those (kept op xs ys) 0 65536) k (ascends_those (kept op xs ys) 0 65536 65536 (omega arith)) high
      ∙ sym (kept_only op xs ys k (below_all 0 65536 xs k h high) (below_all 0 65536 ys k g high))
]

-- the part of a list from an index to its end
pub to_end : (xs : List ℕ) (i : ℕ) → take (length xs - i) (drop i xs) ≡ drop i xs
to_end xs i = ap (λ n. take n (drop i xs)) (sym (length-drop i xs)) ∙ take-length (drop i xs)

-- what an operation makes of two lists that were read to the end of one
pub op_made : (op : Operation) (xs ys made last : List ℕ) (i j : ℕ) → Ascends xs → Ascends ys → ReadTo op xs ys made i j → (length xs ≡ i) ⊎ (length ys ≡ j)
    → last ≡ (made ++ cond (made_by op true false) (drop i xs) []) ++ cond (made_by op false true) (drop j ys) [] → last ≡ those (kept op xs ys) 0 65536
op_made op xs ys made last i j h g r end is =
    is ∙ finished (kept op xs ys) xs ys made i j (min (next_at xs i) (next_at ys j)) (made_by op true false) (made_by op false true) h g r end (kept_left op xs ys) (kept_right op xs ys)

pub ascends_made : (op : Operation) (xs ys last : List ℕ) → last ≡ those (kept op xs ys) 0 65536 → Ascends last
ascends_made op xs ys last is = subst Ascends (sym is) (ascends_those (kept op xs ys) 0 65536 65536 (omega arith))
