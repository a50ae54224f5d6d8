-- A part of a list taken out, or replaced by one item or two.
use Rattle.std.proofs.Common.{◌≡◌, ◌≢◌, ℕ, zero, suc, ◌+◌, ◌-◌, ◌<◌, ◌≤◌, List, [], ◌∷◌, ◌++◌, append_assoc, drop, get_or, insert, length, length-append, set, take, refl, sym, ◌∙◌, ap, inl, inr, arith}
use Rattle.std.specs.Prelude.{remove}
use Rattle.std.proofs.Math.ListN.{drop_of_length-le}
use Rattle.std.proofs.lemmas.Bool.{cases_eq, cases_lt}
use Rattle.std.proofs.lemmas.List.{get_or-append_right, get_or-drop, get_or-set_other, get_or-set_same, get_or-take, get_or_append_left, get_or_default, length-drop, length-set, length-take, length-take-le, same_lists, set-append_right, take_more, take_more_set, drop-set-lt}
use Rattle.std.proofs.lemmas.List.Edits.{remove-append_right}

-- the numbers from `upto` to i were moved to `from` and after it
pub record ClosedTo {A : Type 0} (xs now : List A) (from upto i : ℕ) : Type 0 where
  pub same : length now ≡ length xs
  pub moved : (j : ℕ) (d : A) → from ≤ j → j + (upto - from) < i → get_or now j d ≡ get_or xs (j + (upto - from)) d
  pub front : (j : ℕ) (d : A) → j < from → get_or now j d ≡ get_or xs j d
  pub rest : (j : ℕ) (d : A) → i ≤ j + (upto - from) → get_or now j d ≡ get_or xs j d

pub none_closed : {A : Type 0} → (xs : List A) (from upto : ℕ) → from ≤ upto → ClosedTo xs xs from upto upto
none_closed xs from upto ordered = record { same = refl; moved = λ j d low less. absurd (omega arith); front = λ j d l. refl; rest = λ j d l. refl }

pub one_closed : {A : Type 0} → (xs now : List A) (from upto i at : ℕ) (v d : A) → from ≤ upto → upto ≤ i → i < length xs → at ≡ i - (upto - from) → v ≡ get_or now i d → ClosedTo xs now from upto i → ClosedTo xs (set now at v) from upto (i + 1)
one_closed xs now from upto i at v d ordered past inside place read r = record {
  same = length-set now at v ∙ r.same;
  moved = λ j e low less. elim (cases_eq j at) [
    | inl here ↦ ap (λ n. get_or (set now at v) n e) here ∙ get_or-set_same now at v e (let long = r.same in omega arith) ∙ read ∙ r.rest i d (omega arith) ∙ get_or_default xs i d e inside ∙ ap (λ n. get_or xs n e) (let m : i ≡ j + (upto - from) = omega arith in m)
    | inr other ↦ get_or-set_other now at j v e other ∙ r.moved j e low (apart j other less)
  ];
  front = λ j e l. get_or-set_other now at j v e (λ s. omega arith) ∙ r.front j e l;
  rest = λ j e l. get_or-set_other now at j v e (λ s. omega arith) ∙ r.rest j e (omega arith);
}
  where
    apart : (j : ℕ) → j ≢ at → j + (upto - from) < i + 1 → j + (upto - from) < i
    apart j other less = elim (cases_eq (j + (upto - from)) i) [
      | inl same ↦ absurd (other (omega arith))
      | inr more ↦ omega arith
    ]

pub all_closed : {A : Type 0} → (xs now : List A) (from upto i n : ℕ) → from ≤ upto → upto ≤ length xs → length xs ≤ i → n ≡ length xs - (upto - from) → ClosedTo xs now from upto i → take n now ≡ take from xs ++ drop upto xs
all_closed {A = A} xs now from upto i n ordered within past size r = same_lists (take n now) (take from xs ++ drop upto xs) long items
  where
    front : length (take from xs) ≡ from
    front = length-take-le from xs (omega arith)

    long : length (take n now) ≡ length (take from xs ++ drop upto xs)
    long = let same = r.same in let one = length-take n now in let both = length-append (take from xs) (drop upto xs) in let back = length-drop upto xs in omega (arith, front)

    items : (k : ℕ) (d : A) → k < length (take n now) → get_or (take n now) k d ≡ get_or (take from xs ++ drop upto xs) k d
    items k d inside =
        let same = r.same in
        let one = length-take n now in
        get_or-take n now k d (omega arith) ∙ elim (cases_lt k from) [
          | inl low ↦ r.front k d low ∙ sym (get_or_append_left (take from xs) (drop upto xs) d k (omega (arith, front)) ∙ get_or-take from xs k d low)
          | inr high ↦ r.moved k d high (omega arith) ∙ ap (λ m. get_or xs m d) (let m : k + (upto - from) ≡ upto + (k - from) = omega arith in m)
              ∙ sym (get_or-append_right (take from xs) (drop upto xs) from k d front high ∙ get_or-drop upto xs (k - from) d)
        ]

-- ---- items taken out one by one, put in and replaced

removed_first : {A : Type 0} → (xs : List A) (i : ℕ) → remove (drop i xs) 0 ≡ drop (i + 1) xs
removed_first [] zero = refl
removed_first [] (suc i) = sym (drop_of_length-le [] (omega arith))
removed_first (x ∷ xs) zero = refl
removed_first (x ∷ xs) (suc i) = removed_first xs i ∙ ap (λ n. drop n (x ∷ xs)) (let n : suc (i + 1) ≡ suc i + 1 = omega arith in n)

-- the item after those that were taken out is taken out too
pub one_more_out : {A : Type 0} → (xs now next : List A) (from i : ℕ) → from ≤ i → i < length xs → now ≡ take from xs ++ drop i xs → next ≡ remove now from → next ≡ take from xs ++ drop (i + 1) xs
one_more_out xs now next from i low inside is out =
    let none : from - from ≡ 0 = omega arith in
    out ∙ ap (λ l. remove l from) is ∙ remove-append_right (take from xs) (drop i xs) from from (length-take-le from xs (omega arith)) (omega arith)
    ∙ ap (λ n. take from xs ++ remove (drop i xs) n) none ∙ ap (λ l. take from xs ++ l) (removed_first xs i)

-- an item put between two parts
pub put_between : {A : Type 0} → (xs : List A) (i : ℕ) (x : A) → i ≤ length xs → insert xs i x ≡ take i xs ++ x ∷ drop i xs
put_between [] zero x within = refl
put_between [] (suc i) x within = absurd (omega arith)
put_between (y ∷ xs) zero x within = refl
put_between (y ∷ xs) (suc i) x within = ap (λ l. y ∷ l) (put_between xs i x (omega arith))

-- an item that is replaced, where those after it are taken out
pub one_for_some : {A : Type 0} → (xs : List A) (from upto : ℕ) (x : A) → from < upto → upto ≤ length xs → take (from + 1) (set xs from x) ++ drop upto (set xs from x) ≡ take from xs ++ x ∷ drop upto xs
one_for_some xs from upto x some within =
    ap (λ l. l ++ drop upto (set xs from x)) (take_more_set xs from x (omega arith)) ∙ append_assoc (take from xs) (x ∷ []) (drop upto (set xs from x))
    ∙ ap (λ l. take from xs ++ x ∷ l) (drop-set-lt upto xs from x some)

-- an item that is replaced, after which another was put
pub two_for_some : {A : Type 0} → (xs now : List A) (from upto : ℕ) (x y : A) → from < length xs → now ≡ take (from + 1) xs ++ y ∷ drop upto xs → set now from x ≡ take from xs ++ x ∷ y ∷ drop upto xs
two_for_some xs now from upto x y inside is =
    let none : from - from ≡ 0 = omega arith in
    ap (λ l. set l from x) (is ∙ ap (λ l. l ++ y ∷ drop upto xs) (take_more xs from x inside) ∙ append_assoc (take from xs) (get_or xs from x ∷ []) (y ∷ drop upto xs))
    ∙ set-append_right (take from xs) (get_or xs from x ∷ y ∷ drop upto xs) from from x (length-take-le from xs (omega arith)) (omega arith)
    ∙ ap (λ n. take from xs ++ set (get_or xs from x ∷ y ∷ drop upto xs) n x) none
