-- Numbers of a range put into lists and bits, and taken out of them.
use Rattle.std.proofs.Common.{◌≡◌, ℕ, ◌+◌, ◌-◌, ◌<◌, ◌≤◌, Bool, true, false, cond, not, ◌&&◌, ◌||◌, leb, nat_eq, nat_lt, List, [], ◌∷◌, ◌++◌, append_assoc, drop, get_or, length, length-append, length-drop, length-take, replicate, take, refl, sym, ◌∙◌, ap, subst, inl, inr, arith}
use Rattle.std.specs.List.{filter, range_with_len}
use Rattle.std.proofs.Math.Bool.{and-false, and-true, or-false, or-true}
use Rattle.std.proofs.lemmas.Bool.{cases_Bool, cases_eq, cases_lt, eq-eqb, ne_eqb}
use Rattle.std.proofs.lemmas.List.{take-append-drop}
use Rattle.std.proofs.lemmas.List.FromFn.{length-range_with_len}
use Rattle.bit_addressing.specs.Row.{put}
use Rattle.bit_slice.specs.Places.{ones_of}
use Rattle.bit_blocks.specs.Bits.{AreBits}
use Rattle.bit_blocks.specs.Numbers.{Ascends, AscendsIn, Combines, GainsBetween, LosesBetween, count_below, has, is_between}
use Rattle.bit_blocks.specs.Operation.{made_by}
use Rattle.bit_blocks.specs.declared.operation.Operation.{Operation}
use Rattle.bit_blocks.proofs.Ascending.{above_all, ascends_append, ascends_back, ascends_earlier, ascends_front, below_all, counts_at_most}
use Rattle.bit_blocks.proofs.Between.{after_range, before_range, below_up, in_between}
use Rattle.bit_blocks.proofs.Bits.{has_ones, in_range, item_filled, when_false, when_true}
use Rattle.bit_blocks.proofs.Edits.{has_append}
use Rattle.bit_blocks.proofs.Merging.{made_none, to_end}
use Rattle.bit_blocks.proofs.Runs.{ascends_range, has_range}

-- the items of a range are those that a run of it has
in_between_range : (first last a n k : ℕ) → a ≡ first → a + n ≡ last + 1 → (leb a k && nat_lt k (a + n)) ≡ is_between first last k
in_between_range first last a n k begins ends = in_range (record { first = first; last = last }) k a n begins ends

pub ones_filled : (xs ys : List Bool) (first last n : ℕ) → AreBits xs → AreBits ys → first ≤ last → last < 65536 → n ≡ last + 1 - first → ys ≡ put xs first (replicate n true) → GainsBetween (ones_of xs) (ones_of ys) first last
ones_filled xs ys first last n size size_too ordered most count is k =
    has_ones ys k size_too ∙ ap (λ l. get_or l k false) is ∙ item_filled xs first n k true (omega arith) ∙ when_true (leb first k && nat_lt k (first + n)) (get_or xs k false)
    ∙ ap (λ b. b || get_or xs k false) (in_between_range first last first n k refl (omega arith)) ∙ ap (λ b. is_between first last k || b) (sym (has_ones xs k size))

pub ones_cleared : (xs ys : List Bool) (first last n : ℕ) → AreBits xs → AreBits ys → first ≤ last → last < 65536 → n ≡ last + 1 - first → ys ≡ put xs first (replicate n false) → LosesBetween (ones_of xs) (ones_of ys) first last
ones_cleared xs ys first last n size size_too ordered most count is k =
    has_ones ys k size_too ∙ ap (λ l. get_or l k false) is ∙ item_filled xs first n k false (omega arith) ∙ when_false (leb first k && nat_lt k (first + n)) (get_or xs k false)
    ∙ ap (λ b. get_or xs k false && not b) (in_between_range first last first n k refl (omega arith)) ∙ ap (λ b. b && not (is_between first last k)) (sym (has_ones xs k size))

-- a number of a list that passes a test
pub has_filter : (p : ℕ → Bool) (xs : List ℕ) (k : ℕ) → has (filter p xs) k ≡ (has xs k && p k)
has_filter p [] k = refl
has_filter p (x ∷ xs) k = let rest = has_filter p xs k in elim (cases_Bool (p x)) [
  | inl here ↦ ap (λ b. has (cond b (x ∷ filter p xs) (filter p xs)) k) here ∙ elim (cases_eq x k) [
    | inl same ↦ ap (λ b. b || has (filter p xs) k) (eq-eqb x k same) ∙ sym (ap (λ b. (b || has xs k) && p k) (eq-eqb x k same) ∙ ap p (sym same) ∙ here)
    | inr other ↦ ap (λ b. b || has (filter p xs) k) (ne_eqb x k other) ∙ rest ∙ sym (ap (λ b. (b || has xs k) && p k) (ne_eqb x k other))
  ]
  | inr out ↦ ap (λ b. has (cond b (x ∷ filter p xs) (filter p xs)) k) out ∙ rest ∙ elim (cases_eq x k) [
    | inl same ↦ (
        let none : p k ≡ false = ap p (sym same) ∙ out in
        ap (λ b. has xs k && b) none ∙ and-false (has xs k) ∙ sym (ap (λ b. (nat_eq x k || has xs k) && b) none ∙ and-false (nat_eq x k || has xs k)))
    | inr other ↦ sym (ap (λ b. (b || has xs k) && p k) (ne_eqb x k other))
  ]
]

-- the numbers of the left list that an operation keeps are all where it keeps none of the right one alone
pub combines_kept : (op : Operation) (xs ys zs : List ℕ) → made_by op false true ≡ false → zs ≡ filter (λ k. made_by op true (has ys k)) xs → Combines (made_by op) xs ys zs
combines_kept op xs ys zs drops is k = ap (λ l. has l k) is ∙ has_filter (λ j. made_by op true (has ys j)) xs k ∙ by_test (has xs k) (has ys k)
  where
    by_test : (x y : Bool) → (x && made_by op true y) ≡ made_by op x y
    by_test true y = refl
    by_test false true = sym drops
    by_test false false = sym (made_none op)

-- what passes a test ascends still
pub ascends_filter : (p : ℕ → Bool) (from upto : ℕ) (xs : List ℕ) → AscendsIn from upto xs → AscendsIn from upto (filter p xs)
ascends_filter p from upto [] h = tt
ascends_filter p from upto (x ∷ xs) h =
    let low = h.0 in
    let rest = ascends_filter p (x + 1) upto xs h.2 in
    elim (p x) as (λ b. AscendsIn from upto (cond b (x ∷ filter p xs) (filter p xs))) [
      | true ↦ (h.0, h.1, rest)
      | false ↦ ascends_earlier (x + 1) from upto (filter p xs) (omega arith) rest
    ]

-- all numbers as one run
pub all_gained : (xs ys : List ℕ) (first last : ℕ) → Ascends xs → first ≡ 0 → last ≡ 65535 → ys ≡ range_with_len first (last + 1 - first) → GainsBetween xs ys first last
all_gained xs ys first last h low high is k =
    let end : first + (last + 1 - first) ≡ last + 1 = omega arith in
    let fits = in_between_range first last first (last + 1 - first) k refl end in
    ap (λ l. has l k) is ∙ has_range first (last + 1 - first) k ∙ fits ∙ elim (cases_lt k 65536) [
      | inl less ↦ (let here = in_between first last k (omega arith) (omega arith) in here ∙ sym (ap (λ b. b || has xs k) here))
      | inr more ↦ (
          let out = after_range first last k (omega arith) in
          out ∙ sym (ap (λ b. b || has xs k) out ∙ below_all 0 65536 xs k h more))
    ]

-- no number stays without all of them
pub all_lost : (xs ys : List ℕ) (first last : ℕ) → Ascends xs → first ≡ 0 → last ≡ 65535 → ys ≡ [] → LosesBetween xs ys first last
all_lost xs ys first last h low high is k = ap (λ l. has l k) is ∙ sym (elim (cases_lt k 65536) [
  | inl less ↦ ap (λ b. has xs k && not b) (in_between first last k (omega arith) (omega arith)) ∙ and-false (has xs k)
  | inr more ↦ ap (λ b. b && not (is_between first last k)) (below_all 0 65536 xs k h more)
])

-- ---- a range in the place of the numbers of a list that are in it

-- a list with a range in their place
abbrev pub with_range : List ℕ → ℕ → ℕ → List ℕ
with_range xs first last = (take (count_below xs first) xs ++ range_with_len first (last + 1 - first)) ++ drop (count_below xs (last + 1)) xs

-- it is made of three parts
pub with_range_made : (xs one two three : List ℕ) (first last a b : ℕ) → a ≡ count_below xs first → b ≡ count_below xs (last + 1) → one ≡ take a xs → two ≡ one ++ range_with_len first (last + 1 - first)
    → three ≡ two ++ take (length xs - b) (drop b xs) → three ≡ with_range xs first last
with_range_made xs one two three first last a b begins ends front more back =
    let run = range_with_len first (last + 1 - first) in
    back ∙ ap (λ l. l ++ take (length xs - b) (drop b xs)) (more ∙ ap (λ l. l ++ run) (front ∙ ap (λ m. take m xs) begins))
    ∙ ap (λ l. (take (count_below xs first) xs ++ run) ++ l) (to_end xs b ∙ ap (λ m. drop m xs) ends)

has_parts : (xs : List ℕ) (n k : ℕ) → has xs k ≡ (has (take n xs) k || has (drop n xs) k)
has_parts xs n k = ap (λ l. has l k) (sym (take-append-drop n xs)) ∙ has_append (take n xs) (drop n xs) k

pub range_put : (xs ys : List ℕ) (first last : ℕ) → Ascends xs → first ≤ last → last < 65536 → ys ≡ with_range xs first last → GainsBetween xs ys first last
range_put xs ys first last h ordered most is k =
    let a = count_below xs first in
    let b = count_below xs (last + 1) in
    let run = range_with_len first (last + 1 - first) in
    let in_run = has_range first (last + 1 - first) k ∙ in_between_range first last first (last + 1 - first) k refl (omega arith) in
    ap (λ l. has l k) is ∙ has_append (take a xs ++ run) (drop b xs) k ∙ ap (λ t. t || has (drop b xs) k) (has_append (take a xs) run k ∙ ap (λ t. has (take a xs) k || t) in_run) ∙ elim (cases_lt k first) [
      | inl low ↦ (
          let out = before_range first last k low in
          let none = above_all (last + 1) 65536 (drop b xs) k (ascends_back 0 65536 xs (last + 1) h) (omega arith) in
          let rest = above_all first 65536 (drop a xs) k (ascends_back 0 65536 xs first h) low in
          ap (λ t. (has (take a xs) k || t) || has (drop b xs) k) out ∙ ap (λ t. (has (take a xs) k || false) || t) none ∙ or-false (has (take a xs) k || false)
          ∙ sym (ap (λ t. t || has xs k) out ∙ has_parts xs a k ∙ ap (λ t. has (take a xs) k || t) rest))
      | inr high ↦ elim (cases_lt last k) [
        | inl past ↦ (
            let out = after_range first last k past in
            let none = below_all 0 first (take a xs) k (ascends_front 0 65536 xs first h) high in
            let rest = below_all 0 (last + 1) (take b xs) k (ascends_front 0 65536 xs (last + 1) h) (omega arith) in
            ap (λ t. (t || is_between first last k) || has (drop b xs) k) none ∙ ap (λ t. t || has (drop b xs) k) out
            ∙ sym (ap (λ t. t || has xs k) out ∙ has_parts xs b k ∙ ap (λ t. t || has (drop b xs) k) rest))
        | inr within ↦ (
            let here = in_between first last k high within in
            ap (λ t. (has (take a xs) k || t) || has (drop b xs) k) here ∙ ap (λ t. t || has (drop b xs) k) (or-true (has (take a xs) k)) ∙ sym (ap (λ t. t || has xs k) here))
      ]
    ]

pub range_ascends : (xs ys : List ℕ) (first last : ℕ) → Ascends xs → first ≤ last → last < 65536 → ys ≡ with_range xs first last → Ascends ys
range_ascends xs ys first last h ordered most is =
    let run = range_with_len first (last + 1 - first) in
    let rest = drop (count_below xs (last + 1)) xs in
    let end : last + 1 ≡ first + (last + 1 - first) = omega arith in
    let back = subst (λ n. AscendsIn n 65536 rest) end (ascends_back 0 65536 xs (last + 1) h) in
    subst Ascends (sym (is ∙ append_assoc (take (count_below xs first) xs) run rest))
    (ascends_append 0 first 65536 (take (count_below xs first) xs) (run ++ rest) (omega arith) (omega arith) (ascends_front 0 65536 xs first h) (ascends_range first (last + 1 - first) 65536 rest (omega arith) back))

pub range_size : (xs ys : List ℕ) (first last : ℕ) → first ≤ last → ys ≡ with_range xs first last → length ys ≤ length xs + (last + 1 - first)
range_size xs ys first last ordered is =
    let a = count_below xs first in
    let b = count_below xs (last + 1) in
    let run = range_with_len first (last + 1 - first) in
    let low = below_up xs first (last + 1) (omega arith) in
    let most = counts_at_most xs (last + 1) in
    let parts = ap length is ∙ length-append (take a xs ++ run) (drop b xs) in
    let front = length-append (take a xs) run in
    let size = length-range_with_len first (last + 1 - first) in
    let taken = length-take a xs in
    let dropped = length-drop b xs in
    omega arith

-- ---- a list without the numbers that are in a range

-- what is left are two parts
pub range_lost : (xs ys : List ℕ) (first last a b : ℕ) → Ascends xs → a ≡ count_below xs first → b ≡ count_below xs (last + 1) → a < b → ys ≡ take a xs ++ drop b xs → LosesBetween xs ys first last
range_lost xs ys first last a b h begins ends some is k =
    ap (λ l. has l k) is ∙ has_append (take a xs) (drop b xs) k ∙ elim (cases_lt k first) [
      | inl low ↦ (
          let none = above_all (last + 1) 65536 (drop b xs) k back (omega (arith, ordered)) in
          let rest = above_all first 65536 (drop a xs) k (subst (λ n. AscendsIn first 65536 (drop n xs)) (sym begins) (ascends_back 0 65536 xs first h)) low in
          ap (λ t. has (take a xs) k || t) none
          ∙ sym (ap (λ t. has xs k && not t) (before_range first last k low) ∙ and-true (has xs k) ∙ has_parts xs a k ∙ ap (λ t. has (take a xs) k || t) rest))
      | inr high ↦ (
          let out = below_all 0 first (take a xs) k front high in
          ap (λ t. t || has (drop b xs) k) out ∙ elim (cases_lt last k) [
            | inl past ↦ (
                let rest = below_all 0 (last + 1) (take b xs) k (subst (λ n. AscendsIn 0 (last + 1) (take n xs)) (sym ends) (ascends_front 0 65536 xs (last + 1) h)) (omega arith) in
                sym (ap (λ t. has xs k && not t) (after_range first last k past) ∙ and-true (has xs k) ∙ has_parts xs b k ∙ ap (λ t. t || has (drop b xs) k) rest))
            | inr within ↦ above_all (last + 1) 65536 (drop b xs) k back (omega arith) ∙ sym (ap (λ t. has xs k && not t) (in_between first last k high within) ∙ and-false (has xs k))
          ])
    ]
  where
    ordered : first ≤ last
    ordered = elim (cases_lt last first) [
      | inl less ↦ absurd (let more = below_up xs (last + 1) first (omega arith) in omega arith)
      | inr fine ↦ fine
    ]

    front : AscendsIn 0 first (take a xs)
    front = subst (λ n. AscendsIn 0 first (take n xs)) (sym begins) (ascends_front 0 65536 xs first h)

    back : AscendsIn (last + 1) 65536 (drop b xs)
    back = subst (λ n. AscendsIn (last + 1) 65536 (drop n xs)) (sym ends) (ascends_back 0 65536 xs (last + 1) h)

-- no number is in the range
pub none_lost : (xs : List ℕ) (first last a b : ℕ) → Ascends xs → a ≡ count_below xs first → b ≡ count_below xs (last + 1) → b ≤ a → LosesBetween xs xs first last
none_lost xs first last a b h begins ends none k = elim (cases_lt k first) [
  | inl low ↦ sym (ap (λ t. has xs k && not t) (before_range first last k low) ∙ and-true (has xs k))
  | inr high ↦ elim (cases_lt last k) [
    | inl past ↦ sym (ap (λ t. has xs k && not t) (after_range first last k past) ∙ and-true (has xs k))
    | inr within ↦ (
        let more = below_up xs first (last + 1) (omega arith) in
        let same : count_below xs (last + 1) ≡ count_below xs first = omega arith in
        let out = below_all 0 first (take (count_below xs first) xs) k (ascends_front 0 65536 xs first h) high in
        let rest = above_all (last + 1) 65536 (drop (count_below xs first) xs) k (subst (λ n. AscendsIn (last + 1) 65536 (drop n xs)) same (ascends_back 0 65536 xs (last + 1) h)) (omega arith) in
        let absent : has xs k ≡ false = has_parts xs (count_below xs first) k ∙ ap (λ t. t || has (drop (count_below xs first) xs) k) out ∙ rest in
        absent ∙ sym (ap (λ t. t && not (is_between first last k)) absent))
  ]
]

pub lost_ascends : (xs ys : List ℕ) (first last a b : ℕ) → Ascends xs → first < 65536 → a ≡ count_below xs first → b ≡ count_below xs (last + 1) → a < b → ys ≡ take a xs ++ drop b xs → Ascends ys
lost_ascends xs ys first last a b h small begins ends some is =
    subst Ascends (sym is) (ascends_append 0 first 65536 (take a xs) (drop b xs) (omega arith) (omega arith)
    (subst (λ n. AscendsIn 0 first (take n xs)) (sym begins) (ascends_front 0 65536 xs first h))
    (subst (λ n. AscendsIn first 65536 (drop n xs)) (sym ends) (ascends_earlier (last + 1) first 65536 (drop (count_below xs (last + 1)) xs) ordered (ascends_back 0 65536 xs (last + 1) h))))
  where
    ordered : first ≤ last + 1
    ordered = elim (cases_lt (last + 1) first) [
      | inl less ↦ absurd (let more = below_up xs (last + 1) first (omega arith) in omega arith)
      | inr fine ↦ fine
    ]
