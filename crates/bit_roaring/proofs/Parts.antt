-- The numbers of a range, by the blocks that have them.
use Rattle.std.proofs.Common.{◌≡◌, ℕ, ◌+◌, ◌*◌, ◌/◌, ◌%◌, ◌^◌, ◌<◌, ◌≤◌, Bool, true, false, not, ◌&&◌, ◌||◌, nat_eq, nat_le, nat_lt, List, [], ◌∷◌, ◌++◌, append_assoc, append-nil, map, refl, sym, ◌∙◌, ap, subst, inl, inr, arith}
use Rattle.std.specs.List.{filter}
use Rattle.std.proofs.Math.Bool.{and-false, or-false, or-true}
use Rattle.std.proofs.lemmas.Bool.{cases_eq, cases_lt, eq-eqb, le-leb, le-ltb, lt-leb, lt-ltb, ne_eqb}
use Rattle.bit_blocks.specs.Numbers.{Ascends, AscendsIn, has, is_between, numbers_between}
use Rattle.bit_blocks.specs.declared.keyed.Keyed.{Keyed}
use Rattle.bit_blocks.proofs.Ascending.{ascends_earlier, same_numbers}
use Rattle.bit_blocks.proofs.Edits.{has_append}
use Rattle.bit_blocks.proofs.Ranges.{ascends_filter, has_filter}
use Rattle.bit_roaring.specs.Keyed.{AreKeyed, AreKeyedFrom, block_at, keyed_numbers, set_numbers}
use Rattle.bit_roaring.specs.Ranges.{ArePart, is_within, numbers_within}
use Rattle.bit_roaring.proofs.Between.{before_range, past_range, some_number, within_yes}
use Rattle.bit_roaring.proofs.Keys.{ascends_keyed, ascends_set, block_ascends, has_keyed, has_set}

-- ---- tests of both ends

between_yes : (a b k : ℕ) → a ≤ k → k ≤ b → is_between a b k ≡ true
between_yes a b k low high = ap (λ t. t && nat_le k b) (le-leb a k low) ∙ le-leb k b high

before_first : (a b k : ℕ) → k < a → is_between a b k ≡ false
before_first a b k low = ap (λ t. t && nat_le k b) (lt-leb a k low)

after_last : (a b k : ℕ) → b < k → is_between a b k ≡ false
after_last a b k high = ap (λ t. nat_le a k && t) (lt-leb k b high) ∙ and-false (nat_le a k)

-- ---- numbers that pass a test

and_swap : (a b : Bool) → (a && b) ≡ (b && a)
and_swap true true = refl
and_swap true false = refl
and_swap false true = refl
and_swap false false = refl

-- a number is among those that pass a test, if it passes and is in the list
has_passed : (p : ℕ → Bool) (xs : List ℕ) (k : ℕ) → has (filter p xs) k ≡ (p k && has xs k)
has_passed p xs k = has_filter p xs k ∙ and_swap (has xs k) (p k)

-- ---- the numbers of one key

-- the numbers of a part of a block, with its key
abbrev pub part_numbers : ℕ → ℕ → ℕ → List ℕ → List ℕ
part_numbers a low high xs = map (λ k. a * 65536 + k) (numbers_between low high xs)

has_part : (a low high : ℕ) (xs : List ℕ) (n : ℕ) → Ascends xs → has (part_numbers a low high xs) n ≡ (nat_eq a (n / 65536) && (is_between low high (n % 65536) && has xs (n % 65536)))
has_part a low high xs n up =
    has_keyed a 0 (numbers_between low high xs) n (ascends_filter (is_between low high) 0 65536 xs up) ∙ ap (λ t. nat_eq a (n / 65536) && t) (has_passed (is_between low high) xs (n % 65536))

-- and others after them
part_ascends : (a low high : ℕ) (xs ys : List ℕ) → a < 65536 → Ascends xs → AscendsIn ((a + 1) * 65536) (2 ^ 32) ys → AscendsIn (a * 65536) (2 ^ 32) (part_numbers a low high xs ++ ys)
part_ascends a low high xs ys small up more = ascends_keyed a 0 (a * 65536) (numbers_between low high xs) ys (omega arith) small (omega arith) (ascends_filter (is_between low high) 0 65536 xs up) more

-- ---- blocks with numbers after them

ascends_then : (from key : ℕ) (zs : List Keyed) (ys : List ℕ) → AreKeyedFrom from zs → from ≤ key → ((n : ℕ) → has (set_numbers zs) n ≡ true → n / 65536 < key) → AscendsIn (key * 65536) (2 ^ 32) ys → AscendsIn (from * 65536) (2 ^ 32) (set_numbers zs ++ ys)
ascends_then from key [] ys h low all up = ascends_earlier (key * 65536) (from * 65536) (2 ^ 32) ys (omega arith) up
ascends_then from key (b ∷ zs) ys h low all up =
    let some = some_number b.key b.block (set_numbers zs) h.3 h.2 in
    let last = all some.0 some.2 in
    let same = some.1 in
    let first = h.0 in
    let rest = ascends_then (b.key + 1) key zs ys h.4 (omega arith) (λ n here. all n (has_append (keyed_numbers b) (set_numbers zs) n ∙ ap (λ t. has (keyed_numbers b) n || t) here ∙ or-true (has (keyed_numbers b) n))) up in
    subst (AscendsIn (from * 65536) (2 ^ 32)) (sym (append_assoc (keyed_numbers b) (set_numbers zs) ys)) (ascends_keyed b.key 0 (from * 65536) b.block (set_numbers zs ++ ys) (omega arith) h.1 (omega arith) h.2 rest)

-- ---- a range within one key

pub one_key : (bs : List Keyed) (first last a low high : ℕ) → AreKeyed bs → first ≤ last → a < 65536 → a ≡ first / 65536 → a ≡ last / 65536 → low ≡ first % 65536 → high ≡ last % 65536 → part_numbers a low high (block_at bs a) ≡ numbers_within first (last + 1) (set_numbers bs)
one_key bs first last a low high h ordered small from upto begins ends =
    let up = block_ascends bs a h in
    let all = ascends_set 0 bs h in
    let part = ascends_earlier (a * 65536) 0 (2 ^ 32) (part_numbers a low high (block_at bs a) ++ []) (omega arith) (part_ascends a low high (block_at bs a) [] small up tt) in
    same_numbers 0 (2 ^ 32) (part_numbers a low high (block_at bs a)) (numbers_within first (last + 1) (set_numbers bs)) (subst (AscendsIn 0 (2 ^ 32)) (append-nil (part_numbers a low high (block_at bs a))) part) (ascends_filter (is_within first (last + 1)) 0 (2 ^ 32) (set_numbers bs) all)
    (λ n. has_part a low high (block_at bs a) n up ∙ same n ∙ sym (has_passed (is_within first (last + 1)) (set_numbers bs) n ∙ ap (λ t. is_within first (last + 1) n && t) (has_set 0 bs n h)))
  where
    same : (n : ℕ) → (nat_eq a (n / 65536) && (is_between low high (n % 65536) && has (block_at bs a) (n % 65536))) ≡ (is_within first (last + 1) n && has (block_at bs (n / 65536)) (n % 65536))
    same n = elim (cases_eq a (n / 65536)) [
      | inl e ↦ ap (λ t. t && (is_between low high (n % 65536) && has (block_at bs a) (n % 65536))) (eq-eqb a (n / 65536) e) ∙ ap (λ k. is_between low high (n % 65536) && has (block_at bs k) (n % 65536)) e
          ∙ ap (λ t. t && has (block_at bs (n / 65536)) (n % 65536)) (elim (cases_lt n first) [
            | inl less ↦ before_first low high (n % 65536) (omega arith) ∙ sym (before_range first (last + 1) n less)
            | inr least ↦ elim (cases_lt n (last + 1)) [
              | inl most ↦ between_yes low high (n % 65536) (omega arith) (omega arith) ∙ sym (within_yes first (last + 1) n least most)
              | inr more ↦ after_last low high (n % 65536) (omega arith) ∙ sym (past_range first (last + 1) n more)
            ]
          ])
      | inr d ↦ ap (λ t. t && (is_between low high (n % 65536) && has (block_at bs a) (n % 65536))) (ne_eqb a (n / 65536) d)
          ∙ sym (ap (λ t. t && has (block_at bs (n / 65536)) (n % 65536)) (elim (cases_lt n first) [
            | inl less ↦ before_range first (last + 1) n less
            | inr least ↦ past_range first (last + 1) n (past d least)
          ]))
    ]
      where
        past : (a ≡ n / 65536 → ⊥) → first ≤ n → last + 1 ≤ n
        past apart least = omega arith

-- ---- a range over two keys or more

pub two_keys : (bs middle : List Keyed) (first last a b low high : ℕ) → AreKeyed bs → a < b → b < 65536 → a ≡ first / 65536 → b ≡ last / 65536 → low ≡ first % 65536 → high ≡ last % 65536 → ArePart bs middle (a + 1) b
    → part_numbers a low 65535 (block_at bs a) ++ (set_numbers middle ++ part_numbers b 0 high (block_at bs b)) ≡ numbers_within first (last + 1) (set_numbers bs)
two_keys bs middle first last a b low high h less small from upto begins ends part =
    same_numbers 0 (2 ^ 32) whole (numbers_within first (last + 1) (set_numbers bs)) ascends (ascends_filter (is_within first (last + 1)) 0 (2 ^ 32) (set_numbers bs) (ascends_set 0 bs h))
    (λ n. whole_has n ∙ same n ∙ sym (has_passed (is_within first (last + 1)) (set_numbers bs) n ∙ ap (λ t. is_within first (last + 1) n && t) (has_set 0 bs n h)))
  where
    front : List ℕ
    front = part_numbers a low 65535 (block_at bs a)

    back : List ℕ
    back = part_numbers b 0 high (block_at bs b)

    whole : List ℕ
    whole = front ++ (set_numbers middle ++ back)

    here : ℕ → Bool
    here n = has (block_at bs (n / 65536)) (n % 65536)

    middle_has : (n : ℕ) → has (set_numbers middle) n ≡ (nat_lt (n / 65536) b && (not (nat_lt (n / 65536) (a + 1)) && here n))
    middle_has n = part.has_those n ∙ ap (λ t. nat_lt (n / 65536) b && (not (nat_lt (n / 65536) (a + 1)) && t)) (has_set 0 bs n h)

    middle_upto : (n : ℕ) → has (set_numbers middle) n ≡ true → n / 65536 < b
    middle_upto n there = elim (cases_lt (n / 65536) b) [
      | inl low_key ↦ low_key
      | inr high_key ↦ absurd (let e : false ≡ true = sym (ap (λ t. t && (not (nat_lt (n / 65536) (a + 1)) && here n)) (le-ltb (n / 65536) b high_key)) ∙ sym (middle_has n) ∙ there in cc)
    ]

    ascends : AscendsIn 0 (2 ^ 32) whole
    ascends =
        let last_part = subst (AscendsIn (b * 65536) (2 ^ 32)) (append-nil back) (part_ascends b 0 high (block_at bs b) [] small (block_ascends bs b h) tt) in
        let rest = ascends_then (a + 1) b middle back part.keyed (omega arith) middle_upto last_part in
        ascends_earlier (a * 65536) 0 (2 ^ 32) whole (omega arith) (part_ascends a low 65535 (block_at bs a) (set_numbers middle ++ back) (omega arith) (block_ascends bs a h) rest)

    whole_has : (n : ℕ) → has whole n ≡ ((nat_eq a (n / 65536) && (is_between low 65535 (n % 65536) && has (block_at bs a) (n % 65536))) || ((nat_lt (n / 65536) b && (not (nat_lt (n / 65536) (a + 1)) && here n)) || (nat_eq b (n / 65536) && (is_between 0 high (n % 65536) && has (block_at bs b) (n % 65536)))))
    whole_has n =
        has_append front (set_numbers middle ++ back) n
        ∙ ap (λ t. t || has (set_numbers middle ++ back) n) (has_part a low 65535 (block_at bs a) n (block_ascends bs a h))
        ∙ ap (λ t. (nat_eq a (n / 65536) && (is_between low 65535 (n % 65536) && has (block_at bs a) (n % 65536))) || t)
        (has_append (set_numbers middle) back n ∙ ap (λ t. t || has back n) (middle_has n) ∙ ap (λ t. (nat_lt (n / 65536) b && (not (nat_lt (n / 65536) (a + 1)) && here n)) || t) (has_part b 0 high (block_at bs b) n (block_ascends bs b h)))

    -- what a number of each part comes to, by tests of its key
    chosen : (x y m p wa wb ha hb hn : Bool) → Bool
    chosen x y m p wa wb ha hb hn = (x && (wa && ha)) || ((m && (not p && hn)) || (y && (wb && hb)))

    tests : (n : ℕ) → Bool → Bool → Bool → Bool → Bool
    tests n x y m p = chosen x y m p (is_between low 65535 (n % 65536)) (is_between 0 high (n % 65536)) (has (block_at bs a) (n % 65536)) (has (block_at bs b) (n % 65536)) (here n)

    known : (n : ℕ) (x y m p : Bool) → nat_eq a (n / 65536) ≡ x → nat_eq b (n / 65536) ≡ y → nat_lt (n / 65536) b ≡ m → nat_lt (n / 65536) (a + 1) ≡ p → tests n (nat_eq a (n / 65536)) (nat_eq b (n / 65536)) (nat_lt (n / 65536) b) (nat_lt (n / 65536) (a + 1)) ≡ tests n x y m p
    known n x y m p ex ey em ep =
        ap (λ t. tests n t (nat_eq b (n / 65536)) (nat_lt (n / 65536) b) (nat_lt (n / 65536) (a + 1))) ex ∙ ap (λ t. tests n x t (nat_lt (n / 65536) b) (nat_lt (n / 65536) (a + 1))) ey
        ∙ ap (λ t. tests n x y t (nat_lt (n / 65536) (a + 1))) em ∙ ap (tests n x y m) ep

    same : (n : ℕ) → tests n (nat_eq a (n / 65536)) (nat_eq b (n / 65536)) (nat_lt (n / 65536) b) (nat_lt (n / 65536) (a + 1)) ≡ (is_within first (last + 1) n && here n)
    same n = elim (cases_lt (n / 65536) a) [
      | inl before ↦ known n false false true true (ne_eqb a (n / 65536) (λ e. omega arith)) (ne_eqb b (n / 65536) (λ e. omega arith)) (lt-ltb (n / 65536) b (omega arith)) (lt-ltb (n / 65536) (a + 1) (omega arith))
          ∙ sym (ap (λ t. t && here n) (before_range first (last + 1) n (omega arith)))
      | inr from_a ↦ elim (cases_eq a (n / 65536)) [
        | inl is_a ↦ known n true false true true (eq-eqb a (n / 65536) is_a) (ne_eqb b (n / 65536) (λ e. omega arith)) (lt-ltb (n / 65536) b (omega arith)) (lt-ltb (n / 65536) (a + 1) (omega arith))
            ∙ or-false (is_between low 65535 (n % 65536) && has (block_at bs a) (n % 65536)) ∙ ap (λ k. is_between low 65535 (n % 65536) && has (block_at bs k) (n % 65536)) is_a
            ∙ ap (λ t. t && here n) (elim (cases_lt n first) [
              | inl out ↦ before_first low 65535 (n % 65536) (omega arith) ∙ sym (before_range first (last + 1) n out)
              | inr least ↦ between_yes low 65535 (n % 65536) (omega arith) (omega arith) ∙ sym (within_yes first (last + 1) n least (omega arith))
            ])
        | inr not_a ↦ elim (cases_lt (n / 65536) b) [
          | inl below_b ↦ known n false false true false (ne_eqb a (n / 65536) not_a) (ne_eqb b (n / 65536) (λ e. omega arith)) (lt-ltb (n / 65536) b below_b) (le-ltb (n / 65536) (a + 1) (after not_a from_a))
              ∙ or-false (here n) ∙ sym (ap (λ t. t && here n) (within_yes first (last + 1) n (from_first not_a from_a) (omega arith)))
          | inr from_b ↦ elim (cases_eq b (n / 65536)) [
            | inl is_b ↦ known n false true false false (ne_eqb a (n / 65536) not_a) (eq-eqb b (n / 65536) is_b) (le-ltb (n / 65536) b from_b) (le-ltb (n / 65536) (a + 1) (after not_a from_a))
                ∙ ap (λ k. is_between 0 high (n % 65536) && has (block_at bs k) (n % 65536)) is_b
                ∙ ap (λ t. t && here n) (elim (cases_lt n (last + 1)) [
                  | inl most ↦ between_yes 0 high (n % 65536) (omega arith) (omega arith) ∙ sym (within_yes first (last + 1) n (from_first not_a from_a) most)
                  | inr out ↦ after_last 0 high (n % 65536) (omega arith) ∙ sym (past_range first (last + 1) n out)
                ])
            | inr not_b ↦ known n false false false false (ne_eqb a (n / 65536) not_a) (ne_eqb b (n / 65536) not_b) (le-ltb (n / 65536) b from_b) (le-ltb (n / 65536) (a + 1) (after not_a from_a))
                ∙ sym (ap (λ t. t && here n) (past_range first (last + 1) n (past_last not_b from_b)))
          ]
        ]
      ]
    ]
      where
        after : (a ≡ n / 65536 → ⊥) → a ≤ n / 65536 → a + 1 ≤ n / 65536
        after apart least = omega arith

        from_first : (a ≡ n / 65536 → ⊥) → a ≤ n / 65536 → first ≤ n
        from_first apart least = omega arith

        past_last : (b ≡ n / 65536 → ⊥) → b ≤ n / 65536 → last + 1 ≤ n
        past_last apart least = omega arith
