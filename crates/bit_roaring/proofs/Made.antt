-- Blocks that an operation makes, one key after another.
use Rattle.std.proofs.Common.{◌≡◌, ℕ, zero, suc, ◌+◌, ◌<◌, ◌≤◌, Bool, true, false, cond, ◌||◌, nat_eq, List, [], ◌∷◌, ◌++◌, append-nil, get_or, length, take, refl, sym, ◌∙◌, ap, subst, inl, inr, arith}
use Rattle.std.specs.Prelude.{◌↔◌, All}
use Rattle.std.proofs.lemmas.Bool.{cases_Bool, cases_eq, eq-eqb, ne_eqb, or_parts}
use Rattle.bit_blocks.specs.Numbers.{Ascends, AscendsIn, Combines, has}
use Rattle.bit_blocks.specs.Operation.{made_by}
use Rattle.bit_blocks.specs.declared.operation.Operation.{Operation}
use Rattle.bit_blocks.specs.declared.operation.Operation.TheVariants.{Union, Intersection, Difference, SymmetricDifference}
use Rattle.bit_blocks.proofs.Ascending.{later}
use Rattle.bit_blocks.proofs.Bits.{has_taken, take_all}
use Rattle.bit_roaring.specs.Changes.{CombinesKeyed, Replaces}
use Rattle.bit_roaring.specs.Keyed.{AreKeyed, AreKeyedFrom, block_at, keys_of}
use Rattle.bit_blocks.specs.declared.keyed.Keyed.{Keyed}
use Rattle.bit_roaring.proofs.Keys.{keyed}

-- ---- keys

pub keys_ascend_in : (from : ℕ) (bs : List Keyed) → AreKeyedFrom from bs → AscendsIn from 65536 (keys_of bs)
keys_ascend_in from [] h = tt
keys_ascend_in from (b ∷ bs) h = (h.0, h.1, keys_ascend_in (b.key + 1) bs h.4)

-- a key that is not among those of blocks has none
pub no_key : (bs : List Keyed) (key : ℕ) → has (keys_of bs) key ≡ false → block_at bs key ≡ []
no_key [] key out = refl
no_key (b ∷ bs) key out =
    let parts = or_parts (nat_eq b.key key) (has (keys_of bs) key) out in
    ap (λ t. cond t b.block (block_at bs key)) parts.0 ∙ no_key bs key parts.1

-- one more key that is read
pub keys_more : (bs : List Keyed) (i : ℕ) (d : Keyed) → i < length bs → keys_of (take (i + 1) bs) ≡ keys_of (take i bs) ++ (get_or bs i d).key ∷ []
keys_more bs i d inside = let e : i + 1 ≡ suc i = omega arith in ap (λ n. keys_of (take n bs)) e ∙ next bs i inside
  where
    next : (l : List Keyed) (n : ℕ) → n < length l → keys_of (take (suc n) l) ≡ keys_of (take n l) ++ (get_or l n d).key ∷ []
    next [] n h = absurd (omega arith)
    next (b ∷ l) zero h = refl
    next (b ∷ l) (suc n) h = ap (λ m. b.key ∷ m) (next l n (omega arith))

pub keys_whole : (bs : List Keyed) (i : ℕ) → length bs ≤ i → keys_of (take i bs) ≡ keys_of bs
keys_whole [] zero past = refl
keys_whole [] (suc i) past = refl
keys_whole (b ∷ bs) zero past = absurd (omega arith)
keys_whole (b ∷ bs) (suc i) past = ap (λ l. b.key ∷ l) (keys_whole bs i (omega arith))

-- a key of neither list
pub no_keys : (xs ys zs : List ℕ) (key : ℕ) → Combines (made_by Union) xs ys zs → has zs key ≡ false → (has xs key ≡ false) × (has ys key ≡ false)
no_keys xs ys zs key both out = or_parts (has xs key) (has ys key) (sym (both key) ∙ out)

-- ---- a block at the end

-- a list that is not told to be empty
pub not_empty : (xs : List ℕ) (told : Bool) → (told ≡ true) ↔ (xs ≡ []) → told ≡ false → 0 < length xs
not_empty [] told empty out = absurd (let e : true ≡ false = sym (empty.1 refl) ∙ out in cc)
not_empty (x ∷ xs) told empty out = omega arith

-- a block between those with smaller keys and those with greater ones
pub keyed_between : (from : ℕ) (xs ys : List Keyed) (key : ℕ) (block : List ℕ) → AreKeyedFrom from (xs ++ ys) → All (λ b. b.key < key) xs → All (λ b. key < b.key) ys → from ≤ key → key < 65536 → Ascends block → 0 < length block
    → AreKeyedFrom from (xs ++ keyed key block ∷ ys)
keyed_between from [] ys key block h below above low small up some = (low, small, up, some, raised ys h above)
  where
    raised : (l : List Keyed) → AreKeyedFrom from l → All (λ b. key < b.key) l → AreKeyedFrom (key + 1) l
    raised [] g all = tt
    raised (b ∷ l) g all = let first = all 0 b (omega arith) in (omega arith, g.1, g.2, g.3, g.4)
keyed_between from (b ∷ xs) ys key block h below above low small up some =
    let first = below 0 b (omega arith) in
    (h.0, h.1, h.2, h.3, keyed_between (b.key + 1) xs ys key block h.4 (λ k d l. below (suc k) d (omega arith)) above (omega arith) small up some)

pub pushed_keyed : (from : ℕ) (bs : List Keyed) (key : ℕ) (block : List ℕ) → AreKeyedFrom from bs → All (λ b. b.key < key) bs → from ≤ key → key < 65536 → Ascends block → 0 < length block → AreKeyedFrom from (bs ++ keyed key block ∷ [])
pushed_keyed from bs key block h below low small up some = keyed_between from bs [] key block (subst (AreKeyedFrom from) (sym (append-nil bs)) h) below (λ k d inside. absurd (omega arith)) low small up some

pub pushed_below : (bs : List Keyed) (key : ℕ) (block : List ℕ) → All (λ b. b.key < key) bs → All (λ b. b.key < key + 1) (bs ++ keyed key block ∷ [])
pushed_below [] key block below zero d inside = omega arith
pushed_below [] key block below (suc k) d inside = absurd (omega arith)
pushed_below (b ∷ bs) key block below zero d inside = let first = below 0 b (omega arith) in omega arith
pushed_below (b ∷ bs) key block below (suc k) d inside = pushed_below bs key block (λ j e l. below (suc j) e (omega arith)) k d (omega arith)

-- what changes of blocks after others with smaller keys
pub replaces_after : (xs us vs : List Keyed) (key : ℕ) (block : List ℕ) → All (λ b. b.key < key) xs → Replaces us vs key block → Replaces (xs ++ us) (xs ++ vs) key block
replaces_after [] us vs key block below r k = r k
replaces_after (b ∷ xs) us vs key block below r k =
    let first = below 0 b (omega arith) in
    elim (cases_eq b.key k) [
      | inl same ↦ (
          let apart : nat_eq key k ≡ false = ne_eqb key k (λ e. omega arith) in
          ap (λ t. cond t b.block (block_at (xs ++ vs) k)) (eq-eqb b.key k same)
          ∙ sym (ap (λ t. cond t block (block_at (b ∷ xs ++ us) k)) apart ∙ ap (λ t. cond t b.block (block_at (xs ++ us) k)) (eq-eqb b.key k same)))
      | inr other ↦ ap (λ t. cond t b.block (block_at (xs ++ vs) k)) (ne_eqb b.key k other) ∙ replaces_after xs us vs key block (λ j d l. below (suc j) d (omega arith)) r k
          ∙ sym (ap (λ l. cond (nat_eq key k) block l) (ap (λ t. cond t b.block (block_at (xs ++ us) k)) (ne_eqb b.key k other)))
    ]

pub pushed_replaces : (bs : List Keyed) (key : ℕ) (block : List ℕ) → All (λ b. b.key < key) bs → Replaces bs (bs ++ keyed key block ∷ []) key block
pushed_replaces bs key block below = subst (λ l. Replaces l (bs ++ keyed key block ∷ []) key block) (append-nil bs) (replaces_after bs [] (keyed key block ∷ []) key block below (λ k. refl))

pub none_past : (bs : List Keyed) (key : ℕ) → All (λ b. b.key < key) bs → block_at bs key ≡ []
none_past [] key below = refl
none_past (b ∷ bs) key below =
    let first = below 0 b (omega arith) in
    ap (λ t. cond t b.block (block_at bs key)) (ne_eqb b.key key (λ e. omega arith)) ∙ none_past bs key (λ j d l. below (suc j) d (omega arith))

-- no block where there is no number
pub skipped_replaces : (bs : List Keyed) (key : ℕ) (block : List ℕ) → block ≡ [] → All (λ b. b.key < key) bs → Replaces bs bs key block
skipped_replaces bs key block none below k = elim (cases_eq key k) [
  | inl same ↦ ap (block_at bs) (sym same) ∙ none_past bs key below ∙ sym none ∙ sym (ap (λ t. cond t block (block_at bs k)) (eq-eqb key k same))
  | inr other ↦ sym (ap (λ t. cond t block (block_at bs k)) (ne_eqb key k other))
]

pub skipped_below : (bs : List Keyed) (key : ℕ) → All (λ b. b.key < key) bs → All (λ b. b.key < key + 1) bs
skipped_below bs key below k d inside = let low = below k d inside in omega arith

-- ---- blocks made of those of two lists, one key after another

-- the blocks with the first i keys were made
pub record MadeTo (op : Operation) (xs ys : List Keyed) (keys : List ℕ) (made : List Keyed) (i : ℕ) : Type 0 where
  pub keyed : AreKeyed made
  pub below : (j : ℕ) → i ≤ j → j < length keys → All (λ b. b.key < get_or keys j 0) made
  pub done : (k : ℕ) → has (take i keys) k ≡ true → Combines (made_by op) (block_at xs k) (block_at ys k) (block_at made k)
  pub none : (k : ℕ) → has (take i keys) k ≡ false → block_at made k ≡ []

pub none_made : (op : Operation) (xs ys : List Keyed) (keys : List ℕ) → MadeTo op xs ys keys [] 0
none_made op xs ys keys = record {
  keyed = tt;
  below = λ j low high k d inside. absurd (omega arith);
  done = λ k here. let e : true ≡ false = sym here ∙ nothing keys k in cc;
  none = λ k out. refl;
}
  where
    nothing : (l : List ℕ) (k : ℕ) → has (take 0 l) k ≡ false
    nothing [] k = refl
    nothing (x ∷ l) k = refl

pub one_made : (op : Operation) (xs ys : List Keyed) (keys : List ℕ) (made new : List Keyed) (i key : ℕ) (block : List ℕ) → Ascends keys → i < length keys → get_or keys i 0 ≡ key
    → MadeTo op xs ys keys made i → Combines (made_by op) (block_at xs key) (block_at ys key) block
    → AreKeyed new → All (λ b. b.key < key + 1) new → Replaces made new key block → MadeTo op xs ys keys new (i + 1)
one_made op xs ys keys made new i key block h inside at r combines up below replaces = record {
  keyed = up;
  below = λ j low high k d l. let more = later 0 65536 keys i j 0 h (omega arith) high in let last = below k d l in omega arith;
  done = λ k here. elim (cases_eq key k) [
    | inl same ↦ (λ n. ap (λ l. has l n) (replaces k ∙ ap (λ t. cond t block (block_at made k)) (eq-eqb key k same)) ∙ combines n ∙ ap (λ m. made_by op (has (block_at xs m) n) (has (block_at ys m) n)) same)
    | inr other ↦ (
        let old : has (take i keys) k ≡ true = sym (or_back (has (take i keys) k) (ne_eqb key k other)) ∙ sym (ap (λ m. has (take i keys) k || nat_eq m k) at) ∙ sym (has_taken keys i k inside) ∙ here in
        λ n. ap (λ l. has l n) (replaces k ∙ ap (λ t. cond t block (block_at made k)) (ne_eqb key k other)) ∙ r.done k old n)
  ];
  none = λ k out.
      let parts = or_parts (has (take i keys) k) (nat_eq (get_or keys i 0) k) (sym (has_taken keys i k inside) ∙ out) in
      let apart : nat_eq key k ≡ false = ap (λ m. nat_eq m k) (sym at) ∙ parts.1 in
      replaces k ∙ ap (λ t. cond t block (block_at made k)) apart ∙ r.none k parts.0;
}
  where
    or_back : (b : Bool) → {c : Bool} → c ≡ false → (b || c) ≡ b
    or_back true {c} e = refl
    or_back false {c} e = e

pub all_made : (op : Operation) (xs ys : List Keyed) (keys : List ℕ) (made : List Keyed) (i : ℕ) → length keys ≤ i → MadeTo op xs ys keys made i
    → ((k : ℕ) → has keys k ≡ false → Combines (made_by op) (block_at xs k) (block_at ys k) []) → CombinesKeyed (made_by op) xs ys made
all_made op xs ys keys made i past r others k = elim (cases_Bool (has keys k)) [
  | inl here ↦ r.done k (ap (λ l. has l k) (take_all keys i past) ∙ here)
  | inr out ↦ (λ n. ap (λ l. has l n) (r.none k (ap (λ l. has l k) (take_all keys i past) ∙ out)) ∙ others k out n)
]

-- ---- a block that is in one of two lists alone

pub keeps_one : (op : Operation) (b : Bool) → made_by op b false ≡ cond (made_by op true false) b false
keeps_one Union true = refl
keeps_one Union false = refl
keeps_one Intersection true = refl
keeps_one Intersection false = refl
keeps_one Difference true = refl
keeps_one Difference false = refl
keeps_one SymmetricDifference true = refl
keeps_one SymmetricDifference false = refl

keeps_other : (op : Operation) (b : Bool) → made_by op false b ≡ cond (made_by op false true) b false
keeps_other Union true = refl
keeps_other Union false = refl
keeps_other Intersection true = refl
keeps_other Intersection false = refl
keeps_other Difference true = refl
keeps_other Difference false = refl
keeps_other SymmetricDifference true = refl
keeps_other SymmetricDifference false = refl

has_kept : (t : Bool) (xs : List ℕ) (k : ℕ) → has (cond t xs []) k ≡ cond t (has xs k) false
has_kept true xs k = refl
has_kept false xs k = refl

-- what is made of a block of the left list alone
pub combined_left : (op : Operation) (xs ys zs : List ℕ) (keeps : Bool) → keeps ≡ made_by op true false → ys ≡ [] → zs ≡ (cond keeps xs []) → Combines (made_by op) xs ys zs
combined_left op xs ys zs keeps told none is k =
    ap (λ l. has l k) is ∙ has_kept keeps xs k ∙ ap (λ t. cond t (has xs k) false) told ∙ sym (ap (λ l. made_by op (has xs k) (has l k)) none ∙ keeps_one op (has xs k))

-- of the right list alone
pub combined_right : (op : Operation) (xs ys zs : List ℕ) (keeps : Bool) → keeps ≡ made_by op false true → xs ≡ [] → zs ≡ (cond keeps ys []) → Combines (made_by op) xs ys zs
combined_right op xs ys zs keeps told none is k =
    ap (λ l. has l k) is ∙ has_kept keeps ys k ∙ ap (λ t. cond t (has ys k) false) told ∙ sym (ap (λ l. made_by op (has l k) (has ys k)) none ∙ keeps_other op (has ys k))

-- and of none
pub combined_none : (op : Operation) (xs ys zs : List ℕ) → xs ≡ [] → ys ≡ [] → zs ≡ [] → Combines (made_by op) xs ys zs
combined_none op xs ys zs none nor is k = ap (λ l. has l k) is ∙ sym (ap (λ l. made_by op (has l k) (has ys k)) none ∙ ap (λ l. made_by op false (has l k)) nor ∙ keeps_one op false ∙ nothing (made_by op true false))
  where
    nothing : (t : Bool) → cond t false false ≡ false
    nothing true = refl
    nothing false = refl

-- nothing is made where the left list alone would give a block, and has none
pub none_of_left : (op : Operation) (xs ys : List ℕ) → made_by op false true ≡ false → xs ≡ [] → Combines (made_by op) xs ys []
none_of_left op xs ys alone none k = sym (ap (λ l. made_by op (has l k) (has ys k)) none ∙ keeps_other op (has ys k) ∙ ap (λ t. cond t (has ys k) false) alone)

-- nor where the right one would
pub none_of_right : (op : Operation) (xs ys : List ℕ) → made_by op true false ≡ false → ys ≡ [] → Combines (made_by op) xs ys []
none_of_right op xs ys alone none k = sym (ap (λ l. made_by op (has xs k) (has l k)) none ∙ keeps_one op (has xs k) ∙ ap (λ t. cond t (has xs k) false) alone)

-- a block that was kept ascends, or is none
pub kept_ascends : (keeps : Bool) (xs zs : List ℕ) → Ascends xs → zs ≡ (cond keeps xs []) → Ascends zs
kept_ascends true xs zs up is = subst Ascends (sym is) up
kept_ascends false xs zs up is = subst Ascends (sym is) tt
