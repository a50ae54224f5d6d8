-- Blocks that are changed where they stand.
use Rattle.std.proofs.Common.{◌≡◌, ◌⊎◌, ℕ, zero, suc, ◌+◌, ◌<◌, ◌≤◌, Bool, true, false, cond, ◌||◌, nat_eq, List, [], ◌∷◌, ◌++◌, append-nil, append_assoc, drop, get_or, length, length-append, set, take, refl, sym, ◌∙◌, ap, subst, inl, inr, arith}
use Rattle.std.specs.Prelude.{All, Err, Ok, OnOk, Result, remove}
use Rattle.std.proofs.Math.Bool.{or-false}
use Rattle.std.proofs.lemmas.Bool.{cases_Bool, cases_eq, eq-eqb, ne_eqb, or_parts}
use Rattle.std.proofs.lemmas.List.{drop_more, take_all, take_more}
use Rattle.bit_blocks.specs.Numbers.{Ascends, AscendsIn, Combines, has}
use Rattle.bit_blocks.proofs.Ascending.{ascends_append, ascends_further}
use Rattle.bit_blocks.proofs.Edits.{has_append}
use Rattle.bit_blocks.proofs.Merging.{made_none}
use Rattle.bit_blocks.specs.Operation.{made_by}
use Rattle.bit_blocks.specs.declared.keyed.Keyed.{Keyed}
use Rattle.bit_blocks.specs.declared.operation.Operation.{Operation}
use Rattle.bit_roaring.specs.Changes.{CombinesKeyed, IsMade, Replaces, ReplacesAll}
use Rattle.bit_roaring.specs.Keyed.{AreKeyed, AreKeyedFrom, block_at, keys_of}
use Rattle.bit_roaring.specs.Places.{IsAbsent}
use Rattle.bit_roaring.proofs.Keys.{keyed}
use Rattle.bit_roaring.proofs.Made.{keeps_one, keys_more, keys_whole, no_key, none_of_left}

-- ---- keys of two lists of blocks

pub has_pushed : (xs : List ℕ) (x k : ℕ) → has (xs ++ x ∷ []) k ≡ (has xs k || nat_eq x k)
has_pushed xs x k = has_append xs (x ∷ []) k ∙ ap (λ t. has xs k || t) (or-false (nat_eq x k))

nor_last : (b : Bool) → {c : Bool} → c ≡ false → (b || c) ≡ b
nor_last b {c} e = ap (λ t. b || t) e ∙ or-false b

-- keys of the first i blocks, and what holds of the others
pub record KeysIn (p : ℕ → Type 0) (blocks : List Keyed) (keys : List ℕ) (i : ℕ) : Type 0 where
  pub bound : ℕ
  pub small : bound ≤ 65536
  pub ascends : AscendsIn 0 bound keys
  pub rest : AreKeyedFrom bound (drop i blocks)
  pub out : (k : ℕ) → has keys k ≡ false → has (keys_of (take i blocks)) k ≡ true → p k

pub no_keys_in : (p : ℕ → Type 0) (blocks : List Keyed) → AreKeyed blocks → KeysIn p blocks [] 0
no_keys_in p blocks h = record {
  bound = 0;
  small = omega arith;
  ascends = tt;
  rest = h;
  out = λ k out here. let e : true ≡ false = sym here in cc;
}

-- the next block
module _ (p : ℕ → Type 0) (blocks : List Keyed) (keys : List ℕ) (i : ℕ) (at : Keyed) (r : KeysIn p blocks keys i) (inside : i < length blocks) (is : at ≡ get_or blocks i at) where
  left : AreKeyedFrom r.bound (at ∷ drop (i + 1) blocks)
  left = subst (AreKeyedFrom r.bound) (drop_more blocks i at inside ∙ ap (λ b. b ∷ drop (i + 1) blocks) (sym is)) r.rest

  more : (k : ℕ) → has (keys_of (take (i + 1) blocks)) k ≡ (has (keys_of (take i blocks)) k || nat_eq at.key k)
  more k = ap (λ l. has l k) (keys_more blocks i at inside ∙ ap (λ b. keys_of (take i blocks) ++ b.key ∷ []) (sym is)) ∙ has_pushed (keys_of (take i blocks)) at.key k

  pub key_found : KeysIn p blocks (keys ++ at.key ∷ []) (i + 1)
  key_found = let first = left.0 in let small = left.1 in record {
    bound = at.key + 1;
    small = omega arith;
    ascends = ascends_append 0 r.bound (at.key + 1) keys (at.key ∷ []) (omega arith) (omega arith) r.ascends (first, omega arith, tt);
    rest = left.4;
    out = λ k out here.
        let parts = or_parts (has keys k) (nat_eq at.key k) (sym (has_pushed keys at.key k) ∙ out) in
        r.out k parts.0 (sym (nor_last (has (keys_of (take i blocks)) k) parts.1) ∙ sym (more k) ∙ here);
  }

  pub key_skipped : p at.key → KeysIn p blocks keys (i + 1)
  key_skipped holds = let first = left.0 in let small = left.1 in record {
    bound = at.key + 1;
    small = omega arith;
    ascends = ascends_further 0 r.bound (at.key + 1) keys (omega arith) r.ascends;
    rest = left.4;
    out = λ k out here. elim (cases_eq at.key k) [
      | inl same ↦ subst p same holds
      | inr other ↦ r.out k out (sym (nor_last (has (keys_of (take i blocks)) k) (ne_eqb at.key k other)) ∙ sym (more k) ∙ here)
    ];
  }

pub keys_ascend_up : (p : ℕ → Type 0) (blocks : List Keyed) (keys : List ℕ) (i : ℕ) → KeysIn p blocks keys i → Ascends keys
keys_ascend_up p blocks keys i r = ascends_further 0 r.bound 65536 keys r.small r.ascends

-- a key that is not among those in common has no block on one side
pub one_has_none : (blocks others : List Keyed) (keys : List ℕ) (i : ℕ) → KeysIn (λ k. block_at others k ≡ []) blocks keys i → length blocks ≤ i → (k : ℕ) → has keys k ≡ false → (block_at blocks k ≡ []) ⊎ (block_at others k ≡ [])
one_has_none blocks others keys i r past k out = elim (cases_Bool (has (keys_of blocks) k)) [
  | inl here ↦ inr (r.out k out (ap (λ l. has l k) (keys_whole blocks i past) ∙ here))
  | inr absent ↦ inl (no_key blocks k absent)
]

-- a key that neither these blocks have nor new ones has no block among the others
pub others_have_none : (op : Operation) (blocks others : List Keyed) (keys : List ℕ) (i : ℕ) → KeysIn (λ k. has (keys_of blocks) k ≡ true) others keys i → length others ≤ i
    → (k : ℕ) → has keys k ≡ false → has (keys_of blocks) k ≡ false → Combines (made_by op) [] (block_at others k) []
others_have_none op blocks others keys i r past k out absent = elim (cases_Bool (has (keys_of others) k)) [
  | inl here ↦ absurd (let e : true ≡ false = sym (r.out k out (ap (λ l. has l k) (keys_whole others i past) ∙ here)) ∙ absent in cc)
  | inr none ↦ (λ n. sym (ap (λ l. made_by op false (has l n)) (no_key others k none) ∙ made_none op))
]

-- ---- blocks that stay as they are

same_kept : (t : Bool) → cond true t false ≡ t
same_kept true = refl
same_kept false = refl

-- a block of the left list stays where the right one has none with its key
pub stays_alone : (op : Operation) (xs ys : List ℕ) → made_by op true false ≡ true → ys ≡ [] → Combines (made_by op) xs ys xs
stays_alone op xs ys keeps none n = sym (ap (λ l. made_by op (has xs n) (has l n)) none ∙ keeps_one op (has xs n) ∙ ap (λ t. cond t (has xs n) false) keeps ∙ same_kept (has xs n))

pub stays_without_key : (op : Operation) (xs ys : List Keyed) → made_by op true false ≡ true → (k : ℕ) → has (keys_of ys) k ≡ false → Combines (made_by op) (block_at xs k) (block_at ys k) (block_at xs k)
stays_without_key op xs ys keeps k out = stays_alone op (block_at xs k) (block_at ys k) keeps (no_key ys k out)

-- and where an operation that keeps no number of the right list alone has none of the left one
pub stays_unless_both : (op : Operation) (xs ys : List ℕ) → made_by op true false ≡ true → made_by op false true ≡ false → (xs ≡ []) ⊎ (ys ≡ []) → Combines (made_by op) xs ys xs
stays_unless_both op xs ys keeps alone one = elim one [
  | inl none ↦ subst (Combines (made_by op) xs ys) (sym none) (none_of_left op xs ys alone none)
  | inr none ↦ stays_alone op xs ys keeps none
]

-- ---- blocks that are made

-- a block was made for each of the first i keys
pub record EachMadeTo (f : Bool → Bool → Bool) (xs ys : List Keyed) (keys : List ℕ) (made : List Keyed) (i : ℕ) : Type 0 where
  pub taken : keys_of made ≡ take i keys
  pub each : All (IsMade f xs ys) made

pub none_made_each : (f : Bool → Bool → Bool) (xs ys : List Keyed) (keys : List ℕ) → EachMadeTo f xs ys keys [] 0
none_made_each f xs ys keys = record { taken = refl; each = λ k d inside. absurd (omega arith) }

pub keys_appended : (bs : List Keyed) (b : Keyed) → keys_of (bs ++ b ∷ []) ≡ keys_of bs ++ b.key ∷ []
keys_appended [] b = refl
keys_appended (a ∷ bs) b = ap (λ l. a.key ∷ l) (keys_appended bs b)

all_appended : (p : Keyed → Type 0) (bs : List Keyed) (b : Keyed) → All p bs → p b → All p (bs ++ b ∷ [])
all_appended p [] b all h zero d inside = h
all_appended p [] b all h (suc k) d inside = absurd (omega arith)
all_appended p (a ∷ bs) b all h zero d inside = all 0 a (omega arith)
all_appended p (a ∷ bs) b all h (suc k) d inside = all_appended p bs b (λ j e l. all (suc j) e (omega arith)) h k d (omega arith)

pub one_made_each : (f : Bool → Bool → Bool) (xs ys : List Keyed) (keys : List ℕ) (made : List Keyed) (i key : ℕ) (block : List ℕ) → EachMadeTo f xs ys keys made i → i < length keys → get_or keys i 0 ≡ key
    → Combines f (block_at xs key) (block_at ys key) block → Ascends block → EachMadeTo f xs ys keys (made ++ keyed key block ∷ []) (i + 1)
one_made_each f xs ys keys made i key block r inside is combines up = record {
  taken = keys_appended made (keyed key block) ∙ ap (λ l. l ++ key ∷ []) r.taken ∙ ap (λ k. take i keys ++ k ∷ []) (sym is) ∙ sym (take_more keys i 0 inside);
  each = all_appended (IsMade f xs ys) made (keyed key block) r.each (record { combines = combines; ascends = up });
}

pub each_key : (f : Bool → Bool → Bool) (xs ys : List Keyed) (keys : List ℕ) (made : List Keyed) (i : ℕ) → EachMadeTo f xs ys keys made i → length keys ≤ i → keys_of made ≡ keys
each_key f xs ys keys made i r past = r.taken ∙ take_all i keys past

-- ---- blocks that are put in the place of others, the last one first

-- of blocks that were made, those after `front` were put in their place, and there is room for the others
pub record ReplacedFrom (old now whole front : List Keyed) (len room : ℕ) : Type 0 where
  pub gone : List Keyed
  pub parts : whole ≡ front ++ gone
  pub ascend : All (λ b. Ascends b.block) front
  pub keyed : AreKeyed now
  pub replaces : ReplacesAll old now gone
  pub fits : len + length front ≤ room

pub none_replaced : (old whole : List Keyed) (len room : ℕ) → AreKeyed old → All (λ b. Ascends b.block) whole → len + length whole ≤ room → ReplacedFrom old old whole whole len room
none_replaced old whole len room h up fits = record { gone = []; parts = sym (append-nil whole); ascend = up; keyed = h; replaces = λ k. refl; fits = fits }

last_of_all : (p : Keyed → Type 0) (bs : List Keyed) (b : Keyed) → All p (bs ++ b ∷ []) → p b
last_of_all p [] b all = all 0 b (omega arith)
last_of_all p (a ∷ bs) b all = last_of_all p bs b (λ k d l. all (suc k) d (omega arith))

front_of_all : (p : Keyed → Type 0) (bs : List Keyed) (b : Keyed) → All p (bs ++ b ∷ []) → All p bs
front_of_all p [] b all k d inside = absurd (omega arith)
front_of_all p (a ∷ bs) b all zero d inside = all 0 a (omega arith)
front_of_all p (a ∷ bs) b all (suc k) d inside = front_of_all p bs b (λ j e l. all (suc j) e (omega arith)) k d (omega arith)

-- the last block of those that are left
module _ (old now whole front rest : List Keyed) (len room : ℕ) (b : Keyed) (r : ReplacedFrom old now whole front len room) (parts : front ≡ rest ++ b ∷ []) where
  all : All (λ d. Ascends d.block) (rest ++ b ∷ [])
  all = subst (All (λ d. Ascends d.block)) parts r.ascend

  long : length front ≡ length rest + 1
  long = ap length parts ∙ length-append rest (b ∷ [])

  pub last_ascends : Ascends b.block
  last_ascends = last_of_all (λ d. Ascends d.block) rest b all

  pub last_fits : len < room
  last_fits = let fits = r.fits in omega (arith, long)

  pub one_replaced : (new : List Keyed) (more wide : ℕ) → AreKeyed new → Replaces now new b.key b.block → more ≤ len + 1 → room ≤ wide → ReplacedFrom old new whole rest more wide
  one_replaced new more wide h replaces short still = record {
    gone = b ∷ r.gone;
    parts = r.parts ∙ ap (λ l. l ++ r.gone) parts ∙ append_assoc rest (b ∷ []) r.gone;
    ascend = front_of_all (λ d. Ascends d.block) rest b all;
    keyed = h;
    replaces = λ k. replaces k ∙ elim (cases_Bool (nat_eq b.key k)) [
      | inl here ↦ ap (λ t. cond t b.block (block_at now k)) here ∙ sym (ap (λ t. cond (t || has (keys_of r.gone) k) (cond t b.block (block_at r.gone k)) (block_at old k)) here)
      | inr other ↦ ap (λ t. cond t b.block (block_at now k)) other ∙ r.replaces k ∙ sym (ap (λ t. cond (t || has (keys_of r.gone) k) (cond t b.block (block_at r.gone k)) (block_at old k)) other)
    ];
    fits = let fits = r.fits in omega (arith, long);
  }

pub all_replaced : (old now whole front : List Keyed) (len room : ℕ) → ReplacedFrom old now whole front len room → front ≡ [] → ReplacesAll old now whole
all_replaced old now whole front len room r none = subst (ReplacesAll old now) (sym (r.parts ∙ ap (λ l. l ++ r.gone) none)) r.replaces

-- blocks that were made for each key of a block that may change, and put in the place of others, are what the operation makes, where the blocks of other keys are that already
pub changed_combined : (op : Operation) (old now new others made : List Keyed) (keys : List ℕ) → keys_of made ≡ keys → All (IsMade (made_by op) old others) made → ReplacesAll now new made
    → ((k : ℕ) → has keys k ≡ false → Combines (made_by op) (block_at old k) (block_at others k) (block_at now k)) → CombinesKeyed (made_by op) old others new
changed_combined op old now new others made keys same each replaces stays k = elim (cases_Bool (has (keys_of made) k)) [
  | inl here ↦ (λ n. ap (λ l. has l n) (replaces k ∙ ap (λ t. cond t (block_at made k) (block_at now k)) here) ∙ found made each k here n)
  | inr out ↦ (λ n. ap (λ l. has l n) (replaces k ∙ ap (λ t. cond t (block_at made k) (block_at now k)) out) ∙ stays k (ap (λ l. has l k) (sym same) ∙ out) n)
]
  where
    found : (bs : List Keyed) → All (IsMade (made_by op) old others) bs → (j : ℕ) → has (keys_of bs) j ≡ true → Combines (made_by op) (block_at old j) (block_at others j) (block_at bs j)
    found [] all j here = cc
    found (b ∷ bs) all j here = elim (cases_eq b.key j) [
      | inl is ↦ (λ n. ap (λ t. has (cond t b.block (block_at bs j)) n) (eq-eqb b.key j is) ∙ (all 0 b (omega arith)).combines n ∙ ap (λ m. made_by op (has (block_at old m) n) (has (block_at others m) n)) is)
      | inr other ↦ (λ n. ap (λ t. has (cond t b.block (block_at bs j)) n) (ne_eqb b.key j other) ∙ found bs (λ i d l. all (suc i) d (omega arith)) j (sym (ap (λ t. t || has (keys_of bs) j) (ne_eqb b.key j other)) ∙ here) n)
    ]

pub changed_if_done : {R E : Type 0} (r : Result R E) (op : Operation) (old new others made : List Keyed) (keys : List ℕ) → keys_of made ≡ keys → All (IsMade (made_by op) old others) made → OnOk r (ReplacesAll old new made)
    → ((k : ℕ) → has keys k ≡ false → Combines (made_by op) (block_at old k) (block_at others k) (block_at old k)) → OnOk r (CombinesKeyed (made_by op) old others new)
changed_if_done (Ok x) op old new others made keys same each replaces stays = changed_combined op old old new others made keys same each replaces stays
changed_if_done (Err e) op old new others made keys same each replaces stays = tt

pub made_ascend : (f : Bool → Bool → Bool) (xs ys made : List Keyed) → All (IsMade f xs ys) made → All (λ b. Ascends b.block) made
made_ascend f xs ys made all k d inside = (all k d inside).ascends

-- ---- one block

-- a block that stays as it was
pub unchanged_replaces : (bs : List Keyed) (key : ℕ) (block : List ℕ) → block_at bs key ≡ block → Replaces bs bs key block
unchanged_replaces bs key block is k = elim (cases_eq key k) [
  | inl same ↦ ap (block_at bs) (sym same) ∙ is ∙ sym (ap (λ t. cond t block (block_at bs k)) (eq-eqb key k same))
  | inr other ↦ sym (ap (λ t. cond t block (block_at bs k)) (ne_eqb key k other))
]

-- a key without a block has one without a number
pub absent_replaces : (bs : List Keyed) (key i : ℕ) (block : List ℕ) → IsAbsent bs key i → block ≡ [] → Replaces bs bs key block
absent_replaces bs key i block absent none = unchanged_replaces bs key block (absent.none ∙ sym none)

-- a block that is taken out, whatever was put in its place before
pub remove_set : (bs : List Keyed) (i : ℕ) (b : Keyed) → remove (set bs i b) i ≡ remove bs i
remove_set [] zero b = refl
remove_set [] (suc i) b = refl
remove_set (a ∷ bs) zero b = refl
remove_set (a ∷ bs) (suc i) b = ap (λ l. a ∷ l) (remove_set bs i b)

-- the block that is read where one was put
pub put_block : (bs : List Keyed) (i : ℕ) (b got : Keyed) → i < length bs → got ≡ get_or (set bs i b) i got → got.block ≡ b.block
put_block bs i b got inside is = ap (λ d. d.block) (is ∙ item_set bs i got inside)
  where
    item_set : (l : List Keyed) (n : ℕ) (d : Keyed) → n < length l → get_or (set l n b) n d ≡ b
    item_set [] n d low = absurd (omega arith)
    item_set (a ∷ l) zero d low = refl
    item_set (a ∷ l) (suc n) d low = item_set l n d (omega arith)
