-- Blocks that are merged with others.
use Rattle.std.proofs.Common.{◌≡◌, ℕ, zero, suc, ◌+◌, ◌<◌, ◌≤◌, false, cond, ◌||◌, nat_eq, List, [], ◌∷◌, ◌++◌, append-nil, append_assoc, length, refl, sym, ◌∙◌, ap, subst, inl, inr, arith}
use Rattle.std.specs.Prelude.{All, IfNone, None, Option, Some, option_to_list}
use Rattle.std.proofs.lemmas.Bool.{cases_Bool, cases_eq, eq-eqb, ne_eqb}
use Rattle.bit_blocks.specs.Numbers.{Ascends, AscendsIn, has}
use Rattle.bit_blocks.specs.declared.keyed.Keyed.{Keyed}
use Rattle.bit_blocks.proofs.Ascending.{ascends_append, below_all}
use Rattle.bit_roaring.specs.Changes.{Replaces, ReplacesAll}
use Rattle.bit_roaring.specs.Keyed.{AreKeyed, AreKeyedFrom, block_at, keys_of}
use Rattle.bit_roaring.proofs.Changed.{keys_appended, unchanged_replaces}
use Rattle.bit_roaring.proofs.Keys.{keyed_at_least, keyed_earlier, no_block_before}
use Rattle.bit_roaring.proofs.Made.{keyed_between, none_past, pushed_below, replaces_after}

-- ---- blocks with smaller keys, and those after them

-- those after a block have greater keys
keys_after : (from : ℕ) (xs ys : List Keyed) (b : Keyed) → AreKeyedFrom from (xs ++ b ∷ ys) → All (λ d. b.key < d.key) ys
keys_after from [] ys b h k d inside = let low = keyed_at_least (b.key + 1) ys k d h.4 inside in omega arith
keys_after from (a ∷ xs) ys b h k d inside = keys_after (a.key + 1) xs ys b h.4 k d inside

keyed_without : (from : ℕ) (xs ys : List Keyed) (b : Keyed) → AreKeyedFrom from (xs ++ b ∷ ys) → AreKeyedFrom from (xs ++ ys)
keyed_without from [] ys b h = let first = h.0 in keyed_earlier (b.key + 1) from ys (omega arith) h.4
keyed_without from (a ∷ xs) ys b h = (h.0, h.1, h.2, h.3, keyed_without (a.key + 1) xs ys b h.4)

keyed_back : (from : ℕ) (xs ys : List Keyed) → AreKeyedFrom from (xs ++ ys) → AreKeyed ys
keyed_back from [] ys h = keyed_earlier from 0 ys (omega arith) h
keyed_back from (a ∷ xs) ys h = keyed_back (a.key + 1) xs ys h.4

all_small : (from : ℕ) (bs : List Keyed) → AreKeyedFrom from bs → All (λ b. b.key < 65536) bs
all_small from [] h k d inside = absurd (omega arith)
all_small from (b ∷ bs) h zero d inside = h.1
all_small from (b ∷ bs) h (suc k) d inside = all_small (b.key + 1) bs h.4 k d (omega arith)

taken_first : (from : ℕ) (ys : List Keyed) (b : Keyed) → AreKeyedFrom from (b ∷ ys) → Replaces (b ∷ ys) ys b.key []
taken_first from ys b h k = elim (cases_eq b.key k) [
  | inl same ↦ no_block_before (b.key + 1) ys k h.4 (omega arith) ∙ sym (ap (λ t. cond t [] (block_at (b ∷ ys) k)) (eq-eqb b.key k same))
  | inr other ↦ sym (ap (λ t. cond t [] (block_at (b ∷ ys) k)) (ne_eqb b.key k other) ∙ ap (λ t. cond t b.block (block_at ys k)) (ne_eqb b.key k other))
]

none_later : (key : ℕ) (ys : List Keyed) → All (λ b. key < b.key) ys → block_at ys key ≡ []
none_later key [] above = refl
none_later key (b ∷ ys) above =
    let first = above 0 b (omega arith) in
    ap (λ t. cond t b.block (block_at ys key)) (ne_eqb b.key key (λ e. omega arith)) ∙ none_later key ys (λ j d l. above (suc j) d (omega arith))

none_between : (xs ys : List Keyed) (key : ℕ) → All (λ b. b.key < key) xs → All (λ b. key < b.key) ys → block_at (xs ++ ys) key ≡ []
none_between [] ys key below above = none_later key ys above
none_between (b ∷ xs) ys key below above =
    let first = below 0 b (omega arith) in
    ap (λ t. cond t b.block (block_at (xs ++ ys) key)) (ne_eqb b.key key (λ e. omega arith)) ∙ none_between xs ys key (λ j d l. below (suc j) d (omega arith)) above

-- ---- blocks moved up to a key

-- blocks with keys below one were moved from the front of those that are left: one that was read, and the rest
pub record MovedTo (whole all : List Keyed) (next : Option Keyed) (rest : List Keyed) (key len start room most : ℕ) : Type 0 where
  pub same : all ++ (option_to_list next ++ rest) ≡ whole
  pub before : All (λ b. b.key < key) all
  pub ends : IfNone next (rest ≡ [])
  pub fits : len + length (option_to_list next ++ rest) ≤ start
  pub capacity : most ≤ room

pub record MovedBefore (whole all left : List Keyed) (key : ℕ) : Type 0 where
  pub keyed : AreKeyed (all ++ left)
  pub replaces : Replaces whole (all ++ left) key []
  pub after : All (λ b. key < b.key) left

-- the next block has a greater key
pub stops_before : (whole all rest : List Keyed) (next : Option Keyed) (b : Keyed) (key len start room most : ℕ) → AreKeyed whole → MovedTo whole all next rest key len start room most → next ≡ Some b → key < b.key → MovedBefore whole all (b ∷ rest) key
stops_before whole all rest next b key len start room most h r is above =
    let same : all ++ b ∷ rest ≡ whole = ap (λ o. all ++ (option_to_list o ++ rest)) (sym is) ∙ r.same in
    let up : AreKeyed (all ++ b ∷ rest) = subst AreKeyed (sym same) h in
    let after : All (λ d. key < d.key) (b ∷ rest) = first up in
    record { keyed = up; replaces = subst (λ l. Replaces l (all ++ b ∷ rest) key []) same (unchanged_replaces (all ++ b ∷ rest) key [] (none_between all (b ∷ rest) key r.before after)); after = after }
  where
    first : AreKeyed (all ++ b ∷ rest) → All (λ d. key < d.key) (b ∷ rest)
    first up zero d inside = above
    first up (suc k) d inside = let more = keys_after 0 all rest b up k d (omega arith) in omega arith

-- the next block has the key
pub stops_at : (whole all rest left : List Keyed) (next : Option Keyed) (b : Keyed) (key len start room most : ℕ) → AreKeyed whole → MovedTo whole all next rest key len start room most → next ≡ Some b → key ≡ b.key → rest ≡ left → MovedBefore whole all left key
stops_at whole all rest left next b key len start room most h r is at goes =
    let same : all ++ b ∷ rest ≡ whole = ap (λ o. all ++ (option_to_list o ++ rest)) (sym is) ∙ r.same in
    let up : AreKeyed (all ++ b ∷ rest) = subst AreKeyed (sym same) h in
    let taken : Replaces (b ∷ rest) rest key [] = subst (λ k. Replaces (b ∷ rest) rest k []) (sym at) (taken_first 0 rest b (keyed_back 0 all (b ∷ rest) up)) in
    subst (λ l. MovedBefore whole all l key) goes (record {
      keyed = keyed_without 0 all rest b up;
      replaces = subst (λ l. Replaces l (all ++ rest) key []) same (replaces_after all (b ∷ rest) rest key [] r.before taken);
      after = subst (λ k. All (λ d. k < d.key) rest) (sym at) (keys_after 0 all rest b up);
    })

-- no block is left
pub stops_past : (whole all rest : List Keyed) (next : Option Keyed) (key len start room most : ℕ) → AreKeyed whole → MovedTo whole all next rest key len start room most → next ≡ None → MovedBefore whole all rest key
stops_past whole all rest next key len start room most h r is =
    let same : all ++ rest ≡ whole = ap (λ o. all ++ (option_to_list o ++ rest)) (sym is) ∙ r.same in
    let none : rest ≡ [] = subst (λ o. IfNone o (rest ≡ [])) is r.ends in
    let after : All (λ b. key < b.key) rest = subst (All (λ b. key < b.key)) (sym none) (λ k d inside. absurd (omega arith)) in
    record {
      keyed = subst AreKeyed (sym same) h;
      replaces = subst (λ l. Replaces l (all ++ rest) key []) same (unchanged_replaces (all ++ rest) key [] (none_between all rest key r.before after));
      after = after;
    }

-- ---- blocks merged up to one of those that were made

-- some of the blocks that were made were put in the place of others, and the rest were not yet
pub record MergedTo (old all left made rest : List Keyed) (len room : ℕ) : Type 0 where
  pub bound : ℕ
  pub gone : List Keyed
  pub parts : gone ++ rest ≡ made
  pub small : bound ≤ 65536
  pub keyed : AreKeyed (all ++ left)
  pub replaces : ReplacesAll old (all ++ left) gone
  pub past : All (λ b. b.key < bound) all
  pub before : AscendsIn 0 bound (keys_of gone)
  pub after : AscendsIn bound 65536 (keys_of rest)
  pub ascend : All (λ b. Ascends b.block) rest
  pub fits : len + length left + length rest ≤ room

replaced_twice : (old mid new : List Keyed) (key : ℕ) (block : List ℕ) → Replaces old mid key [] → Replaces mid new key block → Replaces old new key block
replaced_twice old mid new key block r s k = s k ∙ elim (cases_Bool (nat_eq key k)) [
  | inl here ↦ ap (λ t. cond t block (block_at mid k)) here ∙ sym (ap (λ t. cond t block (block_at old k)) here)
  | inr other ↦ ap (λ t. cond t block (block_at mid k)) other ∙ r k ∙ ap (λ t. cond t [] (block_at old k)) other ∙ sym (ap (λ t. cond t block (block_at old k)) other)
]

-- the block with a key in a list with one more
one_more : (bs : List Keyed) (b : Keyed) (k : ℕ) (o : List ℕ) → cond (has (keys_of (bs ++ b ∷ [])) k) (block_at (bs ++ b ∷ []) k) o ≡ cond (has (keys_of bs) k) (block_at bs k) (cond (nat_eq b.key k) b.block o)
one_more [] b k o = elim (cases_Bool (nat_eq b.key k)) [
  | inl here ↦ ap (λ t. cond (t || false) (cond t b.block []) o) here ∙ sym (ap (λ t. cond t b.block o) here)
  | inr other ↦ ap (λ t. cond (t || false) (cond t b.block []) o) other ∙ sym (ap (λ t. cond t b.block o) other)
]
one_more (a ∷ bs) b k o = elim (cases_Bool (nat_eq a.key k)) [
  | inl here ↦ ap (λ t. cond (t || has (keys_of (bs ++ b ∷ [])) k) (cond t a.block (block_at (bs ++ b ∷ []) k)) o) here
      ∙ sym (ap (λ t. cond (t || has (keys_of bs) k) (cond t a.block (block_at bs k)) (cond (nat_eq b.key k) b.block o)) here)
  | inr other ↦ ap (λ t. cond (t || has (keys_of (bs ++ b ∷ [])) k) (cond t a.block (block_at (bs ++ b ∷ []) k)) o) other ∙ one_more bs b k o
      ∙ sym (ap (λ t. cond (t || has (keys_of bs) k) (cond t a.block (block_at bs k)) (cond (nat_eq b.key k) b.block o)) other)
]

all_more : (old mid new gone : List Keyed) (b : Keyed) → ReplacesAll old mid gone → Replaces mid new b.key b.block → has (keys_of gone) b.key ≡ false → ReplacesAll old new (gone ++ b ∷ [])
all_more old mid new gone b all r apart k = r k ∙ ap (λ l. cond (nat_eq b.key k) b.block l) (all k) ∙ elim (cases_eq b.key k) [
  | inl here ↦ (
      let out : has (keys_of gone) k ≡ false = subst (λ n. has (keys_of gone) n ≡ false) here apart in
      ap (λ t. cond t b.block (cond (has (keys_of gone) k) (block_at gone k) (block_at old k))) (eq-eqb b.key k here)
      ∙ sym (ap (λ t. cond t (block_at gone k) (cond (nat_eq b.key k) b.block (block_at old k))) out ∙ ap (λ t. cond t b.block (block_at old k)) (eq-eqb b.key k here)))
  | inr other ↦ ap (λ t. cond t b.block (cond (has (keys_of gone) k) (block_at gone k) (block_at old k))) (ne_eqb b.key k other)
      ∙ sym (ap (λ t. cond (has (keys_of gone) k) (block_at gone k) (cond t b.block (block_at old k))) (ne_eqb b.key k other))
] ∙ sym (one_more gone b k (block_at old k))

pub none_merged : (old all left made : List Keyed) (len room : ℕ) → AreKeyed left → old ≡ left → all ≡ [] → Ascends (keys_of made) → All (λ b. Ascends b.block) made → len + length left + length made ≤ room → MergedTo old all left made made len room
none_merged old all left made len room h same none up each fits = record {
  bound = 0;
  gone = [];
  parts = refl;
  small = omega arith;
  keyed = subst (λ l. AreKeyed (l ++ left)) (sym none) h;
  replaces = λ k. ap (λ l. block_at (l ++ left) k) none ∙ ap (λ l. block_at l k) (sym same);
  past = subst (All (λ b. b.key < 0)) (sym none) (λ k d inside. absurd (omega arith));
  before = tt;
  after = up;
  ascend = each;
  fits = fits;
}

-- the next of the blocks that were made
module _ (old all left made rest more : List Keyed) (len room : ℕ) (b : Keyed) (r : MergedTo old all left made rest len room) (is : rest ≡ b ∷ more) where
  begins : AscendsIn r.bound 65536 (b.key ∷ keys_of more)
  begins = subst (λ l. AscendsIn r.bound 65536 (keys_of l)) is r.after

  each : All (λ d. Ascends d.block) (b ∷ more)
  each = subst (All (λ d. Ascends d.block)) is r.ascend

  pub next_past : All (λ d. d.key < b.key) all
  next_past k d l = let low = begins.0 in let below = r.past k d l in omega arith

  apart : has (keys_of r.gone) b.key ≡ false
  apart = below_all 0 r.bound (keys_of r.gone) b.key r.before begins.0

  gone_more : AscendsIn 0 (b.key + 1) (keys_of (r.gone ++ b ∷ []))
  gone_more = let low = begins.0 in
      subst (AscendsIn 0 (b.key + 1)) (sym (keys_appended r.gone b)) (ascends_append 0 r.bound (b.key + 1) (keys_of r.gone) (b.key ∷ []) (omega arith) (omega arith) r.before (low, omega arith, tt))

  long : length rest ≡ suc (length more)
  long = ap length is

  -- which has numbers
  pub next_merged : (mid end : List Keyed) (size wide : ℕ) → MovedBefore (all ++ left) mid end b.key → All (λ d. d.key < b.key) mid → size + length end ≤ len + length left + 1 → room ≤ wide → 0 < length b.block → MergedTo old (mid ++ b ∷ []) end made more size wide
  next_merged mid end size wide m below fewer still some = let fits = r.fits in let high = begins.1 in record {
    bound = b.key + 1;
    gone = r.gone ++ b ∷ [];
    parts = append_assoc r.gone (b ∷ []) more ∙ ap (λ l. r.gone ++ l) (sym is) ∙ r.parts;
    small = omega arith;
    keyed = subst AreKeyed (sym (append_assoc mid (b ∷ []) end)) (keyed_between 0 mid end b.key b.block m.keyed below m.after (omega arith) begins.1 (each 0 b (omega arith)) some);
    replaces = all_more old (all ++ left) ((mid ++ b ∷ []) ++ end) r.gone b r.replaces
        (subst (λ l. Replaces (all ++ left) l b.key b.block) (sym (append_assoc mid (b ∷ []) end))
        (replaced_twice (all ++ left) (mid ++ end) (mid ++ b ∷ end) b.key b.block m.replaces (replaces_after mid end (b ∷ end) b.key b.block below (λ k. refl)))) apart;
    past = pushed_below mid b.key b.block below;
    before = gone_more;
    after = begins.2;
    ascend = λ k d l. each (suc k) d (omega arith);
    fits = omega (arith, long);
  }

  -- which has none
  pub next_taken : (mid end : List Keyed) (size wide : ℕ) → MovedBefore (all ++ left) mid end b.key → All (λ d. d.key < b.key) mid → size + length end ≤ len + length left → room ≤ wide → b.block ≡ [] → MergedTo old mid end made more size wide
  next_taken mid end size wide m below fewer still none = let fits = r.fits in let high = begins.1 in record {
    bound = b.key + 1;
    gone = r.gone ++ b ∷ [];
    parts = append_assoc r.gone (b ∷ []) more ∙ ap (λ l. r.gone ++ l) (sym is) ∙ r.parts;
    small = omega arith;
    keyed = m.keyed;
    replaces = all_more old (all ++ left) (mid ++ end) r.gone b r.replaces (subst (Replaces (all ++ left) (mid ++ end) b.key) (sym none) m.replaces) apart;
    past = λ k d l. let less = below k d l in omega arith;
    before = gone_more;
    after = begins.2;
    ascend = λ k d l. each (suc k) d (omega arith);
    fits = omega (arith, long);
  }

-- all were put in, and what was left was moved
module _ (old all left made end over : List Keyed) (len room : ℕ) (h : AreKeyed old) (up : Ascends (keys_of made)) (r : MergedTo old all left made [] len room) (m : MovedBefore (all ++ left) end over 65536) where
  nothing : over ≡ []
  nothing = empty over (all_small 0 over (keyed_back 0 end over m.keyed)) m.after
    where
      empty : (l : List Keyed) → All (λ b. b.key < 65536) l → All (λ b. 65536 < b.key) l → l ≡ []
      empty [] low high = refl
      empty (b ∷ l) low high = let less = low 0 b (omega arith) in let more = high 0 b (omega arith) in absurd (omega arith)

  whole : end ++ over ≡ end
  whole = ap (λ l. end ++ l) nothing ∙ append-nil end

  pub all_keyed : AreKeyed end
  all_keyed = subst AreKeyed whole m.keyed

  pub all_merged : ReplacesAll old end made
  all_merged k = ap (λ l. block_at l k) (sym whole) ∙ m.replaces k ∙ elim (cases_eq 65536 k) [
    | inl same ↦ ap (λ t. cond t [] (block_at (all ++ left) k)) (eq-eqb 65536 k same)
        ∙ sym (ap (λ t. cond t (block_at made k) (block_at old k)) (below_all 0 65536 (keys_of made) k up (omega arith)) ∙ none_past old k (λ j d l. let low = all_small 0 old h j d l in omega arith))
    | inr other ↦ ap (λ t. cond t [] (block_at (all ++ left) k)) (ne_eqb 65536 k other) ∙ r.replaces k ∙ ap (λ l. cond (has (keys_of l) k) (block_at l k) (block_at old k)) (sym (append-nil r.gone) ∙ r.parts)
  ]
