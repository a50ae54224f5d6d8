-- A block changed between others, of which those after it are changed too.
use Rattle.std.proofs.Common.{◌≡◌, ℕ, zero, suc, ◌+◌, ◌<◌, ◌≤◌, Bool, true, false, cond, ◌||◌, nat_eq, List, [], ◌∷◌, ◌++◌, get_or, length, refl, sym, ◌∙◌, ap, subst, inl, inr, arith}
use Rattle.std.proofs.Math.Bool.{or-true}
use Rattle.std.proofs.lemmas.Bool.{cases_Bool, cases_eq, eq-eqb, ne_eqb}
use Rattle.bit_blocks.specs.Numbers.{Ascends, Combines, has}
use Rattle.bit_blocks.specs.Operation.{made_by}
use Rattle.bit_blocks.specs.declared.keyed.Keyed.{Keyed}
use Rattle.bit_blocks.specs.declared.operation.Operation.{Operation}
use Rattle.bit_roaring.specs.Changes.{CombinesEach}
use Rattle.bit_roaring.specs.Keyed.{AreKeyed, AreKeyedFrom, block_at, keys_of}
use Rattle.bit_roaring.proofs.Changed.{stays_alone}
use Rattle.bit_roaring.specs.Places.{IsThere}
use Rattle.bit_roaring.proofs.Made.{no_key}
use Rattle.bit_roaring.proofs.Keys.{keyed_earlier, no_block_before}

-- blocks with the keys of others begin where those do
keyed_alike : (from low : ℕ) (xs ys : List Keyed) → AreKeyedFrom from xs → AreKeyedFrom low ys → keys_of ys ≡ keys_of xs → AreKeyedFrom from ys
keyed_alike from low xs [] h g same = tt
keyed_alike from low [] (y ∷ ys) h g same = cc
keyed_alike from low (x ∷ xs) (y ∷ ys) h g same = let first = h.0 in let key : y.key ≡ x.key = cc in (omega arith, g.1, g.2, g.3, g.4)

-- those after a block
pub keyed_after : (from : ℕ) (front after : List Keyed) (b : Keyed) → AreKeyedFrom from (front ++ b ∷ after) → AreKeyed after
keyed_after from [] after b h = keyed_earlier (b.key + 1) 0 after (omega arith) h.4
keyed_after from (a ∷ front) after b h = keyed_after (a.key + 1) front after b h.4

-- the block that was found
pub key_found_there : (bs front after : List Keyed) (b : Keyed) (key i : ℕ) → IsThere bs key i → bs ≡ front ++ b ∷ after → length front ≡ i → b.key ≡ key
key_found_there bs front after b key i there parts size =
    ap (λ d. d.key) (sym (between front)) ∙ ap (λ l. (get_or l (length front) b).key) (sym parts) ∙ ap (λ k. (get_or bs k b).key) size ∙ there.here b
  where
    between : (l : List Keyed) → get_or (l ++ b ∷ after) (length l) b ≡ b
    between [] = refl
    between (a ∷ l) = between l

-- the keys stay
pub keys_changed : (front after later : List Keyed) (old new : Keyed) → new.key ≡ old.key → keys_of later ≡ keys_of after → keys_of (front ++ new ∷ later) ≡ keys_of (front ++ old ∷ after)
keys_changed [] after later old new key same = ap (λ k. k ∷ keys_of later) key ∙ ap (λ l. old.key ∷ l) same
keys_changed (b ∷ front) after later old new key same = ap (λ l. b.key ∷ l) (keys_changed front after later old new key same)

-- and ascend
pub keyed_changed : (from : ℕ) (front after later : List Keyed) (old new : Keyed) → AreKeyedFrom from (front ++ old ∷ after) → new.key ≡ old.key → Ascends new.block → 0 < length new.block → AreKeyed later → keys_of later ≡ keys_of after
    → AreKeyedFrom from (front ++ new ∷ later)
keyed_changed from [] after later old new h key up some g same =
    let first = h.0 in
    let small = h.1 in
    (omega arith, omega arith, up, some, subst (λ k. AreKeyedFrom (k + 1) later) (sym key) (keyed_alike (old.key + 1) 0 after later h.4 g same))
keyed_changed from (b ∷ front) after later old new h key up some g same = (h.0, h.1, h.2, h.3, keyed_changed (b.key + 1) front after later old new h.4 key up some g same)

-- a block is at or after the beginning
begins : (from : ℕ) (front after : List Keyed) (b : Keyed) → AreKeyedFrom from (front ++ b ∷ after) → from ≤ b.key
begins from [] after b h = h.0
begins from (a ∷ front) after b h = let first = h.0 in let rest = begins (a.key + 1) front after b h.4 in omega arith

-- a key that is not the first
later_key : (first k : ℕ) (b : Bool) → (first ≡ k → ⊥) → (nat_eq first k || b) ≡ true → b ≡ true
later_key first k b apart here = sym (ap (λ t. t || b) (ne_eqb first k apart)) ∙ here

-- what an operation makes of one block, and of those after it, it makes of all, where the others have no key before it
combines_changed : (op : Operation) (from : ℕ) (front after later rest : List Keyed) (old new other : Keyed) → made_by op true false ≡ true → AreKeyedFrom from (front ++ old ∷ after) → AreKeyed (other ∷ rest)
    → old.key ≡ other.key → new.key ≡ old.key → Combines (made_by op) old.block other.block new.block → CombinesEach (made_by op) after rest later
    → CombinesEach (made_by op) (front ++ old ∷ after) (other ∷ rest) (front ++ new ∷ later)
combines_changed op from [] after later rest old new other keeps h g at key one all k there n = elim (cases_eq old.key k) [
  | inl same ↦ (
      let left = ap (λ t. has (cond t old.block (block_at after k)) n) (eq-eqb old.key k same) in
      let right = ap (λ t. has (cond t other.block (block_at rest k)) n) (eq-eqb other.key k (sym at ∙ same)) in
      ap (λ t. has (cond t new.block (block_at later k)) n) (eq-eqb new.key k (key ∙ same)) ∙ one n
      ∙ ap (λ b. made_by op b (has other.block n)) (sym left) ∙ ap (made_by op (has (cond (nat_eq old.key k) old.block (block_at after k)) n)) (sym right))
  | inr apart ↦ (
      let left = ap (λ t. has (cond t old.block (block_at after k)) n) (ne_eqb old.key k apart) in
      let right = ap (λ t. has (cond t other.block (block_at rest k)) n) (ne_eqb other.key k (λ e. apart (at ∙ e))) in
      ap (λ t. has (cond t new.block (block_at later k)) n) (ne_eqb new.key k (λ e. apart (sym key ∙ e))) ∙ all k (later_key old.key k (has (keys_of after) k) apart there) n
      ∙ ap (λ b. made_by op b (has (block_at rest k) n)) (sym left) ∙ ap (made_by op (has (cond (nat_eq old.key k) old.block (block_at after k)) n)) (sym right))
]
combines_changed op from (b ∷ front) after later rest old new other keeps h g at key one all k there n = elim (cases_eq b.key k) [
  | inl same ↦ (
      let past = begins (b.key + 1) front after old h.4 in
      let none : block_at (other ∷ rest) k ≡ [] = no_block_before other.key (other ∷ rest) k (omega arith, g.1, g.2, g.3, g.4) (omega arith) in
      let left = ap (λ t. has (cond t b.block (block_at (front ++ old ∷ after) k)) n) (eq-eqb b.key k same) in
      ap (λ t. has (cond t b.block (block_at (front ++ new ∷ later) k)) n) (eq-eqb b.key k same) ∙ stays_alone op b.block (block_at (other ∷ rest) k) keeps none n
      ∙ ap (λ t. made_by op t (has (block_at (other ∷ rest) k) n)) (sym left))
  | inr apart ↦ (
      let left = ap (λ t. has (cond t b.block (block_at (front ++ old ∷ after) k)) n) (ne_eqb b.key k apart) in
      ap (λ t. has (cond t b.block (block_at (front ++ new ∷ later) k)) n) (ne_eqb b.key k apart) ∙ combines_changed op (b.key + 1) front after later rest old new other keeps h.4 g at key one all k (later_key b.key k (has (keys_of (front ++ old ∷ after)) k) apart there) n
      ∙ ap (λ t. made_by op t (has (block_at (other ∷ rest) k) n)) (sym left))
]

-- so it makes all of them, however they are parted
pub combines_there : (op : Operation) (bs others front after later rest : List Keyed) (old new other : Keyed) → made_by op true false ≡ true → AreKeyed bs → bs ≡ front ++ old ∷ after → AreKeyed others → others ≡ other ∷ rest
    → old.key ≡ other.key → new.key ≡ old.key → Combines (made_by op) old.block other.block new.block → CombinesEach (made_by op) after rest later → CombinesEach (made_by op) bs others (front ++ new ∷ later)
combines_there op bs others front after later rest old new other keeps h parts g is at key one all =
    let made = combines_changed op 0 front after later rest old new other keeps (subst AreKeyed parts h) (subst AreKeyed is g) at key one all in
    subst (λ l. CombinesEach (made_by op) l others (front ++ new ∷ later)) (sym parts) (subst (λ l. CombinesEach (made_by op) (front ++ old ∷ after) l (front ++ new ∷ later)) (sym is) made)

-- one of the others that has no block beside it
pub combines_past : (op : Operation) (bs others rest new : List Keyed) (other : Keyed) → others ≡ other ∷ rest → AreKeyed bs → block_at bs other.key ≡ [] → CombinesEach (made_by op) bs rest new → CombinesEach (made_by op) bs others new
combines_past op bs others rest new other is h none all k there n = elim (cases_eq other.key k) [
  | inl same ↦ absurd (no_length bs k 0 h there (ap (block_at bs) (sym same) ∙ none))
  | inr apart ↦ all k there n ∙ ap (λ l. made_by op (has (block_at bs k) n) (has l n)) (sym (ap (λ l. block_at l k) is ∙ ap (λ t. cond t other.block (block_at rest k)) (ne_eqb other.key k apart)))
]
  where
    no_length : (l : List Keyed) (j from : ℕ) → AreKeyedFrom from l → has (keys_of l) j ≡ true → block_at l j ≡ [] → ⊥
    no_length [] j from g here empty = let e : false ≡ true = here in cc
    no_length (b ∷ l) j from g here empty = elim (cases_eq b.key j) [
      | inl same ↦ (let size = g.3 in let e = ap length (sym (ap (λ t. cond t b.block (block_at l j)) (eq-eqb b.key j same)) ∙ empty) in omega arith)
      | inr apart ↦ no_length l j (b.key + 1) g.4 (later_key b.key j (has (keys_of l) j) apart here) (sym (ap (λ t. cond t b.block (block_at l j)) (ne_eqb b.key j apart)) ∙ empty)
    ]

-- the block that is found has its key among the keys
pub there_has : (bs : List Keyed) (key i : ℕ) → IsThere bs key i → has (keys_of bs) key ≡ true
there_has bs key i there = among bs i there.inside there.here
  where
    among : (l : List Keyed) (j : ℕ) → j < length l → ((d : Keyed) → (get_or l j d).key ≡ key) → has (keys_of l) key ≡ true
    among [] j inside here = absurd (omega arith)
    among (b ∷ l) zero inside here = ap (λ t. t || has (keys_of l) key) (eq-eqb b.key key (here b))
    among (b ∷ l) (suc j) inside here = ap (λ t. nat_eq b.key key || t) (among l j (omega arith) here) ∙ or-true (nat_eq b.key key)

-- so all keys but the new ones have what the operation makes
pub each_or_none : (op : Operation) (old now others : List Keyed) (keys : List ℕ) → keys_of now ≡ keys_of old → CombinesEach (made_by op) old others now
    → ((k : ℕ) → has keys k ≡ false → has (keys_of old) k ≡ false → Combines (made_by op) [] (block_at others k) []) → (k : ℕ) → has keys k ≡ false → Combines (made_by op) (block_at old k) (block_at others k) (block_at now k)
each_or_none op old now others keys same each none k out = elim (cases_Bool (has (keys_of old) k)) [
  | inl here ↦ each k here
  | inr absent ↦ (λ n. ap (λ l. has l n) (no_key now k (ap (λ l. has l k) same ∙ absent)) ∙ none k out absent n ∙ ap (λ l. made_by op (has l n) (has (block_at others k) n)) (sym (no_key old k absent)))
]
