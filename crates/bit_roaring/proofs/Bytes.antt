-- Ascending numbers as the blocks that are written and read.
use Rattle.std.proofs.Common.{◌≡◌, ◌≢◌, ℕ, suc, ◌+◌, ◌*◌, ◌/◌, ◌%◌, ◌^◌, ◌<◌, ◌≤◌, Bool, cond, List, [], ◌∷◌, ◌++◌, drop, get_or, length, map, refl, sym, ◌∙◌, ap, subst, inl, inr, arith}
use Rattle.std.specs.Prelude.{Result, Ok, Err, ⊤}
use Rattle.std.proofs.lemmas.Bool.{cases_eq, eq-eqb, ne_eqb}
use Rattle.bit_blocks.specs.Numbers.{AscendsIn}
use Rattle.bit_blocks.specs.declared.keyed.Keyed.{Keyed}
use Rattle.bit_blocks.proofs.Ascending.{ascends_earlier}
use Rattle.bit_portable.specs.declared.fault.Fault.{Fault as FaultOf}
use Rattle.bit_portable.specs.declared.fault.ReadError.{ReadError}
use Rattle.bit_portable.specs.declared.fault.ReadError.TheVariants.{Memory, Fault}
use Rattle.bit_portable.specs.Keyed.{all_numbered, numbered}
use Rattle.bit_portable.specs.Portable.{AreBlocks, AreBlocksFrom, IsFormOf, Numbered, portable}
use Rattle.bit_portable.specs.Reading.{Fails}
use Rattle.bit_roaring.specs.Bytes.{blocks_of, put_first, set_bytes}
use Rattle.bit_roaring.specs.Keyed.{AreKeyed, AreKeyedFrom, set_numbers}
use Rattle.bit_roaring.proofs.Keys.{keyed}

-- ---- blocks of a set, as they are written

blocks_from : (from : ℕ) (bs : List Keyed) → AreKeyedFrom from bs → AreBlocksFrom from (all_numbered bs)
blocks_from from [] h = h
blocks_from from (b ∷ bs) h = (h.0, h.1, h.3, h.2, blocks_from (b.key + 1) bs h.4)

keyed_from : (from : ℕ) (bs : List Keyed) → AreBlocksFrom from (all_numbered bs) → AreKeyedFrom from bs
keyed_from from [] h = h
keyed_from from (b ∷ bs) h = (h.0, h.1, h.3, h.2, keyed_from (b.key + 1) bs h.4)

-- the blocks of a set can be written
pub are_blocks : (bs : List Keyed) → AreKeyed bs → AreBlocks (all_numbered bs)
are_blocks bs h = blocks_from 0 bs h

-- and what was read is blocks of a set
pub are_keyed : (bs : List Keyed) → AreBlocks (all_numbered bs) → AreKeyed bs
are_keyed bs h = keyed_from 0 bs h

-- ---- the blocks are those of their numbers

-- a number with another key than the first block's begins a block
first_alone : (n a x from : ℕ) (bs : List Numbered) → n / 65536 ≡ a → n % 65536 ≡ x → AreBlocksFrom from bs → a < from → put_first n bs ≡ record { key = a; numbers = x ∷ [] } ∷ bs
first_alone n a x from [] key low h less = ap (λ k. record { key = k; numbers = n % 65536 ∷ [] } ∷ []) key ∙ ap (λ y. record { key = a; numbers = y ∷ [] } ∷ []) low
first_alone n a x from (b ∷ bs) key low h less =
    let first = h.0 in
    ap (λ t. cond t (record { key = b.key; numbers = n % 65536 ∷ b.numbers } ∷ bs) (record { key = n / 65536; numbers = n % 65536 ∷ [] } ∷ b ∷ bs)) (ne_eqb b.key (n / 65536) (λ e. omega arith))
    ∙ ap (λ k. record { key = k; numbers = n % 65536 ∷ [] } ∷ b ∷ bs) key ∙ ap (λ y. record { key = a; numbers = y ∷ [] } ∷ b ∷ bs) low

-- one with the same key is put into it
first_into : (n a x : ℕ) (xs : List ℕ) (bs : List Numbered) → n / 65536 ≡ a → n % 65536 ≡ x → put_first n (record { key = a; numbers = xs } ∷ bs) ≡ record { key = a; numbers = x ∷ xs } ∷ bs
first_into n a x xs bs key low =
    ap (λ t. cond t (record { key = a; numbers = n % 65536 ∷ xs } ∷ bs) (record { key = n / 65536; numbers = n % 65536 ∷ [] } ∷ record { key = a; numbers = xs } ∷ bs)) (eq-eqb a (n / 65536) (sym key))
    ∙ ap (λ y. record { key = a; numbers = y ∷ xs } ∷ bs) low

-- the numbers of a block, and those of others with greater keys
one_block : (a from : ℕ) (xs ns : List ℕ) (bs : List Numbered) → AscendsIn from 65536 xs → 0 < length xs → blocks_of ns ≡ bs → AreBlocksFrom (a + 1) bs → blocks_of (map (λ k. a * 65536 + k) xs ++ ns) ≡ record { key = a; numbers = xs } ∷ bs
one_block a from [] ns bs up some is h = absurd (omega arith)
one_block a from (x ∷ []) ns bs up some is h =
    let below = up.1 in
    ap (put_first (a * 65536 + x)) is ∙ first_alone (a * 65536 + x) a x (a + 1) bs (omega arith) (omega arith) h (omega arith)
one_block a from (x ∷ (y ∷ xs)) ns bs up some is h =
    let below = up.1 in
    ap (put_first (a * 65536 + x)) (one_block a (x + 1) (y ∷ xs) ns bs up.2 (omega arith) is h) ∙ first_into (a * 65536 + x) a x (y ∷ xs) bs (omega arith) (omega arith)

same_from : (from : ℕ) (bs : List Keyed) → AreKeyedFrom from bs → blocks_of (set_numbers bs) ≡ all_numbered bs
same_from from [] h = refl
same_from from (b ∷ bs) h = one_block b.key 0 b.block (set_numbers bs) (all_numbered bs) h.2 h.3 (same_from (b.key + 1) bs h.4) (blocks_from (b.key + 1) bs h.4)

-- the numbers of a set are in blocks as the set has them
pub same_blocks : (bs : List Keyed) → AreKeyed bs → blocks_of (set_numbers bs) ≡ all_numbered bs
same_blocks bs h = same_from 0 bs h

-- blocks that have the same keys and numbers are the same
unnumbered : (bs os : List Keyed) → all_numbered bs ≡ all_numbered os → bs ≡ os
unnumbered [] [] e = refl
unnumbered [] (o ∷ os) e = let none : 0 ≡ suc (length (all_numbered os)) = ap length e in absurd (omega arith)
unnumbered (b ∷ bs) [] e = let none : suc (length (all_numbered bs)) ≡ 0 = ap length e in absurd (omega arith)
unnumbered (b ∷ bs) (o ∷ os) e =
    let first : numbered b ≡ numbered o = ap (λ l. get_or l 0 (numbered b)) e in
    let rest = unnumbered bs os (ap (drop 1) e) in
    ap (λ k. keyed k b.block ∷ bs) (ap (λ r. r.key) first) ∙ ap (λ l. keyed o.key l ∷ bs) (ap (λ r. r.numbers) first) ∙ ap (λ l. o ∷ l) rest

-- sets that have the same numbers have the same blocks
pub same_set : (bs os : List Keyed) → AreKeyed bs → AreKeyed os → set_numbers bs ≡ set_numbers os → bs ≡ os
same_set bs os h g same = unnumbered bs os (sym (same_blocks bs h) ∙ ap blocks_of same ∙ same_blocks os g)

-- what is written of a set
pub set_written : (with_runs : Bool) (bs : List Keyed) (bytes : List ℕ) → AreKeyed bs → bytes ≡ portable with_runs (all_numbered bs) → bytes ≡ set_bytes with_runs (set_numbers bs)
set_written with_runs bs bytes h is = is ∙ ap (portable with_runs) (sym (same_blocks bs h))

-- what is read as a set
pub set_read : (bs : List Keyed) (bytes : List ℕ) → AreBlocks (all_numbered bs) → IsFormOf bytes (all_numbered bs) → IsFormOf bytes (blocks_of (set_numbers bs))
set_read bs bytes h is = subst (IsFormOf bytes) (sym (same_blocks bs (are_keyed bs h))) is

-- ---- ascending numbers are those of their blocks

abbrev numbers_in : List Numbered → List ℕ
numbers_in [] = []
numbers_in (b ∷ bs) = map (λ k. b.key * 65536 + k) b.numbers ++ numbers_in bs

put_back : (n : ℕ) (bs : List Numbered) → numbers_in (put_first n bs) ≡ n ∷ numbers_in bs
put_back n [] = let e : n / 65536 * 65536 + n % 65536 ≡ n = omega arith in ap (λ m. m ∷ []) e
put_back n (b ∷ bs) = let e : n / 65536 * 65536 + n % 65536 ≡ n = omega arith in elim (cases_eq b.key (n / 65536)) [
  | inl same ↦ (
      ap (λ t. numbers_in (cond t (record { key = b.key; numbers = n % 65536 ∷ b.numbers } ∷ bs) (record { key = n / 65536; numbers = n % 65536 ∷ [] } ∷ b ∷ bs))) (eq-eqb b.key (n / 65536) same)
      ∙ ap (λ m. m ∷ numbers_in (b ∷ bs)) (ap (λ k. k * 65536 + n % 65536) same ∙ e))
  | inr other ↦ (
      ap (λ t. numbers_in (cond t (record { key = b.key; numbers = n % 65536 ∷ b.numbers } ∷ bs) (record { key = n / 65536; numbers = n % 65536 ∷ [] } ∷ b ∷ bs))) (ne_eqb b.key (n / 65536) other)
      ∙ ap (λ m. m ∷ numbers_in (b ∷ bs)) e)
]

all_back : (ns : List ℕ) → numbers_in (blocks_of ns) ≡ ns
all_back [] = refl
all_back (n ∷ ns) = put_back n (blocks_of ns) ∙ ap (λ l. n ∷ l) (all_back ns)

-- blocks of numbers from one on: those of the first block are at least `low` there
abbrev BeginAt : ℕ → List Numbered → Type 0
BeginAt from [] = ⊤
BeginAt from (b ∷ bs) = (low : ℕ) × (from ≤ b.key * 65536 + low) × (b.key < 65536) × (0 < length b.numbers) × (low < 65536) × AscendsIn low 65536 b.numbers × AreBlocksFrom (b.key + 1) bs

begin_put : (n : ℕ) (bs : List Numbered) → n < 2 ^ 32 → BeginAt (n + 1) bs → BeginAt n (put_first n bs)
begin_put n [] small h = (n % 65536, omega arith, omega arith, omega arith, omega arith, (omega arith, omega arith, tt), tt)
begin_put n (b ∷ bs) small h =
    let least = h.1 in
    let key = h.2 in
    let fits = h.4 in
    elim (cases_eq b.key (n / 65536)) [
      | inl same ↦ subst (BeginAt n) (sym (ap (λ t. cond t (record { key = b.key; numbers = n % 65536 ∷ b.numbers } ∷ bs) (record { key = n / 65536; numbers = n % 65536 ∷ [] } ∷ b ∷ bs)) (eq-eqb b.key (n / 65536) same)))
          (n % 65536, omega arith, key, omega arith, omega arith, (omega arith, omega arith, ascends_earlier h.0 (n % 65536 + 1) 65536 b.numbers (omega arith) h.5), h.6)
      | inr other ↦ subst (BeginAt n) (sym (ap (λ t. cond t (record { key = b.key; numbers = n % 65536 ∷ b.numbers } ∷ bs) (record { key = n / 65536; numbers = n % 65536 ∷ [] } ∷ b ∷ bs)) (ne_eqb b.key (n / 65536) other)))
          (n % 65536, omega arith, omega arith, omega arith, omega arith, (omega arith, omega arith, tt), (past other, key, h.3, ascends_earlier h.0 0 65536 b.numbers (omega arith) h.5, h.6))
    ]
  where
    past : (b.key ≢ n / 65536) → n / 65536 + 1 ≤ b.key
    past apart = let least = h.1 in let fits = h.4 in omega arith

begin_all : (from : ℕ) (ns : List ℕ) → AscendsIn from (2 ^ 32) ns → BeginAt from (blocks_of ns)
begin_all from [] up = tt
begin_all from (n ∷ ns) up = earlier (put_first n (blocks_of ns)) (begin_put n (blocks_of ns) up.1 (begin_all (n + 1) ns up.2))
  where
    earlier : (bs : List Numbered) → BeginAt n bs → BeginAt from bs
    earlier [] h = tt
    earlier (b ∷ bs) h = let first = up.0 in let least = h.1 in (h.0, omega arith, h.2, h.3, h.4, h.5, h.6)

begun : (bs : List Numbered) → BeginAt 0 bs → AreBlocks bs
begun [] h = tt
begun (b ∷ bs) h = (omega arith, h.2, h.3, ascends_earlier h.0 0 65536 b.numbers (omega arith) h.5, h.6)

-- ascending numbers in blocks are blocks of a set
pub blocks_whole : (ns : List ℕ) → AscendsIn 0 (2 ^ 32) ns → AreBlocks (blocks_of ns)
blocks_whole ns up = begun (blocks_of ns) (begin_all 0 ns up)

-- ---- what was written is read back

abbrev blocks_in : Result (List Numbered) FaultOf → List Numbered
blocks_in (Ok bs) = bs
blocks_in (Err _) = []

numbers_same : (bs : List Keyed) → numbers_in (all_numbered bs) ≡ set_numbers bs
numbers_same [] = refl
numbers_same (b ∷ bs) = ap (λ l. map (λ k. b.key * 65536 + k) b.block ++ l) (numbers_same bs)

-- blocks that were read and are those of numbers have these numbers
pub read_back : (bs : List Keyed) (ns : List ℕ) → ◌≡◌ {A = Result (List Numbered) FaultOf} (Ok (blocks_of ns)) (Ok (all_numbered bs)) → ns ≡ set_numbers bs
read_back bs ns is = sym (all_back ns) ∙ ap (λ r. numbers_in (blocks_in r)) is ∙ numbers_same bs

-- an error is none of blocks that were read, nor of their numbers
pub fails_read : (e : ReadError) (bs : List Numbered) (ns : List ℕ) → Fails {Y = List Numbered} e (Ok bs) → Fails {Y = List ℕ} e (Ok ns)
fails_read Memory bs ns h = tt
fails_read (Fault f) bs ns h = cc
