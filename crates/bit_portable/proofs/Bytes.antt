-- Lengths of bytes, and parts of lists.
use Rattle.std.proofs.Common.{◌≡◌, ℕ, zero, suc, ◌+◌, ◌*◌, ◌/◌, ◌-◌, ◌<◌, ◌≤◌, min, List, [], ◌∷◌, ◌++◌, Bool, take, drop, length, refl, sym, ◌∙◌, ap, append_assoc, arith, length-append, length-drop}
use Rattle.std.proofs.lemmas.List.{append-nil, drop-drop, drop_min, take_min}
use Rattle.std.specs.List.{flat_map}
use Rattle.bit_blocks.specs.declared.ranged.Run.{Run}
use Rattle.bit_portable.specs.declared.stored.Part.{Part}
use Rattle.bit_portable.specs.Stored.{pieces_lent, two, eight, run_bytes}
use Rattle.bit_portable.specs.Form.{digits, flag_bytes, heads_of, run_flags}

-- lists of bytes that all have one length
pub even_lengths : {X : Type 0} (f : X → List ℕ) (n : ℕ) (each : (x : X) → length (f x) ≡ n) (xs : List X) → length (flat_map f xs) ≡ n * length xs
even_lengths f n each [] = omega arith
even_lengths f n each (x ∷ xs) = let here = each x in let rest = even_lengths f n each xs in omega (arith, length-append (f x) (flat_map f xs))

pub numbers_length : (xs : List ℕ) → length (flat_map two xs) ≡ 2 * length xs
numbers_length xs = even_lengths two 2 (λ x. refl) xs

pub words_length : (xs : List ℕ) → length (flat_map eight xs) ≡ 8 * length xs
words_length xs = even_lengths eight 8 (λ x. refl) xs

pub runs_length : (xs : List Run) → length (flat_map run_bytes xs) ≡ 4 * length xs
runs_length xs = even_lengths run_bytes 4 (λ x. refl) xs

-- which blocks are stored as runs
abbrev pub block_flags : List Part → List Bool
block_flags bs = run_flags (heads_of (pieces_lent bs))

pub flags_taken : (n : ℕ) (bs : List Part) → take n (block_flags bs) ≡ block_flags (take n bs)
flags_taken zero bs = refl
flags_taken (suc n) [] = refl
flags_taken (suc n) (b ∷ bs) = ap (λ (fs : List Bool). b.head.as_runs ∷ fs) (flags_taken n bs)

pub flags_dropped : (n : ℕ) (bs : List Part) → drop n (block_flags bs) ≡ block_flags (drop n bs)
flags_dropped zero bs = refl
flags_dropped (suc n) [] = refl
flags_dropped (suc n) (b ∷ bs) = flags_dropped n bs

-- one byte of flags more
one_byte_more : (front total : List ℕ) (bs : List Part) (byte : ℕ) → 0 < length bs → byte ≡ digits (block_flags (take 8 bs))
    → front ++ flag_bytes ((length bs + 7) / 8) (block_flags bs) ≡ total
    → (front ++ byte ∷ []) ++ flag_bytes ((length (drop 8 bs) + 7) / 8) (block_flags (drop 8 bs)) ≡ total
one_byte_more front total bs byte some is so_far =
    let m = (length (drop 8 bs) + 7) / 8 in
    let count : (length bs + 7) / 8 ≡ suc m = omega (arith, length-drop 8 bs) in
    let first : byte ≡ digits (take 8 (block_flags bs)) = is ∙ ap digits (sym (flags_taken 8 bs)) in
    append_assoc front (byte ∷ []) (flag_bytes m (block_flags (drop 8 bs)))
    ∙ ap (λ (fs : List Bool). front ++ (byte ∷ flag_bytes m fs)) (sym (flags_dropped 8 bs))
    ∙ ap (λ (b : ℕ). front ++ (b ∷ flag_bytes m (drop 8 (block_flags bs)))) first
    ∙ ap (λ (n : ℕ). front ++ flag_bytes n (block_flags bs)) (sym count)
    ∙ so_far

-- no flags are left
no_byte_more : (front total : List ℕ) (bs : List Part) → length bs ≡ 0 → front ++ flag_bytes ((length bs + 7) / 8) (block_flags bs) ≡ total → front ≡ total
no_byte_more front total [] none so_far = sym (append-nil front) ∙ so_far
no_byte_more front total (b ∷ bs) none so_far = absurd (omega arith)

-- the flags of the blocks before block i were appended
pub record FlagsTo (front out : List ℕ) (bs : List Part) (i : ℕ) : Type 0 where
  pub within : i ≤ length bs
  pub so_far : out ++ flag_bytes ((length (drop i bs) + 7) / 8) (block_flags (drop i bs)) ≡ front ++ flag_bytes ((length bs + 7) / 8) (block_flags bs)

pub flags_begun : (front : List ℕ) (bs : List Part) → FlagsTo front front bs 0
flags_begun front [] = record { within = omega arith; so_far = refl }
flags_begun front (b ∷ bs) = record { within = omega arith; so_far = refl }

-- up to eight of the next blocks
pub flags_next : (front out new : List ℕ) (bs part : List Part) (i n byte : ℕ) → FlagsTo front out bs i → i < length bs → n ≡ min 8 (length bs - i) → part ≡ take n (drop i bs) → byte ≡ digits (block_flags part)
    → new ≡ out ++ byte ∷ [] → FlagsTo front new bs (i + n)
flags_next front out new bs part i n byte g inside count is value pushed =
    let rest = drop i bs in
    let size = length-drop i bs in
    let few : n ≡ min 8 (length rest) = omega arith in
    let taken : part ≡ take 8 rest = is ∙ ap (λ (m : ℕ). take m rest) few ∙ take_min 8 rest in
    let after : drop (i + n) bs ≡ drop 8 rest = sym (drop-drop n i bs) ∙ ap (λ (m : ℕ). drop m rest) few ∙ drop_min 8 rest in
    let more = one_byte_more out (front ++ flag_bytes ((length bs + 7) / 8) (block_flags bs)) rest byte (omega arith) (value ∙ ap (λ (ps : List Part). digits (block_flags ps)) taken) g.so_far in
    record {
      within = omega arith;
      so_far = ap (λ (l : List ℕ). l ++ flag_bytes ((length (drop (i + n) bs) + 7) / 8) (block_flags (drop (i + n) bs))) pushed
          ∙ ap (λ (ps : List Part). (out ++ byte ∷ []) ++ flag_bytes ((length ps + 7) / 8) (block_flags ps)) after ∙ more;
    }

pub flags_done : (front out : List ℕ) (bs : List Part) (i : ℕ) → FlagsTo front out bs i → length bs ≤ i → out ≡ front ++ flag_bytes ((length bs + 7) / 8) (block_flags bs)
flags_done front out bs i g past = no_byte_more out (front ++ flag_bytes ((length bs + 7) / 8) (block_flags bs)) (drop i bs) (let size = length-drop i bs in omega arith) g.so_far
