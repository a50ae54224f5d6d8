-- Blocks that have a form: their order, and how many bytes they take.
use Rattle.std.proofs.Common.{◌≡◌, ℕ, zero, suc, ◌+◌, ◌-◌, ◌≤◌, List, [], ◌∷◌, length, length-append, All, refl, arith}
use Rattle.std.proofs.lemmas.List.FromFn.{length-range_with_len}
use Rattle.bit_blocks.specs.declared.ranged.Run.{Run}
use Rattle.bit_blocks.specs.Runs.{AreRunsFrom, numbers_of_run, run_numbers}
use Rattle.bit_blocks.proofs.Runs.{few_runs}
use Rattle.bit_portable.specs.declared.stored.Head.{Head}
use Rattle.bit_portable.specs.declared.stored.Part.{Part}
use Rattle.bit_portable.specs.Stored.{IsPiece, IsWritable, piece_lent, pieces_lent, Content, Numbers, Words, Runs, Holds, run_total}

-- the facts of each item but the first
pub of_rest : {X : Type 0} (P : X → Type 0) (x : X) (xs : List X) → All P (x ∷ xs) → All P xs
of_rest P x xs h k d inside = h (suc k) d (omega arith)

-- as many numbers as the runs say
pub total_numbers : (rs : List Run) → run_total rs ≡ length (run_numbers rs)
total_numbers [] = refl
total_numbers (r ∷ rs) = let here = length-range_with_len r.first (r.last + 1 - r.first) in let rest = total_numbers rs in omega (arith, length-append (numbers_of_run r) (run_numbers rs))

pub runs_ordered : (from : ℕ) (rs : List Run) → AreRunsFrom from rs → All (λ r. r.first ≤ r.last) rs
runs_ordered from [] h k d inside = absurd (omega arith)
runs_ordered from (r ∷ rs) h zero d inside = h.1
runs_ordered from (r ∷ rs) h (suc k) d inside = runs_ordered (r.last + 2) rs h.3 k d (omega arith)

pub is_writable : (h : Head) (c : Content) → Holds h c → IsWritable c
is_writable h (Numbers xs) holds = let few = holds.1 in let size = holds.2 in omega arith
is_writable h (Words ws) holds = let size = holds.2 in omega arith
is_writable h (Runs rs) holds = let few = few_runs 0 rs (omega arith) holds.2 in (omega arith, runs_ordered 0 rs holds.2)

-- the facts of blocks without where they lie in memory
pub all_pieces : (bs : List Part) → All IsPiece (pieces_lent bs) → All (λ s. IsPiece (piece_lent s)) bs
all_pieces [] h k d inside = absurd (omega arith)
all_pieces (b ∷ bs) h zero d inside = h 0 (piece_lent b) (omega arith)
all_pieces (b ∷ bs) h (suc k) d inside = all_pieces bs (of_rest IsPiece (piece_lent b) (pieces_lent bs) h) k d (omega arith)
