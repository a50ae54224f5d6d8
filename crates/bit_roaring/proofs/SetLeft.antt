-- What an iterator over the numbers of a set has left after a step.
use Rattle.std.proofs.Common.{◌≡◌, ℕ, zero, suc, ◌+◌, ◌*◌, ◌<◌, ◌≤◌, List, [], ◌∷◌, ◌++◌, append_assoc, append-nil, get_or, length, map, take, drop, refl, sym, ◌∙◌, ap, subst, arith}
use Rattle.std.specs.Prelude.{All, ◌-◌}
use Rattle.std.proofs.iter.runs.Sources.{from_front, from_back, as_is, as_is_back}
use Rattle.std.specs.Iterator.{YieldsFirst, YieldsLast}
use Rattle.std.specs.Iterator.Runs.{YieldsInOrder, YieldsInReverse}
use Rattle.bit_blocks.specs.declared.keyed.Keyed.{Keyed}
use Rattle.bit_roaring.specs.Keyed.{AreKeyed, AreKeyedFrom, keyed_numbers, set_numbers}
use Rattle.bit_roaring.specs.SetLeft.{set_left}

-- a block with a key, that is not empty
abbrev pub IsFull : Keyed → Type 0
IsFull b = (b.key < 65536) × (0 < length b.block)

full_from : (from : ℕ) (bs : List Keyed) → AreKeyedFrom from bs → All IsFull bs
full_from from [] h k d inside = absurd (omega arith)
full_from from (b ∷ bs) h zero d inside = (h.1, h.3)
full_from from (b ∷ bs) h (suc k) d inside = full_from (b.key + 1) bs h.4 k d (omega arith)

-- no block of a set is empty
pub all_full : (bs : List Keyed) → AreKeyed bs → All IsFull bs
all_full bs h = full_from 0 bs h

taken_all : (l : List Keyed) (n : ℕ) → length l ≤ n → take n l ≡ l
taken_all [] zero past = refl
taken_all [] (suc n) past = refl
taken_all (r ∷ l) zero past = absurd (omega arith)
taken_all (r ∷ l) (suc n) past = ap (λ m. r ∷ m) (taken_all l n (omega arith))

-- nor is one of those after the first
pub rest_full : (bs : List Keyed) → All IsFull bs → All IsFull (take (length bs - 1) (drop 1 bs))
rest_full [] h = h
rest_full (b ∷ bs) h = subst (All IsFull) (sym (taken_all bs (suc (length bs) - 1) (omega arith))) (λ k d inside. h (suc k) d (omega arith))

-- an iterator that begins has no block from the back
pub nothing_after : (base : ℕ) (xs ys : List ℕ) → ys ≡ [] → xs ++ map (λ k. base + k) ys ≡ xs
nothing_after base xs ys none = ap (λ l. xs ++ map (λ k. base + k) l) none ∙ append-nil xs

map_end : (base : ℕ) (xs : List ℕ) (k : ℕ) → map (λ n. base + n) (xs ++ k ∷ []) ≡ map (λ n. base + n) xs ++ (base + k) ∷ []
map_end base [] k = refl
map_end base (x ∷ xs) k = ap (λ l. (base + x) ∷ l) (map_end base xs k)

last_block : (bs : List Keyed) (n : ℕ) (d : Keyed) → length bs ≡ suc n → set_numbers bs ≡ set_numbers (take n bs) ++ keyed_numbers (get_or bs n d)
last_block [] n d size = absurd (omega arith)
last_block (b ∷ []) zero d size = append-nil (keyed_numbers b)
last_block (b ∷ []) (suc n) d size = absurd (omega arith)
last_block (b ∷ (a ∷ bs)) zero d size = absurd (omega arith)
last_block (b ∷ (a ∷ bs)) (suc n) d size = ap (λ l. keyed_numbers b ++ l) (last_block (a ∷ bs) n d (omega arith)) ∙ sym (append_assoc (keyed_numbers b) (set_numbers (take n (a ∷ bs))) (keyed_numbers (get_or (a ∷ bs) n d)))

-- the last block is begun from the back, where nothing is left of the one after it
pub previous_block : (front : List ℕ) (bs : List Keyed) (n base : ℕ) (d : Keyed) (gone left : List ℕ) (low : ℕ) → length bs ≡ suc n → gone ≡ [] → (get_or bs n d).block ≡ left ++ low ∷ []
    → front ++ (set_numbers bs ++ map (λ k. base + k) gone) ≡ (front ++ (set_numbers (take n bs) ++ map (λ k. (get_or bs n d).key * 65536 + k) left)) ++ ((get_or bs n d).key * 65536 + low) ∷ []
previous_block front bs n base d gone left low size none is =
    let key = (get_or bs n d).key * 65536 in
    let rest = set_numbers (take n bs) in
    let more = map (λ k. key + k) left in
    ap (λ l. front ++ l) (nothing_after base (set_numbers bs) gone none ∙ last_block bs n d size ∙ ap (λ l. rest ++ map (λ k. key + k) l) is ∙ ap (λ l. rest ++ l) (map_end key left low) ∙ sym (append_assoc rest more ((key + low) ∷ [])))
    ∙ sym (append_assoc front (rest ++ more) ((key + low) ∷ []))

-- ---- runs of calls

-- the iterator gives the numbers in order
pub set_runs : YieldsInOrder (YieldsFirst set_left) set_left
set_runs p s = as_is p (set_left p.from) (from_front (YieldsFirst set_left) (λ k. k) set_left (λ s t h. ap length h.0) (λ s x t h. h) p s)

-- the iterator gives them from the back in reverse
pub set_runs_back : YieldsInReverse (YieldsLast set_left) set_left
set_runs_back p s = as_is_back p (set_left p.from) (from_back (YieldsLast set_left) (λ k. k) set_left (λ s t h. ap length h.0) (λ s x t h. h) p s)
