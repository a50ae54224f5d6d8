-- Runs of a row, item by item: what a view shows and what an iterator has left.
use Rattle.std.proofs.Common.{◌≡◌, ℕ, suc, ◌+◌, ◌-◌, ◌<◌, ◌≤◌, Bool, false, not, List, [], ◌∷◌, ◌++◌, length, take, drop, set, get_or, slice_range, count_by, refl, sym, ◌∙◌, ap, arith, swap}
use Rattle.std.proofs.lemmas.List.{drop_more, take_all, length-set, get_or-take, get_or-drop}
use Rattle.std.proofs.lemmas.List.Edits.{between_more, swap_is}
use Rattle.bit_addressing.specs.Row.{put, moved}
use Rattle.bit_addressing.proofs.lists.Shown.{shows_put, shows_set}
use Rattle.bit_addressing.proofs.lists.Shown.{length-between, length-run}
use Rattle.bit_addressing.proofs.Shifts.{put_moved}
use Rattle.bit_addressing.proofs.lists.Put.{length-put}
use Rattle.bit_slice.proofs.Rules.{zeros_and_ones}

-- ---- what an iterator has left

-- a part whose ends have met is empty
pub run_none : (xs : List Bool) (from upto : ℕ) → upto ≤ from → slice_range xs from upto ≡ []
run_none xs from upto h = let e : upto - from ≡ 0 = omega arith in ap (λ n. take n (drop from xs)) e

-- a part is its first bit and the rest
pub run_first : (xs : List Bool) (from upto : ℕ) (b : Bool) → from < upto → upto ≤ length xs → b ≡ get_or xs from false → slice_range xs from upto ≡ b ∷ slice_range xs (from + 1) upto
run_first xs from upto b h k is =
    let e : upto - from ≡ suc (upto - (from + 1)) = omega arith in
    ap (λ n. take n (drop from xs)) e ∙ ap (take (suc (upto - (from + 1)))) (drop_more xs from false (omega arith)) ∙ ap (λ x. x ∷ slice_range xs (from + 1) upto) (sym is)

-- a part is all but its last bit, and that bit
pub run_last : (xs : List Bool) (from upto : ℕ) (b : Bool) → from < upto → upto ≤ length xs → b ≡ get_or xs (upto - 1) false → slice_range xs from upto ≡ slice_range xs from (upto - 1) ++ b ∷ []
run_last xs from upto b h k is =
    let e : upto ≡ upto - 1 + 1 = omega arith in
    ap (slice_range xs from) e ∙ between_more xs from (upto - 1) false (omega arith) (omega arith) ∙ ap (λ x. slice_range xs from (upto - 1) ++ x ∷ []) (sym is)

-- ---- what a view shows

-- a bit of the row from the head on is the list's
pub shown_item : (xs : List Bool) (head len i : ℕ) (b : Bool) → i < len → head + len ≤ length xs → b ≡ get_or xs (head + i) false → b ≡ get_or (slice_range xs head (head + len)) i false
shown_item xs head len i b h k is = is ∙ sym (get_or-take (head + len - head) (drop head xs) i false (omega arith) ∙ get_or-drop head xs i false)

-- a view of the whole row shows it all
pub shown_all : (xs : List Bool) (len : ℕ) → len ≡ length xs → slice_range xs 0 (0 + len) ≡ xs
shown_all xs len is = take_all (0 + len - 0) xs (omega arith)

-- a list put over the whole part is what it shows
pub shown_filled : (xs ys : List Bool) (head len : ℕ) → len ≡ length ys → head + len ≤ length xs → slice_range (put xs head ys) head (head + len) ≡ ys
shown_filled xs ys head len is h =
    ap (λ n. slice_range (put xs head ys) head (head + n)) is ∙ shows_put xs ys head head (omega arith) (omega arith) ∙ ap (λ l. l ++ ys) (run_none xs head head (omega arith))

-- two items change places
pub shown_swapped : (xs : List Bool) (head len i j : ℕ) → i < len → j < len → head + len ≤ length xs → slice_range (swap xs (head + i) (head + j)) head (head + len) ≡ swap (slice_range xs head (head + len)) i j
shown_swapped xs head len i j h k room =
    let list : List Bool = slice_range xs head (head + len) in
    let size : length list ≡ head + len - head = length-between xs head (head + len) room in
    let a : get_or list i false ≡ get_or xs (head + i) false = sym (shown_item xs head len i (get_or xs (head + i) false) h room refl) in
    let b : get_or list j false ≡ get_or xs (head + j) false = sym (shown_item xs head len j (get_or xs (head + j) false) k room refl) in
    let one : List Bool = set xs (head + i) (get_or xs (head + j) false) in
    let long : length one ≡ length xs = length-set xs (head + i) (get_or xs (head + j) false) in
    ap (λ l. slice_range l head (head + len)) (sym (swap_is xs (head + i) (head + j) false (omega arith) (omega arith)))
    ∙ shows_set one head len j (get_or xs (head + i) false) k (omega arith)
    ∙ ap (λ l. set l j (get_or xs (head + i) false)) (shows_set xs head len i (get_or xs (head + j) false) h room)
    ∙ ap (λ x. set (set list i x) j (get_or xs (head + i) false)) (sym b) ∙ ap (λ x. set (set list i (get_or list j false)) j x) (sym a)
    ∙ swap_is list i j false (omega arith) (omega arith)

-- ---- counts

-- what isn't true is false
pub count_by-not : (xs : List Bool) (n ones : ℕ) → n ≡ length xs → ones ≡ count_by (λ b. b) xs → n - ones ≡ count_by not xs
count_by-not xs n ones is counted = omega (arith, zeros_and_ones xs)

-- what is put over the whole of a list
pub put_all : (xs ys : List Bool) (d : ℕ) → d ≡ 0 → length ys ≡ length xs → put xs d ys ≡ ys
put_all xs ys d z e =
    let in_all : 0 + length ys ≤ length xs = omega (arith, e) in
    ap (λ k. put xs k ys) z ∙ sym (shown_all (put xs 0 ys) (length ys) (e ∙ sym (length-put xs ys 0 in_all))) ∙ shown_filled xs ys 0 (length ys) refl in_all

-- what stands where a run was moved to
pub moved_lands : (xs : List Bool) (s d n : ℕ) → s + n ≤ length xs → d + n ≤ length xs → slice_range (moved xs s d n) d (d + n) ≡ slice_range xs s (s + n)
moved_lands xs s d n from to =
    let ys : List Bool = slice_range xs s (s + n) in
    ap (λ l. slice_range l d (d + n)) (sym (put_moved xs s d n from to)) ∙ shown_filled xs ys d n (sym (length-run xs s n from)) to
