-- A list with others written over a part of it.
use Rattle.std.proofs.Common.{◌≡◌, ℕ, ◌+◌, ◌-◌, ◌<◌, ◌≤◌, Bool, false, List, [], ◌∷◌, ◌++◌, length, take, drop, set, replicate, get_or, sym, ◌∙◌, ap, arith}
use Rattle.std.proofs.lemmas.List.{places, same_lists, set_split, length-take, length-drop, length-append, take-append-drop}
use Rattle.std.proofs.Common.{add-one, add-zero, rules}
use Rattle.bit_addressing.specs.Row.{put, filled}

-- bits put into a list keep its length
pub length-put : (xs ys : List Bool) (d : ℕ) → d + length ys ≤ length xs → length (put xs d ys) ≡ length xs
unfolding put
length-put xs ys d h = simp (length-append, length-take, length-drop) (omega arith)

-- no bits put into a list change nothing
pub put_none : (xs : List Bool) (d : ℕ) → put xs d [] ≡ xs
unfolding put
put_none xs d = ap (λ n. take d xs ++ drop n xs) (add-zero d) ∙ take-append-drop d xs

-- setting a bit is putting a list of one bit
pub put_one : (xs : List Bool) (d : ℕ) (b : Bool) → d < length xs → set xs d b ≡ put xs d (b ∷ [])
unfolding put
put_one xs d b h = set_split xs d b h ∙ ap (λ n. take d xs ++ b ∷ drop n xs) (sym (add-one d))

-- both ends are filled
pub put_both : (xs : List Bool) (head len : ℕ) (b : Bool) → head + len ≤ length xs → put (put xs 0 (replicate head b)) (head + len) (replicate (length xs - (head + len)) b) ≡ filled xs head len b
unfolding put filled
put_both xs head len b h = same_lists _ _ (search (rules, places)) (λ i d below. grind (arith, places))

-- equal bits put before and after a part fill all but the part
pub put_ends : (xs : List Bool) (head len all : ℕ) (b : Bool) → all ≡ length xs → head + len ≤ length xs → put (put xs 0 (replicate (head - 0) b)) (head + len) (replicate (all - (head + len)) b) ≡ filled xs head len b
put_ends xs head len all b is h =
    let low : head - 0 ≡ head = omega arith in
    rw (low, is) (put_both xs head len b h)

-- a bit before the part that was put stays
pub put_before : (xs ys : List Bool) (d j : ℕ) (b : Bool) → d ≤ length xs → j < d → get_or (put xs d ys) j b ≡ get_or xs j b
unfolding put
put_before xs ys d j b h k = grind (arith, places)

-- a bit of the part that was put is that of the bits put there
pub put_inside : (xs ys : List Bool) (d j : ℕ) (b : Bool) → d ≤ length xs → d ≤ j → j < d + length ys → get_or (put xs d ys) j b ≡ get_or ys (j - d) b
unfolding put
put_inside xs ys d j b h k l = grind (arith, places)

-- a bit after the part that was put stays
pub put_after : (xs ys : List Bool) (d j : ℕ) (b : Bool) → d + length ys ≤ length xs → d + length ys ≤ j → get_or (put xs d ys) j b ≡ get_or xs j b
unfolding put
put_after xs ys d j b h k = grind (arith, places)

-- two runs that are put one after the other
pub put_joined : (xs ys zs : List Bool) (d n : ℕ) → n ≡ d + length ys → n + length zs ≤ length xs → put (put xs d ys) n zs ≡ put xs d (ys ++ zs)
unfolding put
put_joined xs ys zs d n is h = same_lists _ _ (search (rules, places)) (λ i b below. grind (arith, places))

-- items are appended, those from an index on are written over as far as the old ones go, and the last ones become false
pub run_appended : (xs : List Bool) (n end upto : ℕ) (b : Bool) → end ≤ length xs → length xs ≤ upto → upto ≤ length xs + n
    → put (put (xs ++ replicate n b) end (replicate (length xs - end) b)) upto (replicate (length xs + n - upto) false) ≡ put (xs ++ replicate n false) end (replicate (upto - end) b)
unfolding put
run_appended xs n end upto b within grown room = same_lists _ _ (search (rules, places)) (λ i d below. grind (arith, places))
