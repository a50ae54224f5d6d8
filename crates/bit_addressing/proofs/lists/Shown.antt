-- The part of a row that a container shows, and what calls make of it.
use Rattle.std.proofs.Common.{true, ◌≡◌, ℕ, zero, suc, ◌+◌, ◌-◌, ◌*◌, ◌<◌, ◌≤◌, Bool, false, not, List, [], ◌∷◌, ◌++◌, map, length, take, drop, set, replicate, get_or, slice_range, refl, sym, ◌∙◌, ap, arith}
use Rattle.std.proofs.lemmas.List.{places, same_lists, take_all, take_at, take-take, drop-append-le, append_assoc, length-take, length-take-le, length-drop, length-append, length-replicate, drop-set-add, take-map, drop-map}
use Rattle.std.proofs.lemmas.List.Edits.{between_more}
use Rattle.std.proofs.Common.{Some, None, slice_get}
use Rattle.std.proofs.lemmas.Option.{slice_get_read, slice_get_past}
use Rattle.std.proofs.lemmas.List.{get_or-take, get_or-drop, get_or_default}
use Rattle.std.proofs.Math.Nat.{mul-le-mul_left}
use Rattle.std.proofs.Common.{rules}
use Rattle.std.proofs.lemmas.Slice.{between_is}
use Rattle.bit_addressing.specs.Row.{words_for, put, sized, filled}
use Rattle.bit_addressing.proofs.lists.Sized.{room, length-sized, words_for_mono}

take-set-comm : (n : ℕ) (xs : List Bool) (i : ℕ) (b : Bool) → take n (set xs i b) ≡ set (take n xs) i b
take-set-comm zero [] i b = refl
take-set-comm zero (x ∷ xs) zero b = refl
take-set-comm zero (x ∷ xs) (suc i) b = refl
take-set-comm (suc n) [] i b = refl
take-set-comm (suc n) (x ∷ xs) zero b = refl
take-set-comm (suc n) (x ∷ xs) (suc i) b = ap (λ l. x ∷ l) (take-set-comm n xs i b)

-- what is grown by ys shows ys at its end
pub shows_put : (xs ys : List Bool) (head end : ℕ) → head ≤ end → end ≤ length xs → slice_range (put xs end ys) head (end + length ys) ≡ slice_range xs head end ++ ys
unfolding put
shows_put xs ys head end h k =
    let shown : List Bool = drop head (take end xs) in
    let size : length (shown ++ ys) ≡ end + length ys - head = simp (length-append, length-drop, length-take-le end xs k) (omega arith) in
    ap (take (end + length ys - head)) (drop-append-le head (take end xs) (ys ++ drop (end + length ys) xs) (rw (length-take-le end xs k) h) ∙ sym (append_assoc shown ys (drop (end + length ys) xs)))
    ∙ take_at (shown ++ ys) (drop (end + length ys) xs) (end + length ys - head) size
    ∙ ap (λ l. l ++ ys) (sym (between_is xs head end))

-- no item below b and below the old length is lost
pub shows_sized : (w : ℕ) (xs : List Bool) (b head end : ℕ) → 0 < w → head ≤ end → end ≤ length xs → end ≤ b → slice_range (sized w xs b) head end ≡ slice_range xs head end
unfolding sized
shows_sized w xs b head end positive h k l = let r = (room w b positive).0 in same_lists _ _ (search (rules, places)) (λ i d below. grind (arith, places))

-- filling all bits outside a part keeps the part
pub shows_filled : (xs : List Bool) (head len : ℕ) (b : Bool) → head + len ≤ length xs → slice_range (filled xs head len b) head (head + len) ≡ slice_range xs head (head + len)
unfolding filled
shows_filled xs head len b h = same_lists _ _ (search (rules, places)) (λ i d below. grind (arith, places))

-- setting a bit of a part sets it in the part
pub shows_set : (xs : List Bool) (head len i : ℕ) (b : Bool) → i < len → head + len ≤ length xs → slice_range (set xs (head + i) b) head (head + len) ≡ set (slice_range xs head (head + len)) i b
shows_set xs head len i b h k = ap (take (head + len - head)) (drop-set-add head xs i b) ∙ take-set-comm (head + len - head) (drop head xs) i b

-- a shorter part is the first bits of the longer one
pub shows_fewer : (xs : List Bool) (head n len : ℕ) → n ≤ len → head + len ≤ length xs → slice_range xs head (head + n) ≡ take n (slice_range xs head (head + len))
shows_fewer xs head n len h k =
    let a : head + n - head ≡ n = omega arith in
    let b : head + len - head ≡ len = omega arith in
    rw (a, b) (sym (take-take n len (drop head xs) h))

-- a part of a mapped list is the mapped part
pub shows_map : (f : Bool → Bool) (xs : List Bool) (head end : ℕ) → slice_range (map f xs) head end ≡ map f (slice_range xs head end)
shows_map f xs head end = ap (take (end - head)) (drop-map f head xs) ∙ take-map f (end - head) (drop head xs)

-- the length of a part is the distance of its ends
pub length-between : (xs : List Bool) (a b : ℕ) → b ≤ length xs → length (slice_range xs a b) ≡ b - a
length-between xs a b h = simp (length-take, length-drop) (omega arith)

-- the length of a part of len bits is len
pub length-run : (xs : List Bool) (head len : ℕ) → head + len ≤ length xs → length (slice_range xs head (head + len)) ≡ len
length-run xs head len h = simp (length-take, length-drop) (omega arith)

-- an item of a run
pub get_or-run : (xs : List Bool) (i n q : ℕ) → q < n → get_or (slice_range xs i (i + n)) q false ≡ get_or xs (i + q) false
get_or-run xs i n q h = get_or-take (i + n - i) (drop i xs) q false (omega arith) ∙ get_or-drop i xs q false

-- a part of what is shown
pub shown_part : (xs : List Bool) (head len s n : ℕ) → s + n ≤ len → head + len ≤ length xs → slice_range xs (head + s) (head + s + n) ≡ slice_range (slice_range xs head (head + len)) s (s + n)
shown_part xs head len s n h k = same_lists _ _ (search (rules, places)) (λ i d below. grind (arith, places))

-- a part of what is shown written over
pub shown_written : (xs ys : List Bool) (head len d : ℕ) → d + length ys ≤ len → head + len ≤ length xs → slice_range (put xs (head + d) ys) head (head + len) ≡ put (slice_range xs head (head + len)) d ys
unfolding put
shown_written xs ys head len d h k = same_lists _ _ (search (rules, places)) (λ i e below. grind (arith, places))

-- a bit of the row is that of the part at the index counted from the head
pub shows_some : (xs : List Bool) (head len i : ℕ) (b : Bool) → i < len → head + len ≤ length xs → b ≡ get_or xs (head + i) false → Some b ≡ slice_get (slice_range xs head (head + len)) i
shows_some xs head len i b h k is =
    let size = length-run xs head len k in
    let read : get_or (slice_range xs head (head + len)) i false ≡ get_or xs (head + i) false = get_or-take (head + len - head) (drop head xs) i false (omega arith) ∙ get_or-drop head xs i false in
    sym (slice_get_read (slice_range xs head (head + len)) len i b (sym size) h (is ∙ sym read ∙ get_or_default (slice_range xs head (head + len)) i false b (rw size h)))

-- an index from the length on has no bit
pub shows_none : (xs : List Bool) (head len i : ℕ) → len ≤ i → head + len ≤ length xs → None ≡ slice_get (slice_range xs head (head + len)) i
shows_none xs head len i h k = sym (slice_get_past (slice_range xs head (head + len)) i (rw (length-run xs head len k) h))

-- bits put after the part's end are appended to it
pub grown_shows : (w : ℕ) (xs ys : List Bool) (head len n : ℕ) → 0 < w → head + len ≤ length xs → n ≡ length ys → slice_range (put (sized w xs (head + len + n)) (head + len) ys) head (head + (len + n)) ≡ slice_range xs head (head + len) ++ ys
grown_shows w xs ys head len n positive h is =
    let e : head + (len + n) ≡ head + len + length ys = omega arith in
    let r = (room w (head + len + n) positive).0 in
    ap (slice_range (put (sized w xs (head + len + n)) (head + len) ys) head) e
    ∙ shows_put (sized w xs (head + len + n)) ys head (head + len) (omega arith) (rw (length-sized w xs (head + len + n)) (omega arith))
    ∙ ap (λ l. l ++ ys) (shows_sized w xs (head + len + n) head (head + len) positive (omega arith) h (omega arith))

-- a part cut to n bits is its first n
pub shrunk_shows : (w : ℕ) (xs : List Bool) (head len n : ℕ) → 0 < w → n ≤ len → head + len ≤ length xs → slice_range (sized w xs (head + n)) head (head + n) ≡ take n (slice_range xs head (head + len))
shrunk_shows w xs head len n positive h k = shows_sized w xs (head + n) head (head + n) positive (omega arith) (omega arith) (omega arith) ∙ shows_fewer xs head n len h k

-- a row with its dead bits cleared is that of its list alone
pub canonical_row : (w : ℕ) (xs : List Bool) (len : ℕ) → 0 < w → length xs ≡ w * words_for w (0 + len) → filled xs 0 len false ≡ sized w (slice_range xs 0 (0 + len)) (0 + len)
unfolding filled sized
canonical_row w xs len positive size =
    let r = (room w (0 + len) positive).0 in
    let short : length (slice_range xs 0 (0 + len)) ≡ 0 + len = length-run xs 0 len (omega arith) ∙ omega arith in
    rw (short, take_all (w * words_for w (0 + len)) (slice_range xs 0 (0 + len)) (omega arith), size) refl

-- a bit appended to a list and then false
pub sized_joined : (w : ℕ) (bits : List Bool) (len : ℕ) (b : Bool) → 0 < w → length bits ≡ len → put (sized w (sized w bits len) (0 + len + 1)) (0 + len) (b ∷ []) ≡ sized w (bits ++ b ∷ []) (len + 1)
unfolding put sized
sized_joined w bits len b positive size =
    let r = (room w len positive).0 in
    let s = (room w (len + 1) positive).0 in
    let more : w * words_for w len ≤ w * words_for w (len + 1) = mul-le-mul_left w (words_for_mono w len (len + 1) positive (omega arith)) in
    let next : 0 + len + 1 ≡ len + 1 = omega arith in
    rw next (same_lists _ _ (search (rules, places)) (λ i d below. grind (arith, places)))

-- equal bits put after the part's end resize the list
pub resized_shows : (w : ℕ) (xs : List Bool) (head len n : ℕ) (b : Bool) → 0 < w → head + len ≤ length xs → len < n → slice_range (put (sized w xs (head + n)) (head + len) (replicate (head + n - (head + len)) b)) head (head + n) ≡ take n (slice_range xs head (head + len)) ++ replicate (n - len) b
resized_shows w xs head len n b positive h k =
    let more : head + n - (head + len) ≡ n - len = omega arith in
    let end : head + n ≡ head + len + (n - len) = omega arith in
    let whole : head + n ≡ head + (len + (n - len)) = omega arith in
    ap (λ m. slice_range (put (sized w xs (head + n)) (head + len) (replicate m b)) head (head + n)) more
    ∙ ap (λ m. slice_range (put (sized w xs m) (head + len) (replicate (n - len) b)) head (head + n)) end
    ∙ ap (slice_range (put (sized w xs (head + len + (n - len))) (head + len) (replicate (n - len) b)) head) whole
    ∙ grown_shows w xs (replicate (n - len) b) head len (n - len) positive h (sym (length-replicate (n - len) b))
    ∙ ap (λ l. l ++ replicate (n - len) b) (sym (take_all n (slice_range xs head (head + len)) (rw (length-run xs head len h) (omega arith))))

-- a part is the part without its last bit, and that bit
pub popped_shows : (w : ℕ) (xs : List Bool) (head len : ℕ) (b : Bool) → 0 < w → 0 < len → head + len ≤ length xs → b ≡ get_or xs (head + (len - 1)) false → slice_range xs head (head + len) ≡ slice_range (sized w xs (head + (len - 1))) head (head + (len - 1)) ++ b ∷ []
popped_shows w xs head len b positive some h is =
    let last : head + len ≡ head + (len - 1) + 1 = omega arith in
    ap (slice_range xs head) last
    ∙ between_more xs head (head + (len - 1)) false (omega arith) (omega arith)
    ∙ ap (λ x. slice_range xs head (head + (len - 1)) ++ x ∷ []) (sym is)
    ∙ ap (λ l. l ++ b ∷ []) (sym (shows_sized w xs (head + (len - 1)) head (head + (len - 1)) positive (omega arith) (omega arith) (omega arith)))

-- flipping each bit twice changes nothing
pub flipped_twice : (xs : List Bool) → map not (map not xs) ≡ xs
flipped_twice [] = refl
flipped_twice (true ∷ xs) = ap (λ l. true ∷ l) (flipped_twice xs)
flipped_twice (false ∷ xs) = ap (λ l. false ∷ l) (flipped_twice xs)

-- a part of another row put after the part's end is appended to it
pub joined_shows : (w : ℕ) (xs ys : List Bool) (head len from n : ℕ) → 0 < w → head + len ≤ length xs → from + n ≤ length ys → slice_range (put (sized w xs (head + (len + n))) (head + len) (slice_range ys from (from + n))) head (head + (len + n)) ≡ slice_range xs head (head + len) ++ slice_range ys from (from + n)
joined_shows w xs ys head len from n positive h k =
    let size = length-run ys from n k in
    let end : head + (len + n) ≡ head + len + n = omega arith in
    ap (λ e. slice_range (put (sized w xs e) (head + len) (slice_range ys from (from + n))) head (head + (len + n))) end
    ∙ grown_shows w xs (slice_range ys from (from + n)) head len n positive h (sym size)
