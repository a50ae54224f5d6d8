-- Two runs of bits made into one.
use Rattle.std.proofs.Common.{◌≡◌, ℕ, ◌+◌, ◌-◌, ◌*◌, ◌<◌, ◌≤◌, Bool, false, List, [], ◌∷◌, ◌++◌, length, map, set, get_or, drop, slice_range, refl, sym, ◌∙◌, ap, arith, rules}
use Rattle.std.specs.Simd.Lanes.{zip2}
use Rattle.std.proofs.lemmas.List.{ext_get_or, get_or-take, get_or-drop, take_all, places, same_lists}
use Rattle.std.proofs.lemmas.Simd.{get_or-zip2, length-zip2}
use Rattle.bit_addressing.specs.Bits.{has_bit}
use Rattle.bit_addressing.specs.Order.{IsPermutation}
use Rattle.bit_addressing.specs.Row.{row_of, put}
use Rattle.bit_addressing.proofs.lists.Put.{put_none, put_joined}
use Rattle.bit_addressing.proofs.Runs.{mul_mono, slices_joined}
use Rattle.bit_addressing.proofs.Typed.{length_row, row_replaced, row_whole}
use Rattle.bit_addressing.proofs.lists.Sized.{one_more_word}
use Rattle.bit_rows.proofs.Wholes.{split_sum}
use Rattle.bit_addressing.proofs.Rows.{length-row_of, get_or-row_one}
use Rattle.bit_addressing.proofs.lists.Shown.{length-between}

-- combining two lists in two pieces is combining them whole
pub zip2-append : (f : Bool → Bool → Bool) (xs us ys vs : List Bool) → length xs ≡ length ys → zip2 f (xs ++ us) (ys ++ vs) ≡ zip2 f xs ys ++ zip2 f us vs
zip2-append f [] us [] vs h = refl
zip2-append f [] us (y ∷ ys) vs h = cc
zip2-append f (x ∷ xs) us [] vs h = cc
zip2-append f (x ∷ xs) us (y ∷ ys) vs h = ap (λ l. f x y ∷ l) (zip2-append f xs us ys vs (omega arith))

-- after what was put the list is as it was
pub put_later : (xs ys : List Bool) (d a b : ℕ) → d ≤ length xs → d + length ys ≤ a → a ≤ b → b ≤ length xs → slice_range (put xs d ys) a b ≡ slice_range xs a b
unfolding put
put_later xs ys d a b h k l n = same_lists _ _ (search (rules, places)) (λ i e below. grind (arith, places))

-- a run of a word that was made of two
pub run_combined : (f : Bool → Bool → Bool) (place : ℕ → ℕ → ℕ) (w old new v low high : ℕ) → 0 < w → IsPermutation w (place w) → high ≤ w → ((p : ℕ) → p < w → has_bit v p ≡ f (has_bit old p) (has_bit new p))
    → slice_range (row_of place w (v ∷ [])) low high ≡ zip2 f (slice_range (row_of place w (old ∷ [])) low high) (slice_range (row_of place w (new ∷ [])) low high)
run_combined f place w old new v low high positive lawful fits made =
    let one : ℕ → List Bool = λ (x : ℕ). row_of place w (x ∷ []) in
    let size : (x : ℕ) → length (row_of place w (x ∷ [])) ≡ w * 1 = λ x. length-row_of place w (x ∷ []) in
    let sv : length (slice_range (row_of place w (v ∷ [])) low high) ≡ high - low = length-between (row_of place w (v ∷ [])) low high (omega (arith, size v)) in
    let so : length (slice_range (row_of place w (old ∷ [])) low high) ≡ high - low = length-between (row_of place w (old ∷ [])) low high (omega (arith, size old)) in
    let sn : length (slice_range (row_of place w (new ∷ [])) low high) ≡ high - low = length-between (row_of place w (new ∷ [])) low high (omega (arith, size new)) in
    let both = length-zip2 f (slice_range (row_of place w (old ∷ [])) low high) (slice_range (row_of place w (new ∷ [])) low high) (so ∙ sym sn) in
    let read : (x i : ℕ) → i < high - low → get_or (slice_range (row_of place w (x ∷ [])) low high) i false ≡ has_bit x (place w (low + i)) =
    λ x i h. get_or-take (high - low) (drop low (row_of place w (x ∷ []))) i false h ∙ get_or-drop low (row_of place w (x ∷ [])) i false ∙ get_or-row_one place w x (low + i) positive (omega arith) in
    ext_get_or false _ _ (sv ∙ sym (both ∙ so))
    (λ i h.
    let inside : i < high - low = omega arith in
    read v i inside ∙ made (place w (low + i)) (lawful.in_range (low + i) (omega arith))
    ∙ ap (λ b. f b (has_bit new (place w (low + i)))) (sym (read old i inside)) ∙ ap (f (get_or (slice_range (row_of place w (old ∷ [])) low high) i false)) (sym (read new i inside))
    ∙ sym (get_or-zip2 f (slice_range (row_of place w (old ∷ [])) low high) (slice_range (row_of place w (new ∷ [])) low high) i false false false (omega arith) (omega arith)))

-- combining no bits changes nothing
pub combined_none : (f : Bool → Bool → Bool) (xs zs : List Bool) (at from n : ℕ) → n ≡ 0 → xs ≡ put xs at (zip2 f (slice_range xs at (at + n)) (slice_range zs from (from + n)))
combined_none f xs zs at from n none =
    let a : at + n - at ≡ 0 = omega arith in
    rw a (sym (put_none xs at))

-- all of a word that was made of two
pub word_combined : (f : Bool → Bool → Bool) (place : ℕ → ℕ → ℕ) (w old new v : ℕ) → 0 < w → IsPermutation w (place w) → ((p : ℕ) → p < w → has_bit v p ≡ f (has_bit old p) (has_bit new p)) → row_of place w (v ∷ []) ≡ zip2 f (row_of place w (old ∷ [])) (row_of place w (new ∷ []))
word_combined f place w old new v positive lawful made =
    let all : (x : ℕ) → slice_range (row_of place w (x ∷ [])) 0 w ≡ row_of place w (x ∷ []) = λ x. (let size : length (row_of place w (x ∷ [])) ≡ w * 1 = length-row_of place w (x ∷ []) in take_all (w - 0) (row_of place w (x ∷ [])) (omega arith)) in
    sym (all v) ∙ run_combined f place w old new v 0 w positive lawful (omega arith) made ∙ ap (λ l. zip2 f l (slice_range (row_of place w (new ∷ [])) 0 w)) (all old) ∙ ap (zip2 f (row_of place w (old ∷ []))) (all new)

-- combining no whole words changes nothing
pub combined_whole_none : (f : Bool → Bool → Bool) (xs zs : List Bool) (w from first : ℕ) → xs ≡ put xs (first * w) (zip2 f (slice_range xs (first * w) (first * w)) (slice_range zs from (from + (first - first) * w)))
combined_whole_none f xs zs w from first =
    let none : first * w - first * w ≡ 0 = omega arith in
    rw none (sym (put_none xs (first * w)))

-- the run that follows is made of two
pub combined_next : (f : Bool → Bool → Bool) (xs cur zs one : List Bool) (at p q from a upto : ℕ) → at ≤ p → p ≤ q → q ≤ length xs → a ≡ from + (p - at) → upto ≡ from + (q - at) → upto ≤ length zs
    → cur ≡ put xs at (zip2 f (slice_range xs at p) (slice_range zs from a))
    → one ≡ zip2 f (slice_range cur p q) (slice_range zs a upto)
    → put cur p one ≡ put xs at (zip2 f (slice_range xs at q) (slice_range zs from upto))
combined_next f xs cur zs one at p q from a upto ordered further inside ea eu long so_far is =
    let left : length (slice_range xs at p) ≡ p - at = length-between xs at p (omega arith) in
    let right : length (slice_range zs from a) ≡ p - at = length-between zs from a (omega arith) ∙ omega arith in
    let done : length (zip2 f (slice_range xs at p) (slice_range zs from a)) ≡ p - at = length-zip2 f (slice_range xs at p) (slice_range zs from a) (left ∙ sym right) ∙ left in
    let here : slice_range cur p q ≡ slice_range xs p q = ap (λ l. slice_range l p q) so_far ∙ put_later xs (zip2 f (slice_range xs at p) (slice_range zs from a)) at p q (omega arith) (omega arith) further inside in
    let piece : one ≡ zip2 f (slice_range xs p q) (slice_range zs a upto) = is ∙ ap (λ l. zip2 f l (slice_range zs a upto)) here in
    let more_left : length (slice_range xs p q) ≡ q - p = length-between xs p q inside in
    let more_right : length (slice_range zs a upto) ≡ q - p = length-between zs a upto long ∙ omega arith in
    let added : length (zip2 f (slice_range xs p q) (slice_range zs a upto)) ≡ q - p = length-zip2 f (slice_range xs p q) (slice_range zs a upto) (more_left ∙ sym more_right) ∙ more_left in
    ap (λ l. put l p one) so_far
    ∙ ap (put (put xs at (zip2 f (slice_range xs at p) (slice_range zs from a))) p) piece
    ∙ put_joined xs (zip2 f (slice_range xs at p) (slice_range zs from a)) (zip2 f (slice_range xs p q) (slice_range zs a upto)) at p (omega arith) (omega arith)
    ∙ ap (put xs at) (sym (zip2-append f (slice_range xs at p) (slice_range xs p q) (slice_range zs from a) (slice_range zs a upto) (left ∙ sym right))
    ∙ ap (λ l. zip2 f l (slice_range zs from a ++ slice_range zs a upto)) (slices_joined xs at p q ordered further inside)
    ∙ ap (zip2 f (slice_range xs at q)) (slices_joined zs from a upto (omega arith) (omega arith) long))

-- the same, the ends of the run and what it is made of written otherwise
pub combined_part : (f : Bool → Bool → Bool) (xs cur zs part : List Bool) (at p q from a upto i j : ℕ) → i ≡ p → j ≡ q → at ≤ p → p ≤ q → q ≤ length xs → a ≡ from + (p - at) → upto ≡ from + (q - at) → upto ≤ length zs
    → part ≡ slice_range zs a upto → cur ≡ put xs at (zip2 f (slice_range xs at p) (slice_range zs from a))
    → put cur i (zip2 f (slice_range cur i j) part) ≡ put xs at (zip2 f (slice_range xs at q) (slice_range zs from upto))
combined_part f xs cur zs part at p q from a upto i j ei ej ordered further inside ea eu long is so_far =
    rw (ei, ej, is) (combined_next f xs cur zs (zip2 f (slice_range cur p q) (slice_range zs a upto)) at p q from a upto ordered further inside ea eu long so_far refl)

-- before the first word nothing is combined
pub combined_begin : (f : Bool → Bool → Bool) (xs zs : List Bool) (at from : ℕ) → xs ≡ put xs at (zip2 f (slice_range xs at at) (slice_range zs from from))
combined_begin f xs zs at from =
    let none : at - at ≡ 0 = omega arith in
    rw none (sym (put_none xs at))

-- a word of a run of whole words ends in it
pub word_before : {first k last : ℕ} (w : ℕ) → first ≤ k → k < last → (k - first) * w + w ≤ (last - first) * w
word_before {first} {k} {last} w ordered below =
    let next = one_more_word (k - first) w in
    let most = mul_mono (k - first + 1) (last - first) w (omega arith) in
    omega arith

-- one whole word more is made of two
pub combined_more : (f : Bool → Bool → Bool) (xs cur zs one : List Bool) (w first k from a upto : ℕ) → first ≤ k → (k + 1) * w ≤ length xs → a ≡ from + (k - first) * w → upto ≡ from + (k + 1 - first) * w → upto ≤ length zs
    → cur ≡ put xs (first * w) (zip2 f (slice_range xs (first * w) (k * w)) (slice_range zs from (from + (k - first) * w)))
    → one ≡ zip2 f (slice_range cur (k * w) (k * w + w)) (slice_range zs a (a + w))
    → put cur (k * w) one ≡ put xs (first * w) (zip2 f (slice_range xs (first * w) ((k + 1) * w)) (slice_range zs from upto))
combined_more f xs cur zs one w first k from a upto ordered inside ea eu long so_far is =
    let more = one_more_word k w in
    let middle : k * w ≡ first * w + (k - first) * w = split_sum w first k ordered in
    let next : k + 1 - first ≡ (k - first) + 1 = omega arith in
    let step : (k + 1 - first) * w ≡ (k - first) * w + w = ap (λ n. n * w) next ∙ one_more_word (k - first) w in
    let end : a + w ≡ upto = omega arith in
    combined_next f xs cur zs one (first * w) (k * w) ((k + 1) * w) from a upto (omega arith) (omega arith) inside (omega arith) (omega arith) long
    (so_far ∙ ap (λ n. put xs (first * w) (zip2 f (slice_range xs (first * w) (k * w)) (slice_range zs from n))) (sym ea))
    (is ∙ ap (λ n. zip2 f (slice_range cur (k * w) n) (slice_range zs a (a + w))) (sym more) ∙ ap (λ n. zip2 f (slice_range cur (k * w) ((k + 1) * w)) (slice_range zs a n)) end)

-- one word more is made of the word that stands there and of a word of other bits
pub combined_word : {X : Type 0} (value : X → ℕ) (place : ℕ → ℕ → ℕ) (w : ℕ) (f : Bool → Bool → Bool) (ws cur : List X) (zs : List Bool) (old new made : X) (first k from : ℕ)
    → 0 < w → IsPermutation w (place w) → length cur ≡ length ws → first ≤ k → k < length ws → from + (k + 1 - first) * w ≤ length zs → old ≡ get_or cur k old
    → ((p : ℕ) → p < w → has_bit (value made) p ≡ f (has_bit (value old) p) (has_bit (value new) p))
    → row_of place w (value new ∷ []) ≡ slice_range zs (from + (k - first) * w) (from + (k - first) * w + w)
    → row_of place w (map value cur) ≡ put (row_of place w (map value ws)) (first * w) (zip2 f (slice_range (row_of place w (map value ws)) (first * w) (k * w)) (slice_range zs from (from + (k - first) * w)))
    → row_of place w (map value (set cur k made)) ≡ put (row_of place w (map value ws)) (first * w) (zip2 f (slice_range (row_of place w (map value ws)) (first * w) ((k + 1) * w)) (slice_range zs from (from + (k + 1 - first) * w)))
combined_word value place w f ws cur zs old new made first k from positive lawful same ordered below enough read bits word so_far =
    let xs : List Bool = row_of place w (map value ws) in
    let now : List Bool = row_of place w (map value cur) in
    let size : length xs ≡ w * length ws = length_row value place w ws in
    let inside = mul_mono (k + 1) (length ws) w (omega (arith, below)) in
    let there : k < length cur = omega (arith, below, same) in
    row_replaced value place w cur k made positive there
    ∙ combined_more f xs now zs (row_of place w (value made ∷ [])) w first k from (from + (k - first) * w) (from + (k + 1 - first) * w) ordered (omega (arith, inside, size)) refl refl enough so_far
    (word_combined f place w (value old) (value new) (value made) positive lawful bits
    ∙ ap (λ l. zip2 f l (row_of place w (value new ∷ []))) (row_whole value place w cur k (k * w) (k * w + w) old positive there read refl refl)
    ∙ ap (zip2 f (slice_range now (k * w) (k * w + w))) word)

-- the second bits alone
pub second_bits : (xs ys : List Bool) → length xs ≡ length ys → zip2 (λ a b. b) xs ys ≡ ys
second_bits [] [] h = refl
second_bits [] (y ∷ ys) h = cc
second_bits (x ∷ xs) [] h = cc
second_bits (x ∷ xs) (y ∷ ys) h = ap (λ l. y ∷ l) (second_bits xs ys (omega arith))
