-- Moves of a run by words: parts of words, and whole words upward or downward.
use Rattle.std.proofs.Common.{◌≡◌, ◌≢◌, ℕ, ◌+◌, ◌-◌, ◌*◌, ◌%◌, ◌<◌, ◌≤◌, Bool, false, ◌⊎◌, if◌then◌else◌, leb, ltb, ◌&&◌, List, [], ◌∷◌, length, map, drop, set, get_or, slice_range, refl, sym, ◌∙◌, ap, subst, inl, inr, arith, mul_comm}
use Rattle.std.proofs.lemmas.List.{ext_get_or, get_or-take, get_or-drop, length-take, length-drop, take_all, length-map, get_or-map}
use Rattle.std.proofs.lemmas.Nat.{div-mul-add, mod-mul-add}
use Rattle.std.proofs.lemmas.Bool.{cases_lt, lt-leb, le-leb, lt-ltb, le-ltb}
use Rattle.std.proofs.lemmas.Bool.Decides.{nat_tests}
use Rattle.bit_addressing.specs.Bits.{has_bit}
use Rattle.bit_addressing.specs.Row.{IsSpan, row_bit, row_of, put, source_of, moved}
use Rattle.bit_addressing.proofs.lists.Put.{length-put, put_before, put_inside, put_after}
use Rattle.bit_addressing.proofs.lists.Shown.{get_or-run, length-run}
use Rattle.bit_addressing.proofs.Runs.{inner, mul_mono}
use Rattle.bit_addressing.proofs.lists.Sized.{one_more_word}
use Rattle.bit_addressing.proofs.Packs.{row_from}
use Rattle.bit_addressing.proofs.Windows.{first_of_two, second_of_two}
use Rattle.bit_addressing.proofs.Rows.{length-row_of, get_or-row_of, get_or-row_one, row_part}
use Rattle.bit_addressing.proofs.Moves.{source_below, source_none}
use Rattle.bit_addressing.proofs.lists.Moved.{length-moved, get_or-moved, source_inside}

-- ---- a move is a move of one part, and then of the other

source_out : (s d n j : ℕ) → (j < d) ⊎ (d + n ≤ j) → source_of s d n j ≡ j
source_out s d n j h = grind (arith, nat_tests)

-- downward the lower part goes first
source_on : (s d a b j : ℕ) → d ≤ s → source_of s d a (source_of (s + a) (d + a) b j) ≡ source_of s d (a + b) j
source_on s d a b j h = elim (cases_lt j d) [
  | inl k ↦ ap (source_of s d a) (source_out (s + a) (d + a) b j (inl (omega arith))) ∙ source_out s d a j (inl k) ∙ sym (source_out s d (a + b) j (inl k))
  | inr k ↦ elim (cases_lt j (d + a)) [
    | inl l ↦ ap (source_of s d a) (source_out (s + a) (d + a) b j (inl l)) ∙ source_inside s d a j k l ∙ sym (source_inside s d (a + b) j k (omega arith))
    | inr l ↦ elim (cases_lt j (d + a + b)) [
      | inl m ↦
          let same : (s + a + j) - (d + a) ≡ (s + j) - d = omega arith in
          ap (source_of s d a) (source_inside (s + a) (d + a) b j l m) ∙ source_out s d a ((s + a + j) - (d + a)) (inr (omega arith)) ∙ same ∙ sym (source_inside s d (a + b) j k (omega arith))
      | inr m ↦ ap (source_of s d a) (source_out (s + a) (d + a) b j (inr m)) ∙ source_out s d a j (inr l) ∙ sym (source_out s d (a + b) j (inr (omega arith)))
    ]
  ]
]

-- upward the upper part goes first
source_back : (s d a b j : ℕ) → s ≤ d → source_of (s + a) (d + a) b (source_of s d a j) ≡ source_of s d (a + b) j
source_back s d a b j h = elim (cases_lt j d) [
  | inl k ↦ ap (source_of (s + a) (d + a) b) (source_out s d a j (inl k)) ∙ source_out (s + a) (d + a) b j (inl (omega arith)) ∙ sym (source_out s d (a + b) j (inl k))
  | inr k ↦ elim (cases_lt j (d + a)) [
    | inl l ↦ ap (source_of (s + a) (d + a) b) (source_inside s d a j k l) ∙ source_out (s + a) (d + a) b ((s + j) - d) (inl (omega arith)) ∙ sym (source_inside s d (a + b) j k (omega arith))
    | inr l ↦ elim (cases_lt j (d + a + b)) [
      | inl m ↦
          let same : (s + a + j) - (d + a) ≡ (s + j) - d = omega arith in
          ap (source_of (s + a) (d + a) b) (source_out s d a j (inr l)) ∙ source_inside (s + a) (d + a) b j l m ∙ same ∙ sym (source_inside s d (a + b) j k (omega arith))
      | inr m ↦ ap (source_of (s + a) (d + a) b) (source_out s d a j (inr l)) ∙ source_out (s + a) (d + a) b j (inr m) ∙ sym (source_out s d (a + b) j (inr (omega arith)))
    ]
  ]
]

moved_twice : (xs : List Bool) (s d n t e m u f o : ℕ) → t + m ≤ length xs → ((j : ℕ) → source_of s d n (source_of t e m j) ≡ source_of u f o j) → moved (moved xs s d n) t e m ≡ moved xs u f o
moved_twice xs s d n t e m u f o fits same =
    let one : List Bool = moved xs s d n in
    let size : length one ≡ length xs = length-moved xs s d n in
    let left : length (moved one t e m) ≡ length xs = length-moved one t e m ∙ size in
    ext_get_or false (moved one t e m) (moved xs u f o) (left ∙ sym (length-moved xs u f o))
    (λ j h.
    let below : j < length xs = subst (λ l. j < l) left h in
    get_or-moved one t e m j (subst (λ l. j < l) (sym size) below)
    ∙ get_or-moved xs s d n (source_of t e m j) (source_below t e m j (length xs) fits below)
    ∙ ap (λ k. get_or xs k false) (same j)
    ∙ sym (get_or-moved xs u f o j below))

-- a move downward by a bits and then by b more is the move of a + b
pub moved_on : (xs : List Bool) (s d a b : ℕ) → d ≤ s → s + (a + b) ≤ length xs → moved (moved xs s d a) (s + a) (d + a) b ≡ moved xs s d (a + b)
moved_on xs s d a b h fits = moved_twice xs s d a (s + a) (d + a) b s d (a + b) (omega arith) (λ j. source_on s d a b j h)

-- a move upward of the last b bits and then of the first a is the move of a + b
pub moved_back : (xs : List Bool) (s d a b : ℕ) → s ≤ d → s + (a + b) ≤ length xs → moved (moved xs (s + a) (d + a) b) s d a ≡ moved xs s d (a + b)
moved_back xs s d a b h fits = moved_twice xs (s + a) (d + a) b s d a s d (a + b) (omega arith) (λ j. source_back s d a b j h)

-- a move of no bits changes nothing
pub moved_none : (xs : List Bool) (s d n : ℕ) → n ≡ 0 → moved xs s d n ≡ xs
moved_none xs s d n none = ext_get_or false (moved xs s d n) xs (length-moved xs s d n)
    (λ j h. get_or-moved xs s d n j (subst (λ l. j < l) (length-moved xs s d n) h) ∙ ap (λ k. get_or xs k false) (source_none s d n j none))

-- three parts, downward
pub moved_thrice_on : (xs : List Bool) (s d a b c : ℕ) → d ≤ s → s + (a + b + c) ≤ length xs → moved (moved (moved xs s d a) (s + a) (d + a) b) (s + (a + b)) (d + (a + b)) c ≡ moved xs s d (a + b + c)
moved_thrice_on xs s d a b c h fits = ap (λ l. moved l (s + (a + b)) (d + (a + b)) c) (moved_on xs s d a b h (omega arith)) ∙ moved_on xs s d (a + b) c h fits

-- three parts, upward
pub moved_thrice_back : (xs : List Bool) (s d a b c : ℕ) → s ≤ d → s + (a + b + c) ≤ length xs → moved (moved (moved xs (s + (a + b)) (d + (a + b)) c) (s + a) (d + a) b) s d a ≡ moved xs s d (a + b + c)
moved_thrice_back xs s d a b c h fits =
    let from : s + (a + b) ≡ s + a + b = omega arith in
    let to : d + (a + b) ≡ d + a + b = omega arith in
    let sum : a + (b + c) ≡ a + b + c = omega arith in
    ap (λ l. moved (moved l (s + a) (d + a) b) s d a) (ap (λ p. moved xs p (d + (a + b)) c) from ∙ ap (λ p. moved xs (s + a + b) p c) to)
    ∙ ap (λ l. moved l s d a) (moved_back xs (s + a) (d + a) b c (omega arith) (omega arith))
    ∙ moved_back xs s d a (b + c) h (omega arith)
    ∙ ap (moved xs s d) sum

-- a run that is put at another place was moved
pub put_moved : (xs : List Bool) (s d n : ℕ) → s + n ≤ length xs → d + n ≤ length xs → put xs d (slice_range xs s (s + n)) ≡ moved xs s d n
put_moved xs s d n from to =
    let ys : List Bool = slice_range xs s (s + n) in
    let size : length ys ≡ n = length-run xs s n from in
    let left : length (put xs d ys) ≡ length xs = length-put xs ys d (omega arith) in
    ext_get_or false (put xs d ys) (moved xs s d n) (left ∙ sym (length-moved xs s d n))
    (λ j h.
    let below : j < length xs = subst (λ l. j < l) left h in
    elim (cases_lt j d) [
      | inl k ↦ put_before xs ys d j false (omega arith) k ∙ sym (get_or-moved xs s d n j below ∙ ap (λ m. get_or xs m false) (source_out s d n j (inl k)))
      | inr k ↦ elim (cases_lt j (d + n)) [
        | inl l ↦
            let at : s + (j - d) ≡ (s + j) - d = omega arith in
            put_inside xs ys d j false (omega arith) k (omega arith) ∙ get_or-run xs s n (j - d) (omega arith) ∙ ap (λ m. get_or xs m false) at
            ∙ sym (get_or-moved xs s d n j below ∙ ap (λ m. get_or xs m false) (source_inside s d n j k l))
        | inr l ↦ put_after xs ys d j false (omega arith) (omega arith) ∙ sym (get_or-moved xs s d n j below ∙ ap (λ m. get_or xs m false) (source_out s d n j (inr l)))
      ]
    ])

-- ---- words

module _ (place : ℕ → ℕ → ℕ) (w : ℕ) where
  -- a bit of word k
  pub word_bit : (words : List ℕ) (k i : ℕ) → i < w → row_bit place w words (k * w + i) ≡ has_bit (get_or words k 0) (place w i)
  word_bit words k i h =
      ap (λ q. has_bit (get_or words q 0) (place w ((k * w + i) % w))) (div-mul-add k w i h) ∙ ap (λ r. has_bit (get_or words k 0) (place w r)) (mod-mul-add k w i h)

  -- the bits of two neighbours are those of the row
  pub pair_bit : (words : List ℕ) (k low high at i : ℕ) → at < w → i < w → low ≡ get_or words k 0 → (w ≤ at + i → high ≡ get_or words (k + 1) 0) → row_bit place w (low ∷ high ∷ []) (at + i) ≡ row_bit place w words (k * w + at + i)
  pair_bit words k low high at i within h is_low is_high = elim (cases_lt (at + i) w) [
    | inl m ↦
        let here : k * w + at + i ≡ k * w + (at + i) = omega arith in
        first_of_two place w low high (at + i) m ∙ ap (λ n. has_bit n (place w (at + i))) is_low ∙ sym (ap (row_bit place w words) here ∙ word_bit words k (at + i) m)
    | inr m ↦
        let next = one_more_word k w in
        let here : k * w + at + i ≡ (k + 1) * w + (at + i - w) = omega arith in
        second_of_two place w low high (at + i) m (omega arith) ∙ ap (λ n. has_bit n (place w (at + i - w))) (is_high m) ∙ sym (ap (row_bit place w words) here ∙ word_bit words (k + 1) (at + i - w) (omega arith))
  ]

  -- the bits of one word, taken round
  pub round_bit : (words : List ℕ) (k word low at i : ℕ) → at < low → low ≤ i → i < w → word ≡ get_or words k 0 → row_bit place w (word ∷ word ∷ []) (w + at - low + i) ≡ row_bit place w words (k * w + at + (i - low))
  round_bit words k word low at i less above h is =
      let inner : w + at - low + i - w ≡ at + (i - low) = omega arith in
      let here : k * w + at + (i - low) ≡ k * w + (at + (i - low)) = omega arith in
      second_of_two place w word word (w + at - low + i) (omega arith) (omega arith) ∙ ap (λ q. has_bit word (place w q)) inner ∙ ap (λ n. has_bit n (place w (at + (i - low)))) is
      ∙ sym (ap (row_bit place w words) here ∙ word_bit words k (at + (i - low)) (omega arith))

  -- a part of a word is written
  pub part_moved : (words : List ℕ) (k v from low high n : ℕ) → 0 < w → k < length words → low + n ≡ high → high ≤ w → from + n ≤ w * length words
      → ((i : ℕ) → i < w → has_bit v (place w i) ≡ (if leb low i && ltb i high then row_bit place w words (from + (i - low)) else has_bit (get_or words k 0) (place w i)))
      → row_of place w (set words k v) ≡ moved (row_of place w words) from (k * w + low) n
  part_moved words k v from low high n positive below size within fits change =
      let all : List Bool = row_of place w words in
      let ys : List Bool = slice_range all from (from + n) in
      let long : length all ≡ w * length words = length-row_of place w words in
      let short : length ys ≡ n = length-run all from n (omega arith) in
      let room : (k + 1) * w ≤ length words * w = mul_mono (k + 1) (length words) w (omega arith) in
      let next = one_more_word k w in
      let turned : w * length words ≡ length words * w = mul_comm w (length words) in
      row_part place w words k v low ys positive below (omega arith)
      (λ i h. change i h ∙ elim (cases_lt i low) [
        | inl m ↦ rw (lt-leb low i m) refl
        | inr m ↦ rw (le-leb low i m) (elim (cases_lt i high) [
          | inl l ↦
              let end : i < low + length ys = omega arith in
              rw (lt-ltb i high l, lt-ltb i (low + length ys) end) (sym (get_or-run all from n (i - low) (omega arith) ∙ get_or-row_of place w words (from + (i - low)) (omega arith)))
          | inr l ↦ let end : low + length ys ≤ i = omega arith in rw (le-ltb i high l, le-ltb i (low + length ys) end) refl
        ])
      ])
      ∙ put_moved all from (k * w + low) n (omega arith) (omega arith)

  -- a whole word is written
  pub whole_moved : (words : List ℕ) (k v from : ℕ) → 0 < w → k < length words → from + w ≤ w * length words → ((i : ℕ) → i < w → has_bit v (place w i) ≡ row_bit place w words (from + i)) → row_of place w (set words k v) ≡ moved (row_of place w words) from (k * w) w
  whole_moved words k v from positive below fits bits =
      let start : k * w + 0 ≡ k * w = omega arith in
      part_moved words k v from 0 w w positive below (omega arith) (omega arith) fits
      (λ i h.
      let same : i ≡ i - 0 = omega arith in
      rw (le-leb 0 i (omega arith), lt-ltb i w h) (bits i h ∙ ap (λ m. row_bit place w words (from + m)) same))
      ∙ ap (λ d. moved (row_of place w words) from d w) start

  -- one more word of a move downward
  pub next_down : (words old : List ℕ) (from first t v : ℕ) → 0 < w → first * w ≤ from → first + t < length words → from + (t * w + w) ≤ w * length words → length words ≡ length old
      → ((i : ℕ) → i < w → has_bit v (place w i) ≡ row_bit place w words (from + t * w + i))
      → row_of place w words ≡ moved (row_of place w old) from (first * w) (t * w)
      → row_of place w (set words (first + t) v) ≡ moved (row_of place w old) from (first * w) ((t + 1) * w)
  next_down words old from first t v positive down below fits size bits shows =
      let long : length (row_of place w old) ≡ w * length words = length-row_of place w old ∙ ap (λ n. w * n) (sym size) in
      let to : (first + t) * w ≡ first * w + t * w = grind arith in
      let sum : t * w + w ≡ (t + 1) * w = sym (one_more_word t w) in
      whole_moved words (first + t) v (from + t * w) positive below (omega arith) bits
      ∙ ap (λ l. moved l (from + t * w) ((first + t) * w) w) shows
      ∙ ap (λ d. moved (moved (row_of place w old) from (first * w) (t * w)) (from + t * w) d w) to
      ∙ moved_on (row_of place w old) from (first * w) (t * w) w down (omega arith)
      ∙ ap (moved (row_of place w old) from (first * w)) sum

  -- one more word of a move upward: word k of it
  pub next_up : (words old : List ℕ) (from first k t v : ℕ) → 0 < w → from ≤ first * w → first + k < length words → from + (k * w + w + t * w) ≤ w * length words → length words ≡ length old
      → ((i : ℕ) → i < w → has_bit v (place w i) ≡ row_bit place w words (from + k * w + i))
      → row_of place w words ≡ moved (row_of place w old) (from + (k + 1) * w) (first * w + (k + 1) * w) (t * w)
      → row_of place w (set words (first + k) v) ≡ moved (row_of place w old) (from + k * w) (first * w + k * w) ((t + 1) * w)
  next_up words old from first k t v positive up below fits size bits shows =
      let all : List Bool = row_of place w old in
      let long : length all ≡ w * length words = length-row_of place w old ∙ ap (λ n. w * n) (sym size) in
      let to : (first + k) * w ≡ first * w + k * w = grind arith in
      let s : from + (k + 1) * w ≡ from + k * w + w = let e = one_more_word k w in omega arith in
      let d : first * w + (k + 1) * w ≡ first * w + k * w + w = let e = one_more_word k w in omega arith in
      let sum : w + t * w ≡ (t + 1) * w = let e = one_more_word t w in omega arith in
      whole_moved words (first + k) v (from + k * w) positive below (omega arith) bits
      ∙ ap (λ e. moved (row_of place w words) (from + k * w) e w) to
      ∙ ap (λ l. moved l (from + k * w) (first * w + k * w) w) (shows ∙ ap (λ p. moved all p (first * w + (k + 1) * w) (t * w)) s ∙ ap (λ p. moved all (from + k * w + w) p (t * w)) d)
      ∙ moved_back all (from + k * w) (first * w + k * w) w (t * w) (omega arith) (omega arith)
      ∙ ap (moved all (from + k * w) (first * w + k * w)) sum

-- a word that is blended takes the bits between two indices from another
pub blended : (low high i : ℕ) (a b c : Bool) → (low ≤ i → i < high → a ≡ b) → (if leb low i && ltb i high then a else c) ≡ (if leb low i && ltb i high then b else c)
blended low high i a b c same = elim (cases_lt i low) [
  | inl m ↦ rw (lt-leb low i m) refl
  | inr m ↦ rw (le-leb low i m) (elim (cases_lt i high) [
    | inl l ↦ rw (lt-ltb i high l) (same m l)
    | inr l ↦ rw (le-ltb i high l) refl
  ])
]

-- ---- whole runs: a part of the first word, whole words, and a part of the last

inner_words : {w dst first low last high : ℕ} (n : ℕ) → IsSpan w dst (dst + n) first low last high → first ≢ last → ((first + 1) * w ≡ dst + (w - low)) × (last * w ≡ dst + (w - low + (last - first - 1) * w)) × (w - low + (last - first - 1) * w + high ≡ n)
inner_words {w} {dst} {first} {low} {last} {high} n run apart =
    let m = inner run apart in
    let same : (last - (first + 1)) * w ≡ (last - first - 1) * w = ap (λ k. k * w) (omega arith) in
    (m.head, omega arith, omega arith)

-- a move downward by its first edge, whole words and last edge in turn is the whole move
pub run_moved_on : {w dst first low last high : ℕ} (xs ys zs us : List Bool) (src n a : ℕ) → IsSpan w dst (dst + n) first low last high → first ≢ last → a ≡ w - low → dst ≤ src → src + n ≤ length xs
    → ys ≡ moved xs src (first * w + low) a → zs ≡ moved ys (src + a) ((first + 1) * w) ((last - first - 1) * w) → us ≡ moved zs (src + (n - high)) (last * w + 0) (high - 0)
    → us ≡ moved xs src dst n
run_moved_on {w} {dst} {first} {low} {last} {high} xs ys zs us src n a run apart is h fits one two three =
    let b : ℕ = (last - first - 1) * w in
    let at = inner_words n run apart in
    let inner : (first + 1) * w ≡ dst + a = at.0 ∙ ap (λ m. dst + m) (sym is) in
    let beyond : last * w + 0 ≡ dst + (a + b) = let e = at.1 in omega arith in
    let sum : a + b + high ≡ n = let e = at.2 in omega arith in
    let from : src + (n - high) ≡ src + (a + b) = omega arith in
    let most : high - 0 ≡ high = omega arith in
    let first_part : ys ≡ moved xs src dst a = one ∙ ap (λ d. moved xs src d a) run.begins in
    let next_part : zs ≡ moved (moved xs src dst a) (src + a) (dst + a) b = two ∙ ap (λ l. moved l (src + a) ((first + 1) * w) b) first_part ∙ ap (λ d. moved (moved xs src dst a) (src + a) d b) inner in
    let both : List Bool = moved (moved xs src dst a) (src + a) (dst + a) b in
    three ∙ ap (λ l. moved l (src + (n - high)) (last * w + 0) (high - 0)) next_part ∙ ap (λ s. moved both s (last * w + 0) (high - 0)) from ∙ ap (λ d. moved both (src + (a + b)) d (high - 0)) beyond ∙ ap (moved both (src + (a + b)) (dst + (a + b))) most
    ∙ moved_thrice_on xs src dst a b high h (omega arith) ∙ ap (moved xs src dst) sum

-- a move upward by its last edge, whole words and first edge in turn is the whole move
pub run_moved_back : {w dst first low last high : ℕ} (xs ys zs us : List Bool) (src n a : ℕ) → IsSpan w dst (dst + n) first low last high → first ≢ last → a ≡ w - low → src ≤ dst → src + n ≤ length xs
    → ys ≡ moved xs (src + (n - high)) (last * w + 0) (high - 0) → zs ≡ moved ys (src + a) ((first + 1) * w) ((last - first - 1) * w) → us ≡ moved zs src (first * w + low) a
    → us ≡ moved xs src dst n
run_moved_back {w} {dst} {first} {low} {last} {high} xs ys zs us src n a run apart is h fits one two three =
    let b : ℕ = (last - first - 1) * w in
    let at = inner_words n run apart in
    let inner : (first + 1) * w ≡ dst + a = at.0 ∙ ap (λ m. dst + m) (sym is) in
    let beyond : last * w + 0 ≡ dst + (a + b) = let e = at.1 in omega arith in
    let sum : a + b + high ≡ n = let e = at.2 in omega arith in
    let from : src + (n - high) ≡ src + (a + b) = omega arith in
    let most : high - 0 ≡ high = omega arith in
    let last_part : ys ≡ moved xs (src + (a + b)) (dst + (a + b)) high = one ∙ ap (λ s. moved xs s (last * w + 0) (high - 0)) from ∙ ap (λ d. moved xs (src + (a + b)) d (high - 0)) beyond ∙ ap (moved xs (src + (a + b)) (dst + (a + b))) most in
    let next_part : zs ≡ moved (moved xs (src + (a + b)) (dst + (a + b)) high) (src + a) (dst + a) b = two ∙ ap (λ l. moved l (src + a) ((first + 1) * w) b) last_part ∙ ap (λ d. moved (moved xs (src + (a + b)) (dst + (a + b)) high) (src + a) d b) inner in
    three ∙ ap (λ l. moved l src (first * w + low) a) next_part ∙ ap (λ d. moved (moved (moved xs (src + (a + b)) (dst + (a + b)) high) (src + a) (dst + a) b) src d a) run.begins
    ∙ moved_thrice_back xs src dst a b high h (omega arith) ∙ ap (moved xs src dst) sum

-- ---- runs copied from another row

-- a word that has the bits from an index on of two words in a row has that part of the row
pub pair_row : {X : Type 0} (value : X → ℕ) (place given : ℕ → ℕ → ℕ) (w u v k skip : ℕ) (source : List X) (low high : X) → 0 < w → u ≡ w → k + 1 < length source → skip < u → low ≡ get_or source k low → high ≡ get_or source (k + 1) high
    → ((i : ℕ) → i < w → has_bit v (place w i) ≡ row_bit given u (value low ∷ value high ∷ []) (skip + i)) → row_of place w (v ∷ []) ≡ slice_range (row_of given u (map value source)) (k * u + skip) (k * u + skip + u)
pair_row value place given w u v k skip source low high positive same there within first second bits =
    let words = map value source in
    let zs = row_of given u words in
    let size : length words ≡ length source = length-map source value in
    let long : length zs ≡ u * length words = length-row_of given u words in
    let more = one_more_word k u in
    let next = one_more_word (k + 1) u in
    let room = mul_mono (k + 1 + 1) (length words) u (omega arith) in
    let turned = mul_comm u (length words) in
    let a : ℕ = k * u + skip in
    let inside : a + w ≤ length zs = omega arith in
    let read_low : value low ≡ get_or words k 0 = ap value first ∙ sym (get_or-map value source k low 0 (omega arith)) in
    let read_high : value high ≡ get_or words (k + 1) 0 = ap value second ∙ sym (get_or-map value source (k + 1) high 0 there) in
    row_from place w v a zs positive inside
    (λ i h.
    let below : i < u = omega arith in
    let within_row : a + i < u * length words = omega arith in
    bits i h
    ∙ pair_bit given u words k (value low) (value high) skip i within below read_low (λ past. read_high)
    ∙ sym (get_or-row_of given u words (a + i) within_row))
    ∙ ap (λ n. slice_range zs a (a + n)) (sym same)

-- two runs of one row that are put one after the other
module _ (place : ℕ → ℕ → ℕ) (w : ℕ) where
  -- a run of one word's bits is a run of the row
  pub part_copied : (words : List ℕ) (v low high from : ℕ) → 0 < w → low ≤ high → high ≤ w → from + (high - low) ≤ w * length words
      → ((i : ℕ) → low ≤ i → i < high → has_bit v (place w i) ≡ row_bit place w words (from + (i - low)))
      → slice_range (row_of place w (v ∷ [])) low high ≡ slice_range (row_of place w words) from (from + (high - low))
  part_copied words v low high from positive ordered within fits bits =
      let one : List Bool = row_of place w (v ∷ []) in
      let all : List Bool = row_of place w words in
      let n : ℕ = high - low in
      let whole : length one ≡ w * 1 = length-row_of place w (v ∷ []) in
      let long : length all ≡ w * length words = length-row_of place w words in
      let left : length (slice_range one low high) ≡ n = simp (length-take, length-drop) (omega arith) in
      let right : length (slice_range all from (from + n)) ≡ n = length-run all from n (omega arith) in
      ext_get_or false (slice_range one low high) (slice_range all from (from + n)) (left ∙ sym right)
      (λ i h.
      let inside : i < high - low = subst (λ m. i < m) left h in
      let back : from + (low + i - low) ≡ from + i = omega arith in
      get_or-take (high - low) (drop low one) i false inside ∙ get_or-drop low one i false ∙ get_or-row_one place w v (low + i) positive (omega arith) ∙ bits (low + i) (omega arith) (omega arith) ∙ ap (row_bit place w words) back
      ∙ sym (get_or-run all from n i inside ∙ get_or-row_of place w words (from + i) (omega arith)))

  -- all bits of a word are a run of the row
  pub word_copied : (words : List ℕ) (v from : ℕ) → 0 < w → from + w ≤ w * length words → ((i : ℕ) → i < w → has_bit v (place w i) ≡ row_bit place w words (from + i)) → row_of place w (v ∷ []) ≡ slice_range (row_of place w words) from (from + w)
  word_copied words v from positive fits bits =
      let one : List Bool = row_of place w (v ∷ []) in
      let whole : length one ≡ w * 1 = length-row_of place w (v ∷ []) in
      sym (take_all (w - 0) one (omega arith)) ∙ part_copied words v 0 w from positive (omega arith) (omega arith) (omega arith) (λ i above h. let same : i ≡ i - 0 = omega arith in bits i h ∙ ap (λ m. row_bit place w words (from + m)) same) ∙ ap (λ m. slice_range (row_of place w words) from (from + m)) (omega arith)
