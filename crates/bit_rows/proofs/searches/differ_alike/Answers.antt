use Rattle.std.proofs.Common.{◌≡◌, ◌≢◌, ℕ, Bool, true, false, not, ◌&&◌, if◌then◌else◌, inl, inr, ◌+◌, ◌*◌, ◌^◌, ◌/◌, ◌%◌, ◌≤◌, ◌<◌, [], mod-lt, ◌∷◌, List, bit_xor, length, map, slice_range, w64, refl, sym, ◌∙◌, ap, subst, get_or, arith, mul_comm}
use Rattle.std.specs.Int.{trailing_zeros}
use Rattle.std.specs.Prelude.{ltb}
use Rattle.std.proofs.lemmas.Bool.{cases_lt, le-ltb, lt-ltb}
use Rattle.std.proofs.lemmas.List.{get_or_past}
use Rattle.std.proofs.Math.Nat.{le-mul_of_pos_right, le_of_mul-le-mul_right}
use Rattle.std.proofs.lemmas.Nat.{div-add-mod', xor_lt}
use Rattle.bit_addressing.specs.Bits.{has_bit}
use Rattle.bit_addressing.specs.Row.{number_of, row_of, IsFirstDifference}
use Rattle.bit_addressing.specs.Typed.{row}
use Rattle.bit_rows.proofs.Differs.{AreAlike, alike_all, alike_each, alike_more, alike_run, bit_here, differ_by, differ_here, same_if, turned_none, word_here}
use Rattle.bit_addressing.proofs.Chunks.{has_number}
use Rattle.bit_addressing.proofs.Packs.{same_word}
use Rattle.bit_addressing.proofs.Rows.{get_or-row_one, width_positive}
use Rattle.bit_addressing.proofs.Runs.{inside_words}
use Rattle.bit_rows.proofs.Wholes.{word_in_run}
use Rattle.bit_addressing.proofs.Words.{has_none}
use Rattle.bit_addressing.proofs.lists.Shown.{length-run}
use Rattle.bit_addressing.proofs.lists.Sized.{right_sum, one_more_word}
use Rattle.bit_addressing.proofs.Typed.{index_in_row, length_row}
use Rattle.bit_rows.proofs.searches.differ_alike.Given as given
use Rattle.bit_rows.proofs.searches.differ_alike.Goals as goal
use Rattle.bit_rows.proofs.searches.differ_alike.Goals.{then-to_u64+else-apart-ne0, else-to_u64}

-- how many whole words two runs of n bits have that begin with words k and l, and where they lie
record HasWhole (w d k l n size other whole rest : ℕ) : Type 0 where
  first : k + whole ≤ size
  second : l + whole ≤ other
  low : k + whole ≤ k * w + n
  other_low : l + whole ≤ l * w + n
  sum : whole * w + rest ≡ n
  most : whole * d ≤ n
  few : rest < w
  here : 0 < rest → k + whole < size
  there : 0 < rest → l + whole < other

whole_words : {w d k l n size other : ℕ} → 0 < w → d ≡ w → k * w + n ≤ w * size → l * w + n ≤ w * other → HasWhole w d k l n size other (n / d) (n % d)
whole_words {w} {d} {k} {l} {n} {size} {other} positive same first second =
    let split = div-add-mod' n d in
    let under : n % d < d = mod-lt n (omega (arith, positive, same)) in
    let wide : n / d * d ≡ n / d * w = ap (λ m. n / d * m) same in
    let sum = right_sum k (n / d) w in
    let other_sum = right_sum l (n / d) w in
    let low = le-mul_of_pos_right (k + n / d) positive in
    let other_low = le-mul_of_pos_right (l + n / d) positive in
    let turned = mul_comm w size in
    let other_turned = mul_comm w other in
    record {
      first = le_of_mul-le-mul_right {n = size} {k = w} (omega arith) positive;
      second = le_of_mul-le-mul_right {n = other} {k = w} (omega arith) positive;
      low = omega arith;
      other_low = omega arith;
      sum = omega arith;
      most = omega arith;
      few = omega arith;
      here = λ some. inside_words w (k + n / d) size ((k + n / d) * w) refl (omega arith);
      there = λ some. inside_words w (l + n / d) other ((l + n / d) * w) refl (omega arith);
    }

-- where a word of a run begins, the width written otherwise
word_begins : (k t d w : ℕ) → d ≡ w → (k + t) * d ≡ k * w + t * w
word_begins k t d w e = ap (λ m. (k + t) * m) e ∙ right_sum k t w

-- the bits of word t of a run that begins with word k
module _ {X : Type 0} (value : X → ℕ) (place : ℕ → ℕ → ℕ) (w : ℕ) (positive : 0 < w) (ws : List X) where
  word_of_run : (u d k n t : ℕ) (word : X) → u ≡ w → d ≡ w → t < n / d → k * w + n ≤ w * length ws → word ≡ get_or ws (k + t) word → row_of place u (value word ∷ []) ≡ slice_range (row_of place u (map value ws)) (k * w + t * w) (k * w + t * w + w)
  word_of_run u d k n t word width e h inside is =
      let within = word_in_run d w n t e h in
      let at : k * w + t * w ≡ (k + t) * w = sym (right_sum k t w) in
      word_here value place w u ws k t word positive width (inside_words w (k + t) (length ws) (k * w + t * w) at (omega arith)) is

-- two runs of n bits that begin with words k and l: their whole words, the bits after these, and the words and rows that they lie in
record HasRest (w n k l size other long wide whole rest : ℕ) : Type 0 where
  sum : whole * w + rest ≡ n
  few : rest < w
  here : 0 < rest → k + whole < size
  there : 0 < rest → l + whole < other
  inside : k * w + n ≤ long
  beside : l * w + n ≤ wide

module _ {X Y : Type 0} (value : X → ℕ) (other : Y → ℕ) (place order : ℕ → ℕ → ℕ) (w u d : ℕ) (a : List X) (b : List Y) (k l n : ℕ) (positive : 0 < w) (width : u ≡ w) (same : d ≡ w) (first : k * w + n ≤ w * length a) (second : l * w + n ≤ w * length b) where
  -- what two runs have after their whole words
  rest_of_runs : HasRest w n k l (length a) (length b) (length (row_of place w (map value a))) (length (row_of order u (map other b))) (n / d) (n % d)
  rest_of_runs =
      let r = whole_words positive same first second in
      record {
        sum = r.sum;
        few = r.few;
        here = r.here;
        there = r.there;
        inside = index_in_row value place w a (k * w + n) first;
        beside = index_in_row other order u b (l * w + n) (subst (λ m. l * w + n ≤ m * length b) (sym width) second);
      }

pub equal_front-start-requires-clause-first : goal.equal_front-start-requires-clause-first
equal_front-start-requires-clause-first g c = let r = whole_words (width_positive _ g.met.T.BitStore.width) c.BITS-width.ensures c.requires.first c.requires.second in omega arith

pub equal_front-start-requires-clause-second : goal.equal_front-start-requires-clause-second
equal_front-start-requires-clause-second g c = let r = whole_words (width_positive _ g.met.T.BitStore.width) c.BITS-width.ensures c.requires.first c.requires.second in omega arith

pub overflow_add-left : goal.overflow_add-left
overflow_add-left g c = let r = whole_words (width_positive _ g.met.T.BitStore.width) c.BITS-width.ensures c.requires.first c.requires.second in omega arith

pub bounds-a-k : goal.bounds-a-k
bounds-a-k g c = let r = whole_words (width_positive _ g.met.T.BitStore.width) c.BITS-width.ensures c.requires.first c.requires.second in omega arith

pub overflow_add-l : goal.overflow_add-l
overflow_add-l g c = let r = whole_words (width_positive _ g.met.T.BitStore.width) c.BITS-width.ensures c.requires.first c.requires.second in omega arith

pub bounds-b-l : goal.bounds-b-l
bounds-b-l g c = let r = whole_words (width_positive _ g.met.T.BitStore.width) c.BITS-width.ensures c.requires.first c.requires.second in omega arith

pub overflow_add-k : goal.overflow_add-k
overflow_add-k g c = let r = whole_words (width_positive _ g.met.T.BitStore.width) c.BITS-width.ensures c.requires.first c.requires.second in omega arith

pub bounds-a-k-2 : goal.bounds-a-k-2
bounds-a-k-2 g c = let r = whole_words (width_positive _ g.met.T.BitStore.width) c.BITS-width.ensures c.requires.first c.requires.second in omega arith

pub overflow_add-l-2 : goal.overflow_add-l-2
overflow_add-l-2 g c = let r = whole_words (width_positive _ g.met.T.BitStore.width) c.BITS-width.ensures c.requires.first c.requires.second in omega arith

pub bounds-b-l-2 : goal.bounds-b-l-2
bounds-b-l-2 g c = let r = whole_words (width_positive _ g.met.T.BitStore.width) c.BITS-width.ensures c.requires.first c.requires.second in omega arith

pub overflow_mul-result-2 : goal.overflow_mul-result-2
overflow_mul-result-2 g c = let r = whole_words (width_positive _ g.met.T.BitStore.width) c.BITS-width.ensures c.requires.first c.requires.second in omega arith

pub overflow_cast-rest : goal.overflow_cast-rest
overflow_cast-rest g c = let r = whole_words (width_positive _ g.met.T.BitStore.width) c.BITS-width.ensures c.requires.first c.requires.second in omega arith

pub first_bits_apart-apart-requires-clause-few : goal.first_bits_apart-apart-requires-clause-few
first_bits_apart-apart-requires-clause-few g c = let r = whole_words (width_positive _ g.met.T.BitStore.width) c.BITS-width.ensures c.requires.first c.requires.second in omega arith

pub overflow_mul-result : goal.overflow_mul-result
overflow_mul-result g c = let inside = word_in_run c.BITS-width.result c.BITS-width.result c.args.n c.loop-t.t refl (omega arith) in omega arith

pub offset_bounds-a-k : goal.offset_bounds-a-k
offset_bounds-a-k g c = let r = whole_words (width_positive _ g.met.T.BitStore.width) c.BITS-width.ensures c.requires.first c.requires.second in omega arith

pub offset_bounds-b-l : goal.offset_bounds-b-l
offset_bounds-b-l g c = let r = whole_words (width_positive _ g.met.T.BitStore.width) c.BITS-width.ensures c.requires.first c.requires.second in omega arith

pub offset_bounds-a-k-2 : goal.offset_bounds-a-k-2
offset_bounds-a-k-2 g c = let r = whole_words (width_positive _ g.met.T.BitStore.width) c.BITS-width.ensures c.requires.first c.requires.second in omega arith

pub offset_bounds-b-l-2 : goal.offset_bounds-b-l-2
offset_bounds-b-l-2 g c = let r = whole_words (width_positive _ g.met.T.BitStore.width) c.BITS-width.ensures c.requires.first c.requires.second in omega arith

-- the first difference of a run of n bits is below n
below_run : (xs ys : List Bool) (i n k : ℕ) → i + n ≤ length xs → IsFirstDifference (slice_range xs i (i + n)) ys k → k < n
below_run xs ys i n k inside is = let size = length-run xs i n inside in omega (arith, size, is.within)

first_in : (g : given.Over) (c : goal.Then-apart-ne0 g) → IsFirstDifference (slice_range (row g.T.BitStore g.O.BitOrder c.args.a.now) (c.args.k * g.T.BitStore.BITS) (c.args.k * g.T.BitStore.BITS + c.args.n)) (slice_range (row g.U.BitStore g.P.BitOrder c.args.b.now) (c.args.l * g.T.BitStore.BITS) (c.args.l * g.T.BitStore.BITS + c.args.n)) (c.loop-t.t * c.BITS-width.result + trailing_zeros w64 (bit_xor c.word_number.result c.word_number-then-to_u64.result))
first_in g c =
    let w = g.T.BitStore.BITS in
    let u = g.U.BitStore.BITS in
    let d = c.BITS-width.result in
    let e = c.BITS-width.ensures in
    let n = c.args.n in
    let xs = row g.T.BitStore g.O.BitOrder c.args.a.now in
    let ys = row g.U.BitStore g.P.BitOrder c.args.b.now in
    let r = rest_of_runs g.T.BitStore.value g.U.BitStore.value g.O.BitOrder.place g.P.BitOrder.place w g.U.BitStore.BITS c.BITS-width.result c.args.a.now c.args.b.now c.args.k c.args.l c.args.n (width_positive w g.met.T.BitStore.width) c.requires.alike.width c.BITS-width.ensures c.requires.first c.requires.second in
    let t = c.loop-t.t in
    let i : ℕ = c.args.k * w in
    let j : ℕ = c.args.l * w in
    let k : ℕ = t * w in
    let x = c.word_number.result in
    let y = c.word_number-then-to_u64.result in
    let positive = width_positive w g.met.T.BitStore.width in
    let within = word_in_run d w n t e (omega arith) in
    let left = word_of_run g.T.BitStore.value g.O.BitOrder.place w positive c.args.a.now w d c.args.k n t c.index-a-k.result refl e (omega arith) c.requires.first c.index-a-k.is in
    let right = c.word_alike-right.ensures ∙ word_of_run g.U.BitStore.value g.P.BitOrder.place w positive c.args.b.now u d c.args.l n t c.index-b-l.result c.requires.alike.width e (omega arith) (omega arith) c.index-b-l.is in
    subst (λ m. IsFirstDifference (slice_range xs i (i + n)) (slice_range ys j (j + n)) (t * m + trailing_zeros w64 (bit_xor x y))) (sym e)
    (differ_here xs ys i j k w x y (i + k) (j + k) refl refl (c.word_number.ensures ∙ ap number_of left) (c.word_number-then-to_u64.ensures ∙ ap number_of right)
    n c.if-apart-ne0.true (xor_lt 64 x y c.word_number.type_inv c.word_number-then-to_u64.type_inv) (omega arith) r.inside r.beside c.loop-t.invariant.alike)

pub returns-then-apart-ne0 : goal.returns-then-apart-ne0
returns-then-apart-ne0 g c = first_in g c

pub overflow_add-result : goal.overflow_add-result
overflow_add-result g c =
    let inside = index_in_row g.T.BitStore.value g.O.BitOrder.place g.T.BitStore.BITS c.args.a.now _ c.requires.first in
    let below = below_run _ _ _ c.args.n _ inside (first_in g c) in
    omega arith

pub loop-t-preserved : goal.loop-t-preserved
loop-t-preserved g c =
    let w = g.T.BitStore.BITS in
    let u = g.U.BitStore.BITS in
    let d = c.BITS-width.result in
    let xs = row g.T.BitStore g.O.BitOrder c.args.a.now in
    let ys = row g.U.BitStore g.P.BitOrder c.args.b.now in
    let t = c.loop-t.t in
    let i : ℕ = c.args.k * w in
    let j : ℕ = c.args.l * w in
    let k : ℕ = t * w in
    let positive = width_positive w g.met.T.BitStore.width in
    let other_positive = width_positive u g.met.U.BitStore.width in
    let next : k + w ≡ (t + 1) * w = sym (one_more_word t w) in
    let left = word_of_run g.T.BitStore.value g.O.BitOrder.place w positive c.args.a.now w d c.args.k c.args.n t c.index-a-k.result refl c.BITS-width.ensures (omega arith) c.requires.first c.index-a-k.is in
    let right = c.word_alike-right.ensures ∙ word_of_run g.U.BitStore.value g.P.BitOrder.place w positive c.args.b.now u d c.args.l c.args.n t c.index-b-l.result c.requires.alike.width c.BITS-width.ensures (omega arith) (omega arith) c.index-b-l.is in
    let alike : AreAlike xs ys i j (k + w) = elim c.if-to_u64.branch [
      | then-to_u64+else-apart-ne0 v ↦
          alike_more xs ys i j k w v.word_number.result v.word_number-then-to_u64.result (i + k) (j + k) refl refl (v.word_number.ensures ∙ ap number_of left) (v.word_number-then-to_u64.ensures ∙ ap number_of right) v.if-apart-ne0.false c.loop-t.invariant.alike
      | else-to_u64 v ↦
          alike_run xs ys i j k w (i + k) (j + k) refl refl
          (sym left
          ∙ same_word g.O.BitOrder.place g.O.BitOrder.place w w (g.T.BitStore.value c.index-a-k.result) (g.T.BitStore.value c.word_alike-right.result) positive refl (g.met.O.BitOrder.lawful w g.met.T.BitStore.width) (λ p h. refl)
          (λ p h. sym (c.to_u64.ensures.low p h) ∙ ap (λ m. has_bit m p) v.if-to_u64.false ∙ c.to_u64-in-loop-t.ensures.low p h)
          ∙ right) c.loop-t.invariant.alike
    ] in
    record { alike = subst (AreAlike xs ys i j) next alike }

pub returns-then-rest-eq0 : goal.returns-then-rest-eq0
returns-then-rest-eq0 g c =
    let w = g.T.BitStore.BITS in
    let r = rest_of_runs g.T.BitStore.value g.U.BitStore.value g.O.BitOrder.place g.P.BitOrder.place w g.U.BitStore.BITS c.BITS-width.result c.args.a.now c.args.b.now c.args.k c.args.l c.args.n (width_positive w g.met.T.BitStore.width) c.requires.alike.width c.BITS-width.ensures c.requires.first c.requires.second in
    let all : c.loop-t.t ≡ c.args.n / c.BITS-width.result = omega arith in
    alike_all _ _ (c.args.k * w) (c.args.l * w) c.args.n (c.args.n / c.BITS-width.result * w) (omega (arith, r.sum)) r.inside r.beside (rw all at c.loop-t.invariant.alike)

and_true : (b : Bool) → (b && true) ≡ b
and_true true = refl
and_true false = refl

and_false : (b : Bool) → (b && false) ≡ false
and_false true = refl
and_false false = refl

-- two runs of n bits with some after their whole words: words x and y have these, and v has the bits that differ of them
module _ {X Y : Type 0} (value : X → ℕ) (other : Y → ℕ) (place order : ℕ → ℕ → ℕ) (w u d : ℕ) (a : List X) (b : List Y) (k l n : ℕ) (positive : 0 < w) (width : u ≡ w) (same : d ≡ w) (first : k * w + n ≤ w * length a) (second : l * w + n ≤ w * length b)
    (some : 0 < n % d) (v : ℕ) (x : X) (y : Y) (is_x : x ≡ get_or a (k + n / d) x) (is_y : y ≡ get_or b (l + n / d) y)
    (bits : (q : ℕ) → q < w → has_bit v (place w q) ≡ ((if get_or (row_of place w (value x ∷ [])) q false then not (get_or (row_of order u (other y ∷ [])) q false) else get_or (row_of order u (other y ∷ [])) q false) && ltb q (n % d))) where
  abbrev xs : List Bool
  xs = row_of place w (map value a)

  abbrev ys : List Bool
  ys = row_of order u (map other b)

  -- how the runs lie
  lies : HasRest w n k l (length a) (length b) (length xs) (length ys) (n / d) (n % d)
  lies = rest_of_runs value other place order w u d a b k l n positive width same first second

  -- no bit of v is true past the runs
  apart_past : (q : ℕ) → q < w → n % d ≤ q → has_bit v (place w q) ≡ false
  apart_past q h past = bits q h ∙ ap (λ t. (if get_or (row_of place w (value x ∷ [])) q false then not (get_or (row_of order u (other y ∷ [])) q false) else get_or (row_of order u (other y ∷ [])) q false) && t) (le-ltb q (n % d) past) ∙ and_false (if get_or (row_of place w (value x ∷ [])) q false then not (get_or (row_of order u (other y ∷ [])) q false) else get_or (row_of order u (other y ∷ [])) q false)

  -- a bit of v tells whether two bits of the runs differ
  tells_apart : (q : ℕ) → q < n % d → has_bit v (place w q) ≡ (if get_or xs (k * w + (n / d * w + q)) false then not (get_or ys (l * w + (n / d * w + q)) false) else get_or ys (l * w + (n / d * w + q)) false)
  tells_apart q h =
      let r = lies in
      let inside : q < w = omega (arith, h, r.few) in
      bits q inside
      ∙ ap (λ t. (if get_or (row_of place w (value x ∷ [])) q false then not (get_or (row_of order u (other y ∷ [])) q false) else get_or (row_of order u (other y ∷ [])) q false) && t) (lt-ltb q (n % d) h)
      ∙ and_true (if get_or (row_of place w (value x ∷ [])) q false then not (get_or (row_of order u (other y ∷ [])) q false) else get_or (row_of order u (other y ∷ [])) q false)
      ∙ ap (λ t. if t then not (get_or (row_of order u (other y ∷ [])) q false) else get_or (row_of order u (other y ∷ [])) q false) (bit_here value place w w a k (n / d) x positive refl (r.here some) is_x q inside)
      ∙ ap (λ t. if get_or xs (k * w + (n / d * w + q)) false then not t else t) (bit_here other order w u b l (n / d) y positive width (r.there some) is_y q inside)

  -- v has no bit, and the runs are the same up to there: they are the same
  equal_after : ((q : ℕ) → q < w → has_bit v (place w q) ≡ false) → AreAlike xs ys (k * w) (l * w) (n / d * w) → slice_range xs (k * w) (k * w + n) ≡ slice_range ys (l * w) (l * w + n)
  equal_after clear alike =
      let r = lies in
      alike_all xs ys (k * w) (l * w) n (n / d * w + n % d) (omega (arith, r.sum)) r.inside r.beside
      (alike_each xs ys (k * w) (l * w) (n / d * w) (n % d) (λ q h. same_if (get_or xs (k * w + (n / d * w + q)) false) (get_or ys (l * w + (n / d * w + q)) false) (sym (tells_apart q h) ∙ clear q (omega (arith, h, r.few)))) alike)

  -- the lowest bit of v in the order is where the runs differ first, if they are the same up to there
  differ_after : (z : ℕ) → ((q : ℕ) → q < w → has_bit z q ≡ has_bit v (place w q)) → ((q : ℕ) → w ≤ q → has_bit z q ≡ false) → z ≢ 0 → z < 2 ^ 64 → AreAlike xs ys (k * w) (l * w) (n / d * w)
      → IsFirstDifference (slice_range xs (k * w) (k * w + n)) (slice_range ys (l * w) (l * w + n)) (n / d * d + trailing_zeros w64 z)
  differ_after z turned none left fits alike =
      let r = lies in
      let past : (q : ℕ) → n % d ≤ q → has_bit z q ≡ false = λ q h. elim (cases_lt q w) [
        | inl m ↦ turned q m ∙ apart_past q m h
        | inr m ↦ none q m
      ] in
      subst (λ m. IsFirstDifference (slice_range xs (k * w) (k * w + n)) (slice_range ys (l * w) (l * w + n)) (n / d * m + trailing_zeros w64 z)) (sym same)
      (differ_by xs ys (k * w) (l * w) (n / d * w) (n % d) z (λ q h. turned q (omega (arith, h, r.few)) ∙ tells_apart q h) past n left fits (omega (arith, r.sum)) r.inside r.beside alike)

pub returns-then-to_u64-eq0 : goal.returns-then-to_u64-eq0
returns-then-to_u64-eq0 g c =
    let w = g.T.BitStore.BITS in
    let place = g.O.BitOrder.place in
    let all : c.loop-t.t ≡ c.args.n / c.BITS-width.result = omega arith in
    let clear : (q : ℕ) → q < w → has_bit (g.T.BitStore.value c.first_bits_apart-apart.result) (place w q) ≡ false = λ q h.
    let below = (g.met.O.BitOrder.lawful w g.met.T.BitStore.width).in_range q h in
    sym (c.to_u64-2.ensures.low (place w q) below) ∙ ap (λ m. has_bit m (place w q)) c.if-to_u64-eq0.true ∙ has_none (place w q) in
    equal_after g.T.BitStore.value g.U.BitStore.value g.O.BitOrder.place g.P.BitOrder.place w g.U.BitStore.BITS c.BITS-width.result c.args.a.now c.args.b.now c.args.k c.args.l c.args.n (width_positive w g.met.T.BitStore.width) c.requires.alike.width c.BITS-width.ensures c.requires.first c.requires.second (omega arith) _ c.index-a-k-2.result c.index-b-l-2.result c.index-a-k-2.is c.index-b-l-2.is c.first_bits_apart-apart.ensures
    clear (rw all at c.loop-t.invariant.alike)

pub returns : goal.returns
returns g c =
    let w = g.T.BitStore.BITS in
    let place = g.O.BitOrder.place in
    let positive = width_positive w g.met.T.BitStore.width in
    let lawful = g.met.O.BitOrder.lawful w g.met.T.BitStore.width in
    let all : c.loop-t.t ≡ c.args.n / c.BITS-width.result = omega arith in
    let v = g.T.BitStore.value c.first_bits_apart-apart.result in
    let z = c.word_number-2.result in
    let one : List Bool = row g.T.BitStore g.O.BitOrder (c.first_bits_apart-apart.result ∷ []) in
    let size : length one ≡ w * 1 = length_row g.T.BitStore.value place w (c.first_bits_apart-apart.result ∷ []) in
    let number : (q : ℕ) → has_bit z q ≡ get_or one q false = λ q. ap (λ m. has_bit m q) c.word_number-2.ensures ∙ has_number one q in
    let turned : (q : ℕ) → q < w → has_bit z q ≡ has_bit v (place w q) = λ q h. number q ∙ get_or-row_one place w v q positive h in
    let left : z ≢ 0 = λ none. c.if-to_u64-eq0.false (turned_none w (place w) v z c.to_u64-2.result lawful turned c.to_u64-2.ensures.low c.to_u64-2.ensures.high c.to_u64-2.type_inv none) in
    differ_after g.T.BitStore.value g.U.BitStore.value g.O.BitOrder.place g.P.BitOrder.place w g.U.BitStore.BITS c.BITS-width.result c.args.a.now c.args.b.now c.args.k c.args.l c.args.n (width_positive w g.met.T.BitStore.width) c.requires.alike.width c.BITS-width.ensures c.requires.first c.requires.second (omega arith) v c.index-a-k-2.result c.index-b-l-2.result c.index-a-k-2.is c.index-b-l-2.is c.first_bits_apart-apart.ensures
    z turned (λ q m. number q ∙ get_or_past one q false (omega (arith, m, size))) left c.word_number-2.type_inv (rw all at c.loop-t.invariant.alike)

pub overflow_add-result-2 : goal.overflow_add-result-2
overflow_add-result-2 g c =
    let inside = index_in_row g.T.BitStore.value g.O.BitOrder.place g.T.BitStore.BITS c.args.a.now _ c.requires.first in
    let below = below_run _ _ _ c.args.n _ inside (returns g c) in
    omega arith
