-- Words that are by the order from the most significant bit until they are turned.
use Rattle.std.proofs.Common.{◌≡◌, ℕ, suc, ◌+◌, ◌-◌, ◌*◌, ◌<◌, ◌≤◌, Bool, false, List, [], ◌∷◌, ◌++◌, length, map, take, drop, set, get_or, slice_range, append-nil, append_assoc, refl, sym, ◌∙◌, ap, arith}
use Rattle.std.proofs.Math.Seq.{drop-cons, take-suc-set}
use Rattle.std.proofs.lemmas.List.{drop_all, drop-append-le, drop-set-lt, get_or-set_other, length-append, length-set, map-append, take_all, take-append-drop, take-append-le}
use Rattle.bit_addressing.specs.declared.store.BitStore as store
use Rattle.bit_addressing.specs.declared.order.BitOrder as order
use Rattle.bit_addressing.specs.Bits.{has_bit}
use Rattle.bit_addressing.specs.Row.{binary, row_of}
use Rattle.bit_addressing.specs.Typed.{row}
use Rattle.bit_addressing.proofs.Packs.{row_from}
use Rattle.bit_addressing.proofs.Rows.{get_or-row_one, length-row_of, mul_add, row_append, row_of_none}
use Rattle.bit_addressing.proofs.Typed.{length_row}
use Rattle.bit_rows.proofs.Binary.{length-binary, get_or-binary}
use Rattle.bit_streams.specs.Streams.{highest_first, written_row}
use Rattle.bit_streams.proofs.Lists.{slice_whole}

-- a word of 64 bits has by the order from the most significant bit the digits of its number
pub one_block : (w v n : ℕ) → w ≡ 64 → ((p : ℕ) → p < w → has_bit v p ≡ has_bit n p) → row_of highest_first w (v ∷ []) ≡ binary 64 n
one_block w v n wide same =
    let digits = binary 64 n in
    let long = length-binary 64 n in
    row_from highest_first w v 0 digits (omega arith) (omega arith)
    (λ i h. let e : w - 1 - i ≡ 64 - 1 - i = omega arith in let a : i ≡ 0 + i = omega arith in same (w - 1 - i) (omega arith) ∙ ap (has_bit n) e ∙ sym (get_or-binary 64 n i (omega arith)) ∙ ap (λ k. get_or digits k false) a)
    ∙ ap (slice_range digits 0) (let e : 0 + w ≡ w = omega arith in e) ∙ slice_whole w digits (long ∙ sym wide)

-- a word turned has by its order the bits of the word before
pub word_turned : (place : ℕ → ℕ → ℕ) (w x v y : ℕ) → 0 < w → ((p : ℕ) → p < w → has_bit v p ≡ has_bit x (w - 1 - p)) → ((i : ℕ) → i < w → has_bit y (place w i) ≡ has_bit v i) → row_of place w (y ∷ []) ≡ row_of highest_first w (x ∷ [])
word_turned place w x v y positive turn from =
    let was = row_of highest_first w (x ∷ []) in
    let long : length was ≡ w * 1 = length-row_of highest_first w (x ∷ []) in
    row_from place w y 0 was positive (omega arith)
    (λ i h. let a : i ≡ 0 + i = omega arith in from i h ∙ turn i h ∙ sym (get_or-row_one highest_first w x i positive h) ∙ ap (λ k. get_or was k false) a)
    ∙ ap (slice_range was 0) (let e : 0 + w ≡ w = omega arith in e) ∙ slice_whole w was (omega arith)

module _ {X Y : Type 0} (W : store.Ghosts X) (P : order.Ghosts Y) where
  abbrev w : ℕ
  w = W.BITS

  -- by the order from the most significant bit
  abbrev late_row : List X → List Bool
  late_row ws = row_of highest_first w (map W.value ws)

  -- where no word is late, the bits are the words' row
  pub none_late : (ws : List X) → written_row W P 0 ws ≡ row W P ws
  unfolding written_row
  none_late ws =
      let n : length ws - 0 ≡ length ws = omega arith in
      ap (λ k. row W P (take k ws) ++ late_row (drop k ws)) n
      ∙ ap (λ l. row W P l ++ late_row (drop (length ws) ws)) (take_all (length ws) ws (omega arith))
      ∙ ap (λ l. row W P ws ++ late_row l) (drop_all (length ws) ws (omega arith))
      ∙ ap (λ l. row W P ws ++ l) (row_of_none highest_first w) ∙ append-nil (row W P ws)

  -- late or not, the words have all of their bits
  pub length-written_row : (late : ℕ) (ws : List X) → length (written_row W P late ws) ≡ w * length ws
  unfolding written_row
  length-written_row late ws =
      let k : ℕ = length ws - late in
      length-append (row W P (take k ws)) (late_row (drop k ws))
      ∙ ap (λ n. n + length (late_row (drop k ws))) (length_row W.value P.place w (take k ws))
      ∙ ap (λ n. w * length (take k ws) + n) (length_row W.value highest_first w (drop k ws))
      ∙ mul_add w (length (take k ws)) (length (drop k ws))
      ∙ ap (λ n. w * n) (sym (length-append (take k ws) (drop k ws)) ∙ ap length (take-append-drop k ws))

  -- one more late word
  pub late_pushed : (ws : List X) (late : ℕ) (x : X) → 0 < w → late ≤ length ws → written_row W P (late + 1) (ws ++ x ∷ []) ≡ written_row W P late ws ++ late_row (x ∷ [])
  unfolding written_row
  late_pushed ws late x positive all =
      let k : ℕ = length ws - late in
      let long : length (ws ++ x ∷ []) ≡ length ws + 1 = length-append ws (x ∷ []) in
      let same : length (ws ++ x ∷ []) - (late + 1) ≡ k = omega arith in
      ap (λ n. row W P (take n (ws ++ x ∷ [])) ++ late_row (drop n (ws ++ x ∷ []))) same
      ∙ ap (λ l. row W P l ++ late_row (drop k (ws ++ x ∷ []))) (take-append-le k ws (x ∷ []) (omega arith))
      ∙ ap (λ l. row W P (take k ws) ++ late_row l) (drop-append-le k ws (x ∷ []) (omega arith))
      ∙ ap (λ l. row W P (take k ws) ++ row_of highest_first w l) (map-append W.value (drop k ws) (x ∷ []))
      ∙ ap (λ l. row W P (take k ws) ++ l) (row_append highest_first w (map W.value (drop k ws)) (W.value x ∷ []) positive)
      ∙ sym (append_assoc (row W P (take k ws)) (late_row (drop k ws)) (late_row (x ∷ [])))

  -- the first of the late words is turned
  pub one_turned : (ws : List X) (late less k : ℕ) (x y : X) → 0 < w → k + late ≡ length ws → late ≡ less + 1 → x ≡ get_or ws k x → row W P (y ∷ []) ≡ late_row (x ∷ []) → written_row W P less (set ws k y) ≡ written_row W P late ws
  unfolding written_row
  one_turned ws late less k x y positive all more here is =
      let inside : k < length ws = omega arith in
      let long = length-set ws k y in
      let was : length ws - late ≡ k = omega arith in
      let now : length (set ws k y) - less ≡ suc k = omega arith in
      let front = row W P (take k ws) in
      let back = late_row (drop (suc k) ws) in
      ap (λ n. row W P (take n (set ws k y)) ++ late_row (drop n (set ws k y))) now
      ∙ ap (λ l. row W P l ++ late_row (drop (suc k) (set ws k y))) (take-suc-set ws k y inside)
      ∙ ap (λ l. row W P (take k ws ++ y ∷ []) ++ late_row l) (drop-set-lt (suc k) ws k y (omega arith))
      ∙ ap (λ l. row_of P.place w l ++ back) (map-append W.value (take k ws) (y ∷ []))
      ∙ ap (λ l. l ++ back) (row_append P.place w (map W.value (take k ws)) (W.value y ∷ []) positive)
      ∙ append_assoc front (row W P (y ∷ [])) back
      ∙ ap (λ l. front ++ (l ++ back)) is
      ∙ ap (λ l. front ++ l) (sym (row_append highest_first w (W.value x ∷ []) (map W.value (drop (suc k) ws)) positive))
      ∙ ap (λ v. front ++ late_row (v ∷ drop (suc k) ws)) here
      ∙ ap (λ l. front ++ late_row l) (sym (drop-cons ws k x inside))
      ∙ ap (λ n. row W P (take n ws) ++ late_row (drop n ws)) (sym was)

  -- the first two of them are turned
  pub two_turned : (ws : List X) (late less k : ℕ) (x a y b : X) → 0 < w → k + late ≡ length ws → late ≡ less + 2 → x ≡ get_or ws k x → a ≡ get_or ws (k + 1) a → row W P (y ∷ []) ≡ late_row (x ∷ []) → row W P (b ∷ []) ≡ late_row (a ∷ [])
      → written_row W P less (set (set ws k y) (k + 1) b) ≡ written_row W P late ws
  two_turned ws late less k x a y b positive all more first second is_first is_second =
      let long = length-set ws k y in
      one_turned (set ws k y) (less + 1) less (k + 1) a b positive (omega arith) refl (second ∙ sym (get_or-set_other ws k (k + 1) y a (omega arith))) is_second
      ∙ one_turned ws late (less + 1) k x y positive all (omega arith) first is_first
