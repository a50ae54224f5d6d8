-- What a container with a head has after its words were written: the laws of its impl of `BitListMut`.
use Rattle.std.proofs.Common.{◌≡◌, ℕ, ◌+◌, ◌*◌, ◌≤◌, Bool, List, length, map, slice_range, refl, sym, ◌∙◌, ap, arith}
use Rattle.std.specs.List.{refill, length_refill}
use Rattle.bit_addressing.specs.Row.{row_of}
use Rattle.bit_addressing.proofs.lists.Refilled.{refilled}
use Rattle.bit_addressing.proofs.Typed.{length_row}
use Rattle.bit_addressing.proofs.lists.Shown.{length-run}

-- words with a list that begins at a head, and other words, as many: of a box and of a vector
module _ {X : Type 0} (value : X → ℕ) (place : ℕ → ℕ → ℕ) (w : ℕ) (words : List X) (head : ℕ) (list : List Bool) (ws : List X) where
  abbrev pub words_now : List X
  words_now = refill (length words) words ws

  abbrev pub seen_in : List X → List Bool
  seen_in xs = slice_range (row_of place w (map value xs)) head (head + length list)

  -- words written back with their number kept are the words now
  pub kept_words : length ws ≡ length words → words_now ≡ ws
  kept_words e = refilled (length words) words ws e

  -- their row is the row now
  pub kept_row : length ws ≡ length words → row_of place w (map value words_now) ≡ row_of place w (map value ws)
  kept_row e = ap (λ k. row_of place w (map value k)) (kept_words e)

  -- the list written back is what they show
  pub kept_list : length ws ≡ length words → head + length list ≤ w * length ws → refill (length list) list (seen_in words_now) ≡ seen_in ws
  kept_list e fits =
      let size = length_row value place w ws in
      ap (λ k. refill (length list) list (seen_in k)) (kept_words e)
      ∙ refilled (length list) list (seen_in ws) (length-run (row_of place w (map value ws)) head (length list) (omega (arith, size, fits)))

  -- its length stays
  pub kept_len : length (refill (length list) list (seen_in words_now)) ≡ length list
  kept_len = sym (length_refill (length list) list (seen_in words_now) refl)

  -- their number stays
  pub kept_count : length words_now ≡ length words
  kept_count = sym (length_refill (length words) words ws refl)
