-- Lists that are written over twice, and exchanged.
use Rattle.std.proofs.Common.{◌≡◌, ◌+◌, ◌<◌, ◌≤◌, ℕ, Bool, List, length, not, if◌then◌else◌, sym, ◌∙◌, ap, arith, rules}
use Rattle.std.proofs.Math.Nat.{mul-le-mul_left}
use Rattle.std.proofs.lemmas.List.{places, same_lists}
use Rattle.bit_addressing.specs.Row.{put, words_for}
use Rattle.bit_addressing.specs.Typed.{row}
use Rattle.bit_addressing.specs.declared.store.BitStore as store
use Rattle.bit_addressing.specs.declared.order.BitOrder as order
use Rattle.bit_addressing.proofs.lists.Sized.{room}
use Rattle.bit_slice.specs.Operators.{xor_of}
use Rattle.bit_slice.proofs.Combining.{length-combined}
use Rattle.bit_slice.proofs.Parts.{in_row}
use Rattle.bit_slice.proofs.Rules.{xor_back, xor_other}

-- what is put over other items in their place
pub put_again : (xs ys zs : List Bool) (d : ℕ) → length ys ≡ length zs → d + length zs ≤ length xs → put (put xs d ys) d zs ≡ put xs d zs
unfolding put
put_again xs ys zs d same h = same_lists _ _ (search (rules, places)) (λ i b below. grind (arith, places))

-- bits that the words have room for lie in their row
pub in_words : {X Y : Type 0} (W : store.Ghosts X) (P : order.Ghosts Y) (ws : List X) (n : ℕ) (bits : List Bool) → 0 < W.BITS → words_for W.BITS n ≤ length ws → bits ≡ row W P ws → n ≤ length bits
in_words W P ws n bits some fits is =
    let need = (room W.BITS n some).0 in
    let have = mul-le-mul_left W.BITS fits in
    let there = in_row W P ws n (omega arith) in
    let size = ap length is in
    omega arith

-- two lists of one length of which each is combined with the other in turn, by three steps
module _ (a b first second third : List Bool) (size : length a ≡ length b) (one : first ≡ xor_of a b) (two : second ≡ xor_of b first) (three : third ≡ xor_of first second) where
  -- the second list now holds the first one's bits
  pub second_is : second ≡ a
  second_is = two ∙ ap (xor_of b) one ∙ xor_back a b size

  -- after three combinations the first list holds the second one's bits
  pub third_is : third ≡ b
  third_is = three ∙ ap (xor_of first) second_is ∙ ap (λ l. xor_of l a) one ∙ xor_other a b size

  -- the row of the first, which is written twice
  pub row_is : (row0 row1 row2 : List Bool) (head0 head1 : ℕ) → head1 ≡ head0 → head0 + length b ≤ length row0 → row1 ≡ put row0 head0 (xor_of a b) → row2 ≡ put row1 head1 (xor_of first second) → row2 ≡ put row0 head0 b
  row_is row0 row1 row2 head0 head1 same inside wrote again =
      let made : xor_of first second ≡ b = sym three ∙ third_is in
      let long : length (xor_of a b) ≡ length b = length-combined (λ x y. if x then not y else y) a b ∙ size in
      again ∙ ap (put row1 head1) made ∙ ap (λ h. put row1 h b) same ∙ ap (λ l. put l head0 b) wrote ∙ put_again row0 (xor_of a b) b head0 long inside
