use Rattle.std.proofs.Common.{◌≡◌, ◌≢◌, ℕ, ◌∙◌, false, ◌+◌, ◌-◌, ◌*◌, ◌%◌, ◌<◌, ◌≤◌, ◌++◌, [], ◌∷◌, length, replicate, slice_range, OnOk, append_assoc, refl, sym, ap, subst, arith}
use Rattle.std.proofs.Math.Nat.{mod-lt}
use Rattle.bit_addressing.specs.Bits.{has_bit}
use Rattle.bit_addressing.specs.Row.{number_bits, put, row_bit, row_of, sized, words_for}
use Rattle.bit_addressing.specs.Typed.{row}
use Rattle.bit_addressing.proofs.Rows.{length-row_of, width_positive, width_small}
use Rattle.bit_addressing.proofs.Runs.{slices_joined}
use Rattle.bit_addressing.proofs.Typed.{length_row}
use Rattle.bit_addressing.proofs.lists.Shown.{length-between, length-run}
use Rattle.bit_addressing.proofs.lists.Sized.{room, sized_same}
use Rattle.bit_rows.proofs.Grown.{full_words, odd_words, same_words}
use Rattle.bit_rows.proofs.Pushed.{block_appended, block_over, first_of_number, left_bits, some_bits, within_block, words_within_block}
use Rattle.bit_rows.proofs.pushes.push_block.Goals as goal
use Rattle.bit_rows.proofs.pushes.push_block.Goals.{else-low-gt0-via-then-low-gt0+else-n-room, else-low-gt0-via-else-low-gt0}

pub write_front-requires-clause-within : goal.write_front-requires-clause-within
write_front-requires-clause-within g c =
    let w = g.T.BitStore.BITS in
    let end = c.args.end in
    let odd : end % w ≢ 0 = λ e. absurd (omega (arith, ap (λ m. end % m) c.BITS.ensures, e)) in
    let fits : c.args.n ≤ w - end % w = rw c.BITS.ensures at (rw c.BITS-2.ensures at c.if-n-room.true) in
    let o = odd_words w end (length c.args.words.now.items) (width_positive w g.met.T.BitStore.width) c.requires.count odd in
    omega (arith, o.1)

pub returns-then-n-room-clause-size : goal.returns-then-n-room-clause-size
returns-then-n-room-clause-size g c =
    let w = g.T.BitStore.BITS in
    let end = c.args.end in
    let odd : end % w ≢ 0 = λ e. absurd (omega (arith, ap (λ m. end % m) c.BITS.ensures, e)) in
    let fits : c.args.n ≤ w - end % w = rw c.BITS.ensures at (rw c.BITS-2.ensures at c.if-n-room.true) in
    c.write_front.ensures.size ∙ sym (same_words w end c.args.n (length c.args.words.now.items) (width_positive w g.met.T.BitStore.width) c.requires.count odd fits)

pub returns-then-n-room-clause-room : goal.returns-then-n-room-clause-room
returns-then-n-room-clause-room g c = rw (returns-then-n-room-clause-size g c) ((room g.T.BitStore.BITS (c.args.end + c.args.n) (width_positive _ g.met.T.BitStore.width)).0)

pub returns-then-n-room-clause-bits : goal.returns-then-n-room-clause-bits
returns-then-n-room-clause-bits g c =
    let w = g.T.BitStore.BITS in
    let end = c.args.end in
    let items = c.args.words.now.items in
    let old = row g.T.BitStore g.O.BitOrder items in
    let odd : end % w ≢ 0 = λ e. absurd (omega (arith, ap (λ m. end % m) c.BITS.ensures, e)) in
    let fits : c.args.n ≤ w - end % w = rw c.BITS.ensures at (rw c.BITS-2.ensures at c.if-n-room.true) in
    let same = same_words w end c.args.n (length items) (width_positive w g.met.T.BitStore.width) c.requires.count odd fits in
    let size : length old ≡ w * words_for w (end + c.args.n) = length_row g.T.BitStore.value g.O.BitOrder.place w items ∙ ap (λ m. w * m) (sym same) in
    c.write_front.ensures.bits ∙ ap (λ r. put r end (slice_range (row_of g.O.BitOrder.place 64 (c.args.block ∷ [])) 0 (0 + c.args.n))) (sym (sized_same w old (end + c.args.n) size))

pub returns-then-capacity-len-clause-bits : goal.returns-then-capacity-len-clause-bits
returns-then-capacity-len-clause-bits g c =
    let w = g.T.BitStore.BITS in
    let n = c.args.n in
    let b = row_of g.O.BitOrder.place 64 (c.args.block ∷ []) in
    let long : length b ≡ 64 = length-row_of g.O.BitOrder.place 64 (c.args.block ∷ []) in
    let bits : number_bits c.word_number.result n ≡ slice_range b 0 (0 + n) = ap (λ x. number_bits x n) c.word_number.ensures ∙ first_of_number b n (omega (arith, c.requires.few)) in
    let done = c.pushed_by_words-grown.result.1 in
    let grown = c.pushed_by_words-grown.result.0 in
    let upto : ℕ = c.args.end + n in
    let before : OnOk done (row g.T.BitStore g.O.BitOrder grown.items ≡ put (sized w (row g.T.BitStore g.O.BitOrder c.args.words.now.items) upto) c.args.end (number_bits c.word_number.result n)) =
    subst (λ v. OnOk done (row g.T.BitStore g.O.BitOrder grown.items ≡ put (sized w (row g.T.BitStore g.O.BitOrder v.items) upto) c.args.end (number_bits c.word_number.result n))) c.replace-old.ensures.value c.pushed_by_words-grown.ensures.bits in
    let after : OnOk done (row g.T.BitStore g.O.BitOrder c.replace-empty.new.dest.items ≡ put (sized w (row g.T.BitStore g.O.BitOrder c.args.words.now.items) upto) c.args.end (number_bits c.word_number.result n)) =
    subst (λ v. OnOk done (row g.T.BitStore g.O.BitOrder v.items ≡ put (sized w (row g.T.BitStore g.O.BitOrder c.args.words.now.items) upto) c.args.end (number_bits c.word_number.result n))) (sym c.replace-empty.ensures.after) before in
    subst (λ l. OnOk done (row g.T.BitStore g.O.BitOrder c.replace-empty.new.dest.items ≡ put (sized w (row g.T.BitStore g.O.BitOrder c.args.words.now.items) upto) c.args.end l)) bits after

pub cut_words_in_vec-requires : goal.cut_words_in_vec-requires
cut_words_in_vec-requires g c =
    let w = g.T.BitStore.BITS in
    let end = c.args.end in
    let count = length c.args.words.now.items in
    let even : end % w ≡ 0 = ap (λ m. end % m) (sym c.BITS.ensures) ∙ c.if-low-eq0.true in
    let full : w * count ≡ end = full_words w end count (width_positive w g.met.T.BitStore.width) c.requires.count even in
    within_block w _ count c.args.n end g.met.T.BitStore.width (omega arith) c.requires.few c.append_block_in_vec.ensures.size

pub returns-then-low-eq0-clause-bits : goal.returns-then-low-eq0-clause-bits
returns-then-low-eq0-clause-bits g c =
    let w = g.T.BitStore.BITS in
    let place = g.O.BitOrder.place in
    let end = c.args.end in
    let n = c.args.n in
    let block = c.args.block in
    let items = c.args.words.now.items in
    let count = length items in
    let old = row g.T.BitStore g.O.BitOrder items in
    let positive = width_positive w g.met.T.BitStore.width in
    let b = row_of place 64 (block ∷ []) in
    let long : length b ≡ 64 = length-row_of place 64 (block ∷ []) in
    let ys = slice_range b 0 (0 + n) in
    let first : length ys ≡ n = length-run b 0 n (omega (arith, c.requires.few)) in
    let even : end % w ≡ 0 = ap (λ m. end % m) (sym c.BITS.ensures) ∙ c.if-low-eq0.true in
    let full : w * count ≡ end = full_words w end count positive c.requires.count even in
    let size : length old ≡ w * count = length_row g.T.BitStore.value place w items in
    let most = words_within_block w count n end g.met.T.BitStore.width (omega arith) c.requires.few in
    let least = (room w (end + n) positive).0 in
    c.cut_words_in_vec.ensures.bits
    ∙ ap (λ r. sized w r (end + n)) (c.append_block_in_vec.ensures.bits ∙ ap (λ l. old ++ l) (some_bits place block n c.requires.few c.requires.rest) ∙ sym (append_assoc old ys (replicate (64 - n) false)))
    ∙ block_appended w old ys (64 - n) end (end + n) (omega (arith, size, full)) (omega (arith, size, full, first, least)) (omega (arith, size, full, first, most, c.requires.few))

pub cut_words_in_vec-requires-2 : goal.cut_words_in_vec-requires-2
cut_words_in_vec-requires-2 g c =
    let w = g.T.BitStore.BITS in
    let end = c.args.end in
    let count = length c.args.words.now.items in
    let odd : end % w ≢ 0 = λ e. c.if-low-eq0.false (ap (λ m. end % m) c.BITS.ensures ∙ e) in
    let o = odd_words w end count (width_positive w g.met.T.BitStore.width) c.requires.count odd in
    within_block w _ count c.args.n end g.met.T.BitStore.width (omega (arith, o.1)) c.requires.few c.append_block_in_vec-2.ensures.size

pub returns-clause-bits : goal.returns-clause-bits
returns-clause-bits g c =
    let w = g.T.BitStore.BITS in
    let place = g.O.BitOrder.place in
    let end = c.args.end in
    let n = c.args.n in
    let block = c.args.block in
    let items = c.args.words.now.items in
    let count = length items in
    let old = row g.T.BitStore g.O.BitOrder items in
    let positive = width_positive w g.met.T.BitStore.width in
    let b = row_of place 64 (block ∷ []) in
    let long : length b ≡ 64 = length-row_of place 64 (block ∷ []) in
    let split : ℕ = c.BITS-2.result - end % c.BITS.result in
    let is : split ≡ w - end % w = rw (c.BITS-2.ensures, c.BITS.ensures) refl in
    let odd : end % w ≢ 0 = λ e. c.if-low-eq0.false (ap (λ m. end % m) c.BITS.ensures ∙ e) in
    let o = odd_words w end count positive c.requires.count odd in
    let size : length old ≡ w * count = length_row g.T.BitStore.value place w items in
    let low : end % w < w = mod-lt end positive in
    let over : split < n = elim c.else-low-gt0.branch [
      | else-low-gt0-via-then-low-gt0+else-n-room x ↦ omega (arith, x.if-n-room.false)
      | else-low-gt0-via-else-low-gt0 x ↦ absurd (omega (arith, x.if-low-gt0.false, c.if-low-eq0.false))
    ] in
    let small = width_small w g.met.T.BitStore.width in
    let ys = slice_range b 0 (0 + split) in
    let zs = slice_range b split n in
    let first : length ys ≡ split = length-run b 0 split (omega (arith, over, c.requires.few)) in
    let last : length zs ≡ n - split = length-between b split n (omega (arith, c.requires.few)) in
    let window : (i : ℕ) → i < 64 → has_bit c.window-rest.result (place 64 i) ≡ row_bit place 64 (block ∷ 0 ∷ []) (split + i) = λ i h. c.window-rest.ensures i h ∙ ap (λ m. row_bit place 64 (block ∷ 0 ∷ []) (m + i)) c.new_unchecked.ensures in
    let rest = left_bits place block c.window-rest.result split n (omega (arith, over)) c.requires.few c.requires.rest window in
    let most = words_within_block w count n end g.met.T.BitStore.width (omega (arith, o.1)) c.requires.few in
    let least = (room w (end + n) positive).0 in
    let front : split ≡ 0 + split = omega arith in
    let all : c.args.n ≡ 0 + c.args.n = omega arith in
    let both : ys ++ zs ≡ slice_range b 0 (0 + n) = ap (λ m. ys ++ slice_range b m n) front ∙ slices_joined b 0 (0 + split) n (omega arith) (omega (arith, over)) (omega (arith, c.requires.few)) ∙ ap (slice_range b 0) all in
    c.write_front-2.ensures.bits
    ∙ ap (λ r. put r end ys) (c.cut_words_in_vec-2.ensures.bits
    ∙ ap (λ r. sized w r (end + n)) (c.append_block_in_vec-2.ensures.bits ∙ ap (λ l. old ++ l) rest ∙ sym (append_assoc old zs (replicate (64 - (n - split)) false))))
    ∙ block_over w old ys zs (64 - (n - split)) end (end + n) (omega (arith, size, first, is, o.1)) (omega (arith, size, last, least, is, over, o.1)) (omega (arith, size, last, most, over, c.requires.few))
    ∙ ap (put (sized w old (end + n)) end) both
