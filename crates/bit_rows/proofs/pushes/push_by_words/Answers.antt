use Rattle.std.proofs.Common.{◌≡◌, ◌≢◌, ℕ, ◌∙◌, ◌+◌, ◌-◌, ◌*◌, ◌/◌, ◌%◌, ◌^◌, ◌<◌, ◌≤◌, length, refl, sym, ap, arith}
use Rattle.std.proofs.Math.Nat.{mod-lt}
use Rattle.bit_addressing.specs.Row.{number_bits, put, sized, words_for}
use Rattle.bit_addressing.specs.Typed.{row}
use Rattle.bit_rows.proofs.Binary.{length-number_bits, number_bits_none}
use Rattle.bit_rows.proofs.Grown.{full_words, more_words, number_bits_parted, odd_words, one_word_more, part_appended, part_over, same_words, words_for_is}
use Rattle.bit_addressing.proofs.Rows.{width_positive, width_small}
use Rattle.bit_addressing.proofs.Typed.{length_row}
use Rattle.bit_addressing.proofs.lists.Put.{put_none}
use Rattle.bit_addressing.proofs.lists.Sized.{room, sized_same}
use Rattle.std.proofs.lemmas.Result.{err_from_is_err_and}
use Rattle.bit_rows.proofs.pushes.push_by_words.Goals as goal
use Rattle.bit_rows.proofs.pushes.push_by_words.Goals.{After-push_part, After-push_part-2}
use Rattle.bit_rows.proofs.pushes.push_by_words.Given.{Over}
use Rattle.bit_rows.proofs.pushes.push_by_words.Goals.{else-BITS-lt64-via-then-BITS-lt64+else-n-BITS, else-BITS-lt64-via-else-BITS-lt64}

pub returns-then-n-eq0-clause-bits : goal.returns-then-n-eq0-clause-bits
returns-then-n-eq0-clause-bits g c =
    let w = g.T.BitStore.BITS in
    let end = c.args.end in
    let n = c.args.n in
    let items = c.args.words.now.items in
    let old = row g.T.BitStore g.O.BitOrder items in
    let bits = number_bits c.args.chunk n in
    let none : end + n ≡ end = omega arith in
    let size : length old ≡ w * words_for w end = length_row g.T.BitStore.value g.O.BitOrder.place w items ∙ ap (λ m. w * m) c.requires.count in
    sym (ap (λ m. put (sized w old m) end bits) none ∙ ap (λ r. put r end bits) (sized_same w old end size) ∙ ap (put old end) (ap (number_bits c.args.chunk) c.if-n-eq0.true ∙ number_bits_none c.args.chunk) ∙ put_none old end)

pub returns-then-low-eq0-clause-size : goal.returns-then-low-eq0-clause-size
returns-then-low-eq0-clause-size g c =
    let w = g.T.BitStore.BITS in
    let end = c.args.end in
    let n = c.args.n in
    let count = length c.args.words.now.items in
    let small = width_small w g.met.T.BitStore.width in
    let few : n ≤ w = elim c.else-BITS-lt64.branch [ else-BITS-lt64-via-then-BITS-lt64+else-n-BITS b ↦ omega arith | else-BITS-lt64-via-else-BITS-lt64 b ↦ omega arith ] in
    let even : end % w ≡ 0 = ap (λ m. end % m) (sym c.BITS-width.ensures) ∙ c.if-low-eq0.true in
    let full : w * count ≡ end = full_words w end count (width_positive w g.met.T.BitStore.width) c.requires.count even in
    c.in_ok-push_part.ensures.size ∙ sym (words_for_is w (end + n) count (width_positive w g.met.T.BitStore.width) (omega arith) (omega arith))

pub returns-then-low-eq0-clause-bits : goal.returns-then-low-eq0-clause-bits
returns-then-low-eq0-clause-bits g c =
    let w = g.T.BitStore.BITS in
    let end = c.args.end in
    let n = c.args.n in
    let items = c.args.words.now.items in
    let old = row g.T.BitStore g.O.BitOrder items in
    let positive = width_positive w g.met.T.BitStore.width in
    let small = width_small w g.met.T.BitStore.width in
    let few : n ≤ w = elim c.else-BITS-lt64.branch [ else-BITS-lt64-via-then-BITS-lt64+else-n-BITS b ↦ omega arith | else-BITS-lt64-via-else-BITS-lt64 b ↦ omega arith ] in
    let even : end % w ≡ 0 = ap (λ m. end % m) (sym c.BITS-width.ensures) ∙ c.if-low-eq0.true in
    let full : w * length items ≡ end = full_words w end (length items) positive c.requires.count even in
    let size : length old ≡ w * length items = length_row g.T.BitStore.value g.O.BitOrder.place w items in
    let count : words_for w (end + n) ≡ length items + 1 = words_for_is w (end + n) (length items) positive (omega arith) (omega arith) in
    c.in_ok-push_part.ensures.bits ∙ part_appended w old (number_bits c.args.chunk n) end (end + n) n (omega arith) (length-number_bits c.args.chunk n) few (one_word_more w (length old) (length items) _ size count)

pub returns-in_err-push_part-clause-full : goal.returns-in_err-push_part-clause-full
returns-in_err-push_part-clause-full g c =
    let w = g.T.BitStore.BITS in
    let end = c.args.end in
    let n = c.args.n in
    let count = length c.args.words.now.items in
    let small = width_small w g.met.T.BitStore.width in
    let few : n ≤ w = elim c.else-BITS-lt64.branch [ else-BITS-lt64-via-then-BITS-lt64+else-n-BITS b ↦ omega arith | else-BITS-lt64-via-else-BITS-lt64 b ↦ omega arith ] in
    let even : end % w ≡ 0 = ap (λ m. end % m) (sym c.BITS-width.ensures) ∙ c.if-low-eq0.true in
    let full : w * count ≡ end = full_words w end count (width_positive w g.met.T.BitStore.width) c.requires.count even in
    let next : words_for w (end + n) ≡ count + 1 = words_for_is w (end + n) count (width_positive w g.met.T.BitStore.width) (omega arith) (omega arith) in
    let p = err_from_is_err_and c.from_residual-in_err-push_part.result c.from_residual-in_err-push_part.ensures.1 in
    let most = c.in_err-push_part.ensures.full in
    rw p.1 (omega arith)

-- the last word, where it is not full
last_word : (w end count len : ℕ) → 0 < w → count ≡ words_for w end → end % w ≢ 0 → len ≡ count → (1 ≤ len) × (len - 1 < count) × ((len - 1) * w + end % w ≡ end)
last_word w end count len positive is odd same =
    let o = odd_words w end count positive is odd in
    let at : len - 1 ≡ end / w = omega (arith, o.3) in
    (omega (arith, o.3), omega (arith, o.3), ap (λ m. m * w + end % w) at ∙ o.2)

pub overflow_sub-k : goal.overflow_sub-k
overflow_sub-k g c =
    let w = g.T.BitStore.BITS in
    let odd : c.args.end % w ≢ 0 = λ e. c.if-low-eq0.false (ap (λ m. c.args.end % m) c.BITS-width.ensures ∙ e) in
    (last_word w c.args.end (length c.args.words.now.items) c.len-k.result (width_positive w g.met.T.BitStore.width) c.requires.count odd (c.len-k.ensures ∙ c.args.words.now.ok.0)).0

pub overflow_sub-k-2 : goal.overflow_sub-k-2
overflow_sub-k-2 g c =
    let w = g.T.BitStore.BITS in
    let odd : c.args.end % w ≢ 0 = λ e. c.if-low-eq0.false (ap (λ m. c.args.end % m) c.BITS-width.ensures ∙ e) in
    (last_word w c.args.end (length c.args.words.now.items) c.len-k-2.result (width_positive w g.met.T.BitStore.width) c.requires.count odd (c.len-k-2.ensures ∙ c.args.words.now.ok.0)).0

pub write_in_word-requires-clause-word : goal.write_in_word-requires-clause-word
write_in_word-requires-clause-word g c =
    let w = g.T.BitStore.BITS in
    let odd : c.args.end % w ≢ 0 = λ e. c.if-low-eq0.false (ap (λ m. c.args.end % m) c.BITS-width.ensures ∙ e) in
    (last_word w c.args.end (length c.args.words.now.items) c.len-k.result (width_positive w g.met.T.BitStore.width) c.requires.count odd (c.len-k.ensures ∙ c.args.words.now.ok.0)).1

pub returns-then-n-room-clause-size : goal.returns-then-n-room-clause-size
returns-then-n-room-clause-size g c =
    let w = g.T.BitStore.BITS in
    let odd : c.args.end % w ≢ 0 = λ e. c.if-low-eq0.false (ap (λ m. c.args.end % m) c.BITS-width.ensures ∙ e) in
    let fits : c.args.n ≤ w - c.args.end % w = rw c.BITS-width.ensures at (rw c.BITS-2.ensures at c.if-n-room.true) in
    c.write_in_word.ensures.size ∙ sym (same_words w c.args.end c.args.n (length c.args.words.now.items) (width_positive w g.met.T.BitStore.width) c.requires.count odd fits)

pub returns-then-n-room-clause-bits : goal.returns-then-n-room-clause-bits
returns-then-n-room-clause-bits g c =
    let w = g.T.BitStore.BITS in
    let end = c.args.end in
    let items = c.args.words.now.items in
    let old = row g.T.BitStore g.O.BitOrder items in
    let bits = number_bits c.args.chunk c.args.n in
    let positive = width_positive w g.met.T.BitStore.width in
    let odd : end % w ≢ 0 = λ e. c.if-low-eq0.false (ap (λ m. end % m) c.BITS-width.ensures ∙ e) in
    let fits : c.args.n ≤ w - end % w = rw c.BITS-width.ensures at (rw c.BITS-2.ensures at c.if-n-room.true) in
    let begin : (c.len-k.result - 1) * w + end % c.BITS-width.result ≡ end = ap (λ m. (c.len-k.result - 1) * w + end % m) c.BITS-width.ensures ∙ (last_word w end (length items) c.len-k.result positive c.requires.count odd (c.len-k.ensures ∙ c.args.words.now.ok.0)).2 in
    let size : length old ≡ w * words_for w (end + c.args.n) = length_row g.T.BitStore.value g.O.BitOrder.place w items ∙ ap (λ m. w * m) (sym (same_words w end c.args.n (length items) positive c.requires.count odd fits)) in
    c.write_in_word.ensures.bits ∙ ap (λ m. put old m bits) begin ∙ ap (λ r. put r end bits) (sym (sized_same w old (end + c.args.n) size))

pub write_in_word-requires-2-clause-word : goal.write_in_word-requires-2-clause-word
write_in_word-requires-2-clause-word g c =
    let w = g.T.BitStore.BITS in
    let odd : c.args.end % w ≢ 0 = λ e. c.if-low-eq0.false (ap (λ m. c.args.end % m) c.BITS-width.ensures ∙ e) in
    let below = (last_word w c.args.end (length c.args.words.now.items) c.len-k-2.result (width_positive w g.met.T.BitStore.width) c.requires.count odd (c.len-k-2.ensures ∙ c.args.words.now.ok.0)).1 in
    omega (arith, c.in_ok-push_part-2.ensures.size)

pub returns-clause-size : goal.returns-clause-size
returns-clause-size g c =
    let w = g.T.BitStore.BITS in
    let small = width_small w g.met.T.BitStore.width in
    let odd : c.args.end % w ≢ 0 = λ e. c.if-low-eq0.false (ap (λ m. c.args.end % m) c.BITS-width.ensures ∙ e) in
    let few : c.args.n ≤ w = elim c.else-BITS-lt64.branch [ else-BITS-lt64-via-then-BITS-lt64+else-n-BITS b ↦ omega arith | else-BITS-lt64-via-else-BITS-lt64 b ↦ omega arith ] in
    let over : w - c.args.end % w < c.args.n = rw c.BITS-width.ensures at (rw c.BITS-2.ensures at c.if-n-room.false) in
    c.write_in_word-2.ensures.size ∙ c.in_ok-push_part-2.ensures.size ∙ sym (more_words w c.args.end c.args.n (length c.args.words.now.items) (width_positive w g.met.T.BitStore.width) c.requires.count odd over few)

pub returns-clause-bits : goal.returns-clause-bits
returns-clause-bits g c =
    let w = g.T.BitStore.BITS in
    let end = c.args.end in
    let n = c.args.n in
    let chunk = c.args.chunk in
    let items = c.args.words.now.items in
    let old = row g.T.BitStore g.O.BitOrder items in
    let positive = width_positive w g.met.T.BitStore.width in
    let small = width_small w g.met.T.BitStore.width in
    let split : ℕ = c.BITS-2.result - end % c.BITS-width.result in
    let is : split ≡ w - end % w = rw (c.BITS-2.ensures, c.BITS-width.ensures) refl in
    let odd : end % w ≢ 0 = λ e. c.if-low-eq0.false (ap (λ m. end % m) c.BITS-width.ensures ∙ e) in
    let few : n ≤ w = elim c.else-BITS-lt64.branch [ else-BITS-lt64-via-then-BITS-lt64+else-n-BITS b ↦ omega arith | else-BITS-lt64-via-else-BITS-lt64 b ↦ omega arith ] in
    let over : w - end % w < n = rw c.BITS-width.ensures at (rw c.BITS-2.ensures at c.if-n-room.false) in
    let o = odd_words w end (length items) positive c.requires.count odd in
    let begin : (c.len-k-2.result - 1) * w + end % c.BITS-width.result ≡ end = ap (λ m. (c.len-k-2.result - 1) * w + end % m) c.BITS-width.ensures ∙ (last_word w end (length items) c.len-k-2.result positive c.requires.count odd (c.len-k-2.ensures ∙ c.args.words.now.ok.0)).2 in
    let size : length old ≡ w * length items = length_row g.T.BitStore.value g.O.BitOrder.place w items in
    let all : length old + w ≡ w * words_for w (end + n) = one_word_more w (length old) (length items) _ size (more_words w end n (length items) positive c.requires.count odd over few) in
    let front = number_bits chunk split in
    let rest = number_bits (chunk / 2 ^ split) (n - split) in
    let first : length front ≡ split = length-number_bits chunk split in
    let low : end % w < w = mod-lt end positive in
    c.write_in_word-2.ensures.bits ∙ ap (λ m. put (row g.T.BitStore g.O.BitOrder c.push_part-2.new.words.items) m front) begin
    ∙ ap (λ r. put r end front) c.in_ok-push_part-2.ensures.bits
    ∙ part_over w old front rest end (end + n) (n - split) (omega (arith, o.1)) (length-number_bits (chunk / 2 ^ split) (n - split)) (omega arith) all
    ∙ ap (put (sized w old (end + n)) end) (number_bits_parted chunk split (n - split) n (omega arith))

pub returns-in_err-push_part-2-clause-full : goal.returns-in_err-push_part-2-clause-full
returns-in_err-push_part-2-clause-full g c =
    let w = g.T.BitStore.BITS in
    let small = width_small w g.met.T.BitStore.width in
    let odd : c.args.end % w ≢ 0 = λ e. c.if-low-eq0.false (ap (λ m. c.args.end % m) c.BITS-width.ensures ∙ e) in
    let few : c.args.n ≤ w = elim c.else-BITS-lt64.branch [ else-BITS-lt64-via-then-BITS-lt64+else-n-BITS b ↦ omega arith | else-BITS-lt64-via-else-BITS-lt64 b ↦ omega arith ] in
    let over : w - c.args.end % w < c.args.n = rw c.BITS-width.ensures at (rw c.BITS-2.ensures at c.if-n-room.false) in
    let next = more_words w c.args.end c.args.n (length c.args.words.now.items) (width_positive w g.met.T.BitStore.width) c.requires.count odd over few in
    let p = err_from_is_err_and c.from_residual-in_err-push_part-2.result c.from_residual-in_err-push_part-2.ensures.1 in
    let most = c.in_err-push_part-2.ensures.full in
    rw p.1 (omega arith)

pub returns-then-low-eq0-clause-room : goal.returns-then-low-eq0-clause-room
returns-then-low-eq0-clause-room g c = rw (returns-then-low-eq0-clause-size g c) ((room g.T.BitStore.BITS (c.args.end + c.args.n) (width_positive _ g.met.T.BitStore.width)).0)

pub returns-then-n-room-clause-room : goal.returns-then-n-room-clause-room
returns-then-n-room-clause-room g c = rw (returns-then-n-room-clause-size g c) ((room g.T.BitStore.BITS (c.args.end + c.args.n) (width_positive _ g.met.T.BitStore.width)).0)

pub returns-clause-room : goal.returns-clause-room
returns-clause-room g c = rw (returns-clause-size g c) ((room g.T.BitStore.BITS (c.args.end + c.args.n) (width_positive _ g.met.T.BitStore.width)).0)

pub returns-then-n-eq0-clause-room : goal.returns-then-n-eq0-clause-room
returns-then-n-eq0-clause-room g c =
    let w = g.T.BitStore.BITS in
    let r = (room w c.args.end (width_positive w g.met.T.BitStore.width)).0 in
    rw c.requires.count (omega arith)

-- where the bits begin a word, they take one word more
one_more_even : (g : Over) (c : After-push_part g) → words_for g.T.BitStore.BITS (c.args.end + c.args.n) ≡ length c.args.words.now.items + 1
one_more_even g c =
    let w = g.T.BitStore.BITS in
    let end = c.args.end in
    let n = c.args.n in
    let count = length c.args.words.now.items in
    let small = width_small w g.met.T.BitStore.width in
    let few : n ≤ w = elim c.else-BITS-lt64.branch [ else-BITS-lt64-via-then-BITS-lt64+else-n-BITS b ↦ omega arith | else-BITS-lt64-via-else-BITS-lt64 b ↦ omega arith ] in
    let even : end % w ≡ 0 = ap (λ m. end % m) (sym c.BITS-width.ensures) ∙ c.if-low-eq0.true in
    let full : w * count ≡ end = full_words w end count (width_positive w g.met.T.BitStore.width) c.requires.count even in
    words_for_is w (end + n) count (width_positive w g.met.T.BitStore.width) (omega arith) (omega arith)

-- where they pass the end of a word, they take one word more too
one_more_odd : (g : Over) (c : After-push_part-2 g) → words_for g.T.BitStore.BITS (c.args.end + c.args.n) ≡ length c.args.words.now.items + 1
one_more_odd g c =
    let w = g.T.BitStore.BITS in
    let small = width_small w g.met.T.BitStore.width in
    let odd : c.args.end % w ≢ 0 = λ e. c.if-low-eq0.false (ap (λ m. c.args.end % m) c.BITS-width.ensures ∙ e) in
    let few : c.args.n ≤ w = elim c.else-BITS-lt64.branch [ else-BITS-lt64-via-then-BITS-lt64+else-n-BITS b ↦ omega arith | else-BITS-lt64-via-else-BITS-lt64 b ↦ omega arith ] in
    let over : w - c.args.end % w < c.args.n = rw c.BITS-width.ensures at (rw c.BITS-2.ensures at c.if-n-room.false) in
    more_words w c.args.end c.args.n (length c.args.words.now.items) (width_positive w g.met.T.BitStore.width) c.requires.count odd over few

pub returns-in_err-push_part-clause-no_memory : goal.returns-in_err-push_part-clause-no_memory
returns-in_err-push_part-clause-no_memory g c h =
    let next : words_for g.T.BitStore.BITS (c.args.end + c.args.n) ≡ length c.args.words.now.items + 1 = one_more_even g c.before.before.before in
    c.push_part.ensures.no_memory (omega arith)

pub returns-then-low-eq0-clause-no_memory : goal.returns-then-low-eq0-clause-no_memory
returns-then-low-eq0-clause-no_memory g c h =
    let next : words_for g.T.BitStore.BITS (c.args.end + c.args.n) ≡ length c.args.words.now.items + 1 = one_more_even g c.before.before in
    c.push_part.ensures.no_memory (omega arith)

pub returns-in_err-push_part-2-clause-no_memory : goal.returns-in_err-push_part-2-clause-no_memory
returns-in_err-push_part-2-clause-no_memory g c h =
    let next : words_for g.T.BitStore.BITS (c.args.end + c.args.n) ≡ length c.args.words.now.items + 1 = one_more_odd g c.before.before.before in
    c.push_part-2.ensures.no_memory (omega arith)

pub returns-clause-no_memory : goal.returns-clause-no_memory
returns-clause-no_memory g c h =
    let next : words_for g.T.BitStore.BITS (c.args.end + c.args.n) ≡ length c.args.words.now.items + 1 = one_more_odd g c.before.before.before.before in
    c.write_in_word-2.ensures.capacity ∙ c.push_part-2.ensures.no_memory (omega arith)
