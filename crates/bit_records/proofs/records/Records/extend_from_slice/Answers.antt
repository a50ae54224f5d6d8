use Rattle.std.proofs.Common.{◌≡◌, ℕ, ◌+◌, ◌*◌, ◌<◌, ◌≤◌, ◌++◌, List, [], ◌∷◌, Err, Result, slice_index_or, length, take, get_or, sym, ◌∙◌, ap, arith}
use Rattle.std.proofs.lemmas.List.{length-append, length-take-le, take_more, append_assoc}
use Rattle.bit_addressing.specs.declared.errors.GrowError.{GrowError}
use Rattle.bit_addressing.specs.declared.errors.GrowError.TheVariants.{TooLong, OutOfMemory}
use Rattle.bit_addressing.specs.declared.length.TheConstants.{MAX_BITS}
use Rattle.bit_addressing.proofs.lists.Sized.{one_more_word}
use Rattle.bit_addressing.proofs.Runs.{mul_mono}
use Rattle.bit_records.proofs.records.Records.extend_from_slice.Goals as goal

-- the bits up to the next number are within those of all
within : (xs ys ns : List ℕ) (i w v : ℕ) → i < length ns → ys ≡ xs ++ take i ns → v ≡ w → length ys * v + v ≤ (length xs + length ns) * w
within xs ys ns i w v h is same =
    let cut = length-take-le i ns (omega arith) in
    let size : length ys ≡ length xs + i = ap length is ∙ length-append xs (take i ns) ∙ ap (λ n. length xs + n) cut in
    let more = one_more_word (length xs + i) w in
    let most = mul_mono (length xs + i + 1) (length xs + length ns) w (omega arith) in
    let both : length ys * v + v ≡ (length xs + i) * w + w = ap (λ n. n * v + v) size ∙ ap (λ n. (length xs + i) * n + n) same in
    omega arith

-- an append that has room is not refused
not_refused : {A P : Type 0} (r : Result A GrowError) (e : GrowError) (wanted room : ℕ) → r ≡ Err e → (r ≡ Err TooLong → MAX_BITS < wanted) → (r ≡ Err OutOfMemory → room < wanted) → wanted ≤ MAX_BITS → wanted ≤ room → P
not_refused r TooLong wanted room is long memory h k = let over = long is in absurd (omega arith)
not_refused r OutOfMemory wanted room is long memory h k = let over = memory is in absurd (omega arith)

pub returns-in_err-push-clause-too_long : goal.returns-in_err-push-clause-too_long
returns-in_err-push-clause-too_long g c =
    let now = c.args.self.now in
    let before = c.loop-i.self in
    let inv = c.loop-i.invariant in
    let inside = within now.list before.list c.args.numbers.now c.loop-i.i now.width before.width c.loop-i-test.true inv.list inv.width in
    not_refused c.push.result c.in_err-push.field-0.0 (length before.list * before.width + before.width) before.bits.capacity c.in_err-push.was (λ e. c.push.ensures.too_long.0 e) (λ e. c.push.ensures.memory e)
    (omega (arith, inside, c.in_ok-reserve.ensures.fits)) (omega (arith, inside, inv.room))

pub returns-in_err-push-clause-memory : goal.returns-in_err-push-clause-memory
returns-in_err-push-clause-memory g c =
    let now = c.args.self.now in
    let before = c.loop-i.self in
    let inv = c.loop-i.invariant in
    let inside = within now.list before.list c.args.numbers.now c.loop-i.i now.width before.width c.loop-i-test.true inv.list inv.width in
    not_refused c.push.result c.in_err-push.field-0.0 (length before.list * before.width + before.width) before.bits.capacity c.in_err-push.was (λ e. c.push.ensures.too_long.0 e) (λ e. c.push.ensures.memory e)
    (omega (arith, inside, c.in_ok-reserve.ensures.fits)) (omega (arith, inside, inv.room))

pub returns-in_err-push-clause-unchanged : goal.returns-in_err-push-clause-unchanged
returns-in_err-push-clause-unchanged g c =
    let now = c.args.self.now in
    let before = c.loop-i.self in
    let inv = c.loop-i.invariant in
    let inside = within now.list before.list c.args.numbers.now c.loop-i.i now.width before.width c.loop-i-test.true inv.list inv.width in
    not_refused c.push.result c.in_err-push.field-0.0 (length before.list * before.width + before.width) before.bits.capacity c.in_err-push.was (λ e. c.push.ensures.too_long.0 e) (λ e. c.push.ensures.memory e)
    (omega (arith, inside, c.in_ok-reserve.ensures.fits)) (omega (arith, inside, inv.room))

pub returns-in_err-push-clause-no_memory : goal.returns-in_err-push-clause-no_memory
returns-in_err-push-clause-no_memory g c =
    let now = c.args.self.now in
    let before = c.loop-i.self in
    let inv = c.loop-i.invariant in
    let inside = within now.list before.list c.args.numbers.now c.loop-i.i now.width before.width c.loop-i-test.true inv.list inv.width in
    not_refused c.push.result c.in_err-push.field-0.0 (length before.list * before.width + before.width) before.bits.capacity c.in_err-push.was (λ e. c.push.ensures.too_long.0 e) (λ e. c.push.ensures.memory e)
    (omega (arith, inside, c.in_ok-reserve.ensures.fits)) (omega (arith, inside, inv.room))

pub loop-i-preserved : goal.loop-i-preserved
loop-i-preserved g c =
    let now = c.args.self.now in
    let before = c.loop-i.self in
    let inv = c.loop-i.invariant in
    let inside = within now.list before.list c.args.numbers.now c.loop-i.i now.width before.width c.loop-i-test.true inv.list inv.width in
    let e = c.in_ok-push.ensures in
    let same : c.push.new.self.bits.capacity ≡ before.bits.capacity = e.no_memory (omega (arith, inside, inv.room)) in
    record {
      list = e.list ∙ ap (λ l. l ++ slice_index_or c.args.numbers.now c.loop-i.i 0 ∷ []) inv.list ∙ append_assoc now.list (take c.loop-i.i c.args.numbers.now) (get_or c.args.numbers.now c.loop-i.i 0 ∷ []) ∙ ap (λ l. now.list ++ l) (sym (take_more c.args.numbers.now c.loop-i.i 0 (omega (arith, c.loop-i-test.true))));
      width = e.width ∙ inv.width;
      clean = e.clean;
      room = omega (arith, inv.room, same);
      capacity = same ∙ inv.capacity;
    }
