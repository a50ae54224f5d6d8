use Rattle.std.proofs.lemmas.Grind.{common_steps}
use Rattle.std.proofs.Common.{◌≡◌, ℕ, ◌+◌, ◌-◌, ◌*◌, ◌^◌, ◌%◌, ◌≤◌, length, bit_or, sym, ◌∙◌, ap, subst, arith, lit<, mul_comm}
use Rattle.std.proofs.Math.Nat.{mod-lt}
use Rattle.std.proofs.lemmas.Nat.{or_lt}
use Rattle.bit_addressing.specs.Row.{number_of}
use Rattle.bit_addressing.specs.Typed.{row}
use Rattle.bit_rows.specs.Runs.{run_at}
use Rattle.bit_addressing.proofs.Chunks.{IsRead}
use Rattle.bit_addressing.proofs.Runs.{mul_mono}
use Rattle.bit_addressing.proofs.Typed.{length_row}
use Rattle.bit_addressing.proofs.lists.Sized.{right_sum}
use Rattle.bit_rows.proofs.Ends.{read_is, read_joined, run_read}
use Rattle.bit_rows.proofs.narrow.words_in_two.Goals as goal

pub returns : goal.returns
returns g c =
    let w = g.T.BitStore.BITS in
    let words = c.args.words.now in
    let k = c.args.k in
    let each = c.args.each in
    let count = c.args.count in
    let apart : ℕ = count - each in
    let x = c.words_joined-low.result in
    let y = c.words_joined-high.result in
    let ms = row g.T.BitStore g.O.BitOrder words in
    let size : length ms ≡ w * length words = length_row g.T.BitStore.value g.O.BitOrder.place w words in
    let room = mul_mono (k + count) (length words) w c.requires.within in
    let turned = mul_comm w (length words) in
    let sum : (k + count) * w ≡ k * w + count * w = right_sum k count w in
    let begins : (k + apart) * w ≡ k * w + apart * w = right_sum k apart w in
    let parts : apart + each ≡ count = omega arith in
    let all : apart * w + each * w ≡ count * w = sym (right_sum apart each w) ∙ ap (λ n. n * w) parts in
    let meets : apart * w ≤ each * w = mul_mono apart each w (omega arith) in
    let front : IsRead ms (k * w) (each * w) x = run_read ms (k * w) (each * w) x (omega (arith, size, room, turned, sum, all)) c.words_joined-low.ensures in
    let back : IsRead ms ((k + apart) * w) (each * w) y = run_read ms ((k + apart) * w) (each * w) y (omega (arith, size, room, turned, sum, all, begins)) c.words_joined-high.ensures in
    let joined = read_joined ms (k * w) (each * w) (apart * w) (each * w) x y front (subst (λ n. IsRead ms n (each * w) y) begins back) meets (omega arith) (omega (arith, all, meets, c.requires.few)) in
    let read : IsRead ms (k * w) (count * w) (bit_or x (y * 2 ^ (apart * w) % 2 ^ 64)) = subst (λ n. IsRead ms (k * w) n (bit_or x (y * 2 ^ (apart * w) % 2 ^ 64))) all joined in
    subst (λ n. bit_or x (y * 2 ^ (apart * n) % 2 ^ 64) ≡ number_of (run_at ms (k * w) (count * w))) (sym c.BITS.ensures)
    (read_is ms (k * w) (count * w) (bit_or x (y * 2 ^ (apart * w) % 2 ^ 64)) read (omega (arith, c.requires.few)) (or_lt 64 x (y * 2 ^ (apart * w) % 2 ^ 64) c.words_joined-low.type_inv (mod-lt (y * 2 ^ (apart * w)) (lit< tt))) (omega (arith, size, room, turned, sum)))

pub overflow_mul-result : goal.overflow_mul-result
overflow_mul-result g c = grind (arith, common_steps)
