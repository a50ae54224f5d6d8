use Rattle.std.proofs.Common.{◌≡◌, ◌+◌, ◌-◌, ◌*◌, ◌%◌, length, slice_range, refl, ◌∙◌, ap, arith}
use Rattle.bit_addressing.specs.Typed.{row}
use Rattle.bit_addressing.proofs.Typed.{length_row}
use Rattle.bit_streams.proofs.Windows.{cut_row, cut_size}
use Rattle.bit_streams.proofs.register.cut_at.Goals as goal

pub returns-clause-list : goal.returns-clause-list
returns-clause-list g c =
    let w = g.T.BitStore.BITS in
    let rows = row g.T.BitStore g.O.BitOrder c.args.words.now.items in
    let long : length rows ≡ w * length c.args.words.now.items = length_row g.T.BitStore.value g.O.BitOrder.place w c.args.words.now.items in
    cut_row w rows (row g.T.BitStore g.O.BitOrder c.cut_words_in_vec.new.words.items) c.args.n (c.args.n - c.args.n % 64) (c.args.n % 64) c.read_binary-pending.result g.met.T.BitStore.width (omega arith) refl refl
    c.cut_words_in_vec.ensures.bits (c.read_binary-pending.ensures.digits ∙ ap (λ ws. slice_range (row g.T.BitStore g.O.BitOrder ws) (c.args.n - c.args.n % 64) (c.args.n - c.args.n % 64 + c.args.n % 64)) c.as_slice.ensures.value)

pub returns-clause-shorter : goal.returns-clause-shorter
returns-clause-shorter g c =
    cut_size g.T.BitStore.BITS c.args.n (c.args.n - c.args.n % 64) (c.args.n % 64) (length c.cut_words_in_vec.new.words.items) g.met.T.BitStore.width refl refl c.cut_words_in_vec.ensures.size

pub returns-clause-blocks : goal.returns-clause-blocks
returns-clause-blocks g c =
    let shorter = cut_size g.T.BitStore.BITS c.args.n (c.args.n - c.args.n % 64) (c.args.n % 64) (length c.cut_words_in_vec.new.words.items) g.met.T.BitStore.width refl refl c.cut_words_in_vec.ensures.size in
    omega arith
