use Rattle.std.proofs.Common.{◌≡◌, ◌+◌, ◌*◌, length, sym, ◌∙◌, ap, arith}
use Rattle.bit_addressing.proofs.Rows.{width_positive}
use Rattle.bit_addressing.specs.Row.{put}
use Rattle.bit_slice.specs.Operators.{xor_of}
use Rattle.bit_slice.proofs.Swapped.{in_words, row_is, second_is, third_is}
use Rattle.bit_slice.proofs.lists_mut.BitListMut.swap_with.Given as given
use Rattle.bit_slice.proofs.lists_mut.BitListMut.swap_with.Goals as goal
use Rattle.bit_slice.proofs.lists_mut.BitListMut.swap_with.Goals.{After-xor_bits-3}

size : (g : given.Over) (c : After-xor_bits-3 g) → length (g.Self.BitList.list c.args.self.now) ≡ length (g.B.BitList.list c.args.other.now)
size g c = omega (arith, c.as_bitslice-view.ensures.size, c.as_bitslice.ensures.size, c.requires)

one : (g : given.Over) (c : After-xor_bits-3 g) → g.Self.BitList.list c.xor_bits.new.self ≡ xor_of (g.Self.BitList.list c.args.self.now) (g.B.BitList.list c.args.other.now)
one g c = c.xor_bits.ensures.list ∙ ap (xor_of (g.Self.BitList.list c.args.self.now)) c.as_bitslice.ensures.list

two : (g : given.Over) (c : After-xor_bits-3 g) → g.B.BitList.list c.xor_bits-2.new.self ≡ xor_of (g.B.BitList.list c.args.other.now) (g.Self.BitList.list c.xor_bits.new.self)
two g c = c.xor_bits-2.ensures.list ∙ ap (xor_of (g.B.BitList.list c.args.other.now)) c.as_bitslice-2.ensures.list

three : (g : given.Over) (c : After-xor_bits-3 g) → g.Self.BitList.list c.xor_bits-3.new.self ≡ xor_of (g.Self.BitList.list c.xor_bits.new.self) (g.B.BitList.list c.xor_bits-2.new.self)
three g c = c.xor_bits-3.ensures.list ∙ ap (xor_of (g.Self.BitList.list c.xor_bits.new.self)) c.as_bitslice-3.ensures.list

pub returns-clause-list : goal.returns-clause-list
returns-clause-list g c = third_is _ _ _ _ _ (size g c) (one g c) (two g c) (three g c)

pub returns-clause-other_list : goal.returns-clause-other_list
returns-clause-other_list g c = second_is _ _ _ _ _ (size g c) (one g c) (two g c) (three g c)

pub returns-clause-row : goal.returns-clause-row
returns-clause-row g c =
    let a = g.Self.BitList.list c.args.self.now in
    let e = c.as_bitslice-view.ensures in
    let inside = in_words g.Self.Store.BitStore g.Self.Order.BitOrder (g.Self.BitList.words c.args.self.now) (g.Self.BitList.head c.args.self.now + g.Self.BitList.len c.args.self.now) (g.Self.BitList.bits c.args.self.now) (width_positive _ g.met.Self.Store.BitStore.width) e.room e.row in
    row_is _ _ _ _ _ (size g c) (one g c) (two g c) (three g c) (g.Self.BitList.bits c.args.self.now) (g.Self.BitList.bits c.xor_bits.new.self) (g.Self.BitList.bits c.xor_bits-3.new.self) (g.Self.BitList.head c.args.self.now) (g.Self.BitList.head c.xor_bits.new.self)
    c.xor_bits.ensures.stays.head (omega (arith, inside, size g c, e.size))
    (c.xor_bits.ensures.row ∙ ap (λ l. put (g.Self.BitList.bits c.args.self.now) (g.Self.BitList.head c.args.self.now) (xor_of a l)) c.as_bitslice.ensures.list)
    (c.xor_bits-3.ensures.row ∙ ap (λ l. put (g.Self.BitList.bits c.xor_bits.new.self) (g.Self.BitList.head c.xor_bits.new.self) (xor_of (g.Self.BitList.list c.xor_bits.new.self) l)) c.as_bitslice-3.ensures.list)

pub returns-clause-other_row : goal.returns-clause-other_row
returns-clause-other_row g c =
    c.xor_bits-2.ensures.row ∙ ap (put (g.B.BitList.bits c.args.other.now) (g.B.BitList.head c.args.other.now)) (sym c.xor_bits-2.ensures.list ∙ returns-clause-other_list g c)

pub returns-clause-whole : goal.returns-clause-whole
returns-clause-whole g c head all =
    let s = c.xor_bits.ensures.stays in
    c.xor_bits-3.ensures.whole (s.head ∙ head) (omega (arith, s.len, all, ap (λ n. g.Self.Store.BitStore.BITS * n) s.size))
    ∙ sym c.xor_bits-3.ensures.list ∙ returns-clause-list g c

pub returns-clause-other_whole : goal.returns-clause-other_whole
returns-clause-other_whole g c head all = c.xor_bits-2.ensures.whole head all ∙ sym c.xor_bits-2.ensures.list ∙ returns-clause-other_list g c
