use Rattle.bit_array.proofs.array.traits.BitArrayPartialEq.eq.Goals as goal

pub returns-clause-lists : goal.returns-clause-lists
returns-clause-lists g c = rw (← c.as_bitslice.ensures.list, ← c.as_bitslice-2.ensures.list) c.eq_bits.ensures
