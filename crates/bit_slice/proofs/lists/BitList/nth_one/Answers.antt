use Rattle.std.proofs.Common.{true}
use Rattle.bit_slice.specs.BitSlice.{list_of}
use Rattle.bit_slice.proofs.Numbered.{nth_value, nth_found, nth_before, nth_only, nth_none}
use Rattle.bit_slice.proofs.lists.BitList.nth_one.Goals as goal

pub returns-clause-value : goal.returns-clause-value
returns-clause-value g c = rw (← c.as_bitslice.ensures.list) (nth_value true (list_of c.as_bitslice.result) c.args.k c.nth_from.result c.nth_from.ensures.some c.nth_from.ensures.none)

pub returns-clause-found : goal.returns-clause-found
returns-clause-found g c = rw (← c.as_bitslice.ensures.list) (nth_found true (list_of c.as_bitslice.result) c.args.k c.nth_from.result c.nth_from.ensures.some c.nth_from.ensures.none)

pub returns-clause-before : goal.returns-clause-before
returns-clause-before g c = rw (← c.as_bitslice.ensures.list) (nth_before true (list_of c.as_bitslice.result) c.args.k c.nth_from.result c.nth_from.ensures.some c.nth_from.ensures.none)

pub returns-clause-only : goal.returns-clause-only
returns-clause-only g c = rw (← c.as_bitslice.ensures.list) (nth_only true (list_of c.as_bitslice.result) c.args.k c.nth_from.result c.nth_from.ensures.some c.nth_from.ensures.none)

pub returns-clause-none : goal.returns-clause-none
returns-clause-none g c = rw (← c.as_bitslice.ensures.list) (nth_none true (list_of c.as_bitslice.result) c.args.k c.nth_from.result c.nth_from.ensures.some c.nth_from.ensures.none)
