use Rattle.std.proofs.Common.{length, refl, ◌∙◌, rules}
use Rattle.bit_addressing.proofs.Rows.{width_positive}
use Rattle.bit_slice.specs.BitSlice.{list_of}
use Rattle.bit_containers.proofs.Making.{combined_all, filled_over}
use Rattle.bit_containers.proofs.vec.BitVec.combine_growing.Goals as goal

pub returns-clause-index : goal.returns-clause-index
returns-clause-index g c =
    combined_all g.F.BitOperator.made c.args.self.now.list (list_of c.args.other) c.combine.new.self.list c.len.result (search rules)

pub returns-clause-row : goal.returns-clause-row
returns-clause-row g c =
    let now = c.args.self.now in
    let new = c.combine.new.self in
    let w = g.T.BitStore.BITS in
    let size = c.combine.ensures.stays.len in
    let len = c.in_ok-fill_up.ensures.len in
    let over = filled_over w now.row new.list now.head (length now.list) c.len.result (length new.list) (width_positive w g.met.T.BitStore.width) (size ∙ len) refl in
    rw (c.combine.ensures.row, ← c.combine.ensures.list, c.in_ok-fill_up.ensures.row, c.in_ok-fill_up.ensures.head, ← size) over
