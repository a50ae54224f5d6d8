use Rattle.std.proofs.Common.{◌<◌, ◌≤◌, ◌+◌, ◌*◌, refl, arith}
use Rattle.std.proofs.lemmas.Grind.{common_steps}
use Rattle.bit_slice.specs.BitSlice.{len_of, list_of}
use Rattle.bit_slice.proofs.Parts.{view_length}
use Rattle.bit_matrix.proofs.Padding.{part_unwritten, part_written, wide, length_grid}
use Rattle.bit_matrix.proofs.matrix.Matrix.write_bits.Goals as goal

pub returns-clause-part : goal.returns-clause-part
returns-clause-part g c j below =
    let m = c.self.inside in
    let row : c.args.row < m.rows = rw (← c.self.view_is) at c.requires.row in
    let within : c.args.column + len_of c.args.bits ≤ m.columns = rw (← c.self.view_is) at c.requires.within in
    let room = wide m.rows m.columns m.stride m.bits.head _ c.self.invariant (omega arith) in
    part_written m.bits.list c.copy_into.new.self.list (list_of c.args.bits) m.rows m.columns m.stride m.bits.head c.args.row c.args.column (len_of c.args.bits) (c.args.row * m.stride + c.args.column) c.self.invariant c.copy_into.ensures.stays.len row (omega arith) (view_length c.args.bits) refl c.copy_into.ensures.list j below (omega arith)

pub returns-clause-others : goal.returns-clause-others
returns-clause-others g c i j tall short apart =
    let m = c.self.inside in
    let row : c.args.row < m.rows = rw (← c.self.view_is) at c.requires.row in
    let within : c.args.column + len_of c.args.bits ≤ m.columns = rw (← c.self.view_is) at c.requires.within in
    let room = wide m.rows m.columns m.stride m.bits.head _ c.self.invariant (omega arith) in
    rw (← c.self.view_is)
    (part_unwritten m.bits.list c.copy_into.new.self.list (list_of c.args.bits) m.rows m.columns m.stride m.bits.head c.args.row c.args.column (len_of c.args.bits) (c.args.row * m.stride + c.args.column) c.self.invariant c.copy_into.ensures.stays.len row (omega arith) (view_length c.args.bits) refl c.copy_into.ensures.list i j (rw (← c.self.view_is) at tall) (rw (← c.self.view_is) at short) apart)

pub copy_into-requires-clause-lies : goal.copy_into-requires-clause-lies
copy_into-requires-clause-lies g c = grind (arith, common_steps, length_grid)
