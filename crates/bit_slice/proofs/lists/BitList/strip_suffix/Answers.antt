use Rattle.std.proofs.Common.{◌-◌, length, ap, arith}
use Rattle.std.proofs.lemmas.List.{length-drop}
use Rattle.bit_slice.proofs.Counting.{told}
use Rattle.bit_slice.proofs.Parts.{view_length}
use Rattle.bit_slice.proofs.lists.BitList.strip_suffix.Goals as goal

pub overflow_sub-len : goal.overflow_sub-len
overflow_sub-len g c =
    let xs = g.Self.BitList.list c.args.self.now in
    let same = ap length (c.if-ends_with.ensures.0 told) in
    omega (arith, same, length-drop (g.Self.BitList.len c.args.self.now - c.args.other.len) xs, view_length c.args.other, c.len.ensures.value, c.len.ensures.list)

pub returns-then-ends_with-clause-rest_len : goal.returns-then-ends_with-clause-rest_len
returns-then-ends_with-clause-rest_len g c = omega (arith, overflow_sub-len g c.before, c.get_range.ensures.len, c.len.ensures.value)
