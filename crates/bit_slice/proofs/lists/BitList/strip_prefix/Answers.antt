use Rattle.std.proofs.Common.{◌≤◌, length, ap, arith}
use Rattle.std.proofs.lemmas.List.{length-take}
use Rattle.bit_slice.proofs.Counting.{told}
use Rattle.bit_slice.proofs.Parts.{view_length}
use Rattle.bit_slice.proofs.lists.BitList.strip_prefix.Given as given
use Rattle.bit_slice.proofs.lists.BitList.strip_prefix.Goals as goal
use Rattle.bit_slice.proofs.lists.BitList.strip_prefix.Goals.{After-len}

room : (g : given.Over) (c : After-len g) → c.args.other.len ≤ c.len.result
room g c =
    let xs = g.Self.BitList.list c.args.self.now in
    let same = ap length (c.if-starts_with.ensures.0 told) in
    omega (arith, same, length-take c.args.other.len xs, view_length c.args.other, c.len.ensures.list)

pub get_range-requires : goal.get_range-requires
get_range-requires g c = record { lies = (room g c, omega (arith, c.len.ensures.value)) }

pub returns-then-starts_with-clause-rest_len : goal.returns-then-starts_with-clause-rest_len
returns-then-starts_with-clause-rest_len g c = omega (arith, room g c.before, c.get_range.ensures.len, c.len.ensures.value)
