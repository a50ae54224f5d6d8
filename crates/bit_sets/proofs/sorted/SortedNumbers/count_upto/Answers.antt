use Rattle.std.proofs.Common.{◌≡◌, length, ap, arith}
use Rattle.std.proofs.lemmas.List.{length-drop}
use Rattle.bit_sets.proofs.Packed.{length_numbers}
use Rattle.bit_sets.proofs.sorted.SortedNumbers.count_upto.Goals as goal

pub returns-then-x-eq18446744073709551615-clause-after : goal.returns-then-x-eq18446744073709551615-clause-after
returns-then-x-eq18446744073709551615-clause-after c k d h =
    let s = c.self.inside in
    let size = length_numbers s.len s.width s.high.list s.low.list in
    let same : s.len ≡ length c.args.self.now = (let seen = ap length c.self.view_is in omega arith) in
    let left = length-drop s.len c.args.self.now in
    absurd (omega arith)

pub returns-then-x-eq18446744073709551615-clause-few : goal.returns-then-x-eq18446744073709551615-clause-few
returns-then-x-eq18446744073709551615-clause-few c =
    let s = c.self.inside in
    let size = length_numbers s.len s.width s.high.list s.low.list in
    let seen = ap length c.self.view_is in
    omega arith
