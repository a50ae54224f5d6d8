use Rattle.std.proofs.Common.{◌≡◌, ◌-◌, slice_range, ap, subst, arith}
use Rattle.std.specs.Io.KnownBytes.{Keeps, prepend_known}
use Rattle.bit_streams.proofs.Ahead.{refilled}
use Rattle.bit_streams.proofs.taken.Taken.refill.Goals as goal

pub returns-in-Ok-clause-left : goal.returns-in-Ok-clause-left
returns-in-Ok-clause-left g c =
    let i = c.self.inside in
    let none = c.requires.none in
    let begins = c.self.invariant.begins in
    let is : i.end - i.at ≡ c.args.self.now.taken = ap (λ v. v.taken) c.self.view_is in
    let now = c.read_into.new.bytes in
    let left = g.R.Read.remaining c.read_into.new.inner in
    subst (λ v. Keeps v.left (prepend_known (slice_range now 0 c.in-Ok.n) left)) c.self.view_is (refilled (g.R.Read.remaining i.inner) left i.bytes now i.at i.end c.in-Ok.n (omega arith) c.in-Ok.ensures.taken)
