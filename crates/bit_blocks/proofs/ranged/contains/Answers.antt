use Rattle.std.proofs.Common.{◌≡◌, ◌-◌, suc, subst, arith}
use Rattle.bit_blocks.specs.RunPlaces.{IsBegunBefore}
use Rattle.bit_blocks.proofs.Runs.{found_in_last, found_in_none}
use Rattle.bit_blocks.proofs.ranged.contains.Goals as goal

pub returns-then-after-eq0 : goal.returns-then-after-eq0
returns-then-after-eq0 c = found_in_none c.args.runs.now c.args.number c.requires (subst (IsBegunBefore c.args.runs.now c.args.number) c.if-after-eq0.true c.place_of-after.ensures.split)

pub returns : goal.returns
returns c =
    let some = c.if-after-eq0.false in
    let e : c.place_of-after.result ≡ suc (c.place_of-after.result - 1) = omega arith in
    let within = c.place_of-after.ensures.within in
    found_in_last c.args.runs.now c.args.number (c.place_of-after.result - 1) (record { first = 0; last = 0 }) c.requires (omega arith)
    (subst (IsBegunBefore c.args.runs.now c.args.number) e c.place_of-after.ensures.split)
