use Rattle.std.proofs.Common.{◌≡◌, ◌-◌, ◌∙◌, Err, Ok, ap, length, sym}
use Rattle.bit_containers.specs.RangesRead.{ranges_read}
use Rattle.bit_containers.proofs.RangesRead.{never_wrong, read_once, stopped}
use Rattle.bit_containers.proofs.vec.BitVec.from_ranges_text.Goals as goal

pub returns-in_default-range_of-clause-is_read : goal.returns-in_default-range_of-clause-is_read
returns-in_default-range_of-clause-is_read g c bits at size is wrong =
    let len = c.args.len in
    let bytes = c.as_bytes-bytes.result.now in
    let left = c.in-Some.left.now in
    let begins = length bytes - length left in
    let same : begins ≡ at = cc in
    let read = rw c.in-Some.is at c.loop-rest.invariant.read in
    let stops = stopped len c.loop-rest.v.list begins left c.cut_part.result.0.now c.cut_part.result.1 c.cut_part.ensures.parts cc in
    let said : ranges_read len c.args.text.now ≡ Err at = ap (ranges_read len) (sym c.as_bytes-bytes.ensures.value) ∙ read ∙ stops ∙ ap Err same in
    never_wrong bits len at c.args.text.now size c.ranges.len.fits is said

pub returns-clause-reads_back : goal.returns-clause-reads_back
returns-clause-reads_back g c bits size is =
    let len = c.args.len in
    let list = c.loop-rest.v.list in
    let read = rw c.in_default.is at c.loop-rest.invariant.read in
    let said : ranges_read len c.args.text.now ≡ Ok list = ap (ranges_read len) (sym c.as_bytes-bytes.ensures.value) ∙ read in
    read_once bits list len c.args.text.now size c.ranges.len.fits is said
