use Rattle.std.proofs.lemmas.List.{take_all}
use Rattle.std.proofs.Common.{take, sym, ap, ◌∙◌, ◌≡◌, Some, length, rules, arith}
use Rattle.std.proofs.lemmas.Grind.{common_steps}
use Rattle.bit_containers.specs.Text.{IsFirstWrong, IsTextOf, bits_said, digits_in, part_of}
use Rattle.bit_containers.proofs.Text.{only_said, said_text, whole_said, wrong_end, wrong_here}
use Rattle.bit_containers.proofs.vec.BitVec.from_text.Goals as goal

pub returns-in_default-clause-wrong : goal.returns-in_default-clause-wrong
returns-in_default-clause-wrong g c at is =
    let text = c.as_bytes-bytes.result.now in
    let here : IsFirstWrong text c.loop-at.at = wrong_here text c.loop-at.part c.loop-at.at (search rules) c.loop-at.invariant.part (search rules) in
    let same : c.loop-at.at ≡ at = cc in
    rw (← same, ← c.as_bytes-bytes.ensures.value) here

pub returns-else-ends-clause-wrong : goal.returns-else-ends-clause-wrong
returns-else-ends-clause-wrong g c at is =
    let text = c.as_bytes-bytes.result.now in
    let here : IsFirstWrong text (length text) = wrong_end text c.loop-at.part c.loop-at.at c.loop-at-test.false c.loop-at.invariant.part (search rules) in
    let same : length text ≡ at = cc in
    rw (← same, ← c.as_bytes-bytes.ensures.value) here

pub returns-then-ends-clause-list : goal.returns-then-ends-clause-list
returns-then-ends-clause-list g c =
    let text = c.as_bytes-bytes.result.now in
    let said : bits_said text ≡ Some c.loop-at.v.list = whole_said text c.loop-at.part c.loop-at.v.list c.loop-at.at c.loop-at-test.false c.loop-at.invariant.part c.loop-at.invariant.list (search rules) in
    rw (← c.as_bytes-bytes.ensures.value) said

pub returns-then-ends-clause-reads_back : goal.returns-then-ends-clause-reads_back
returns-then-ends-clause-reads_back g c bits is = only_said c.args.text.now c.loop-at.v.list bits (returns-then-ends-clause-list g c) is

pub returns-then-ends-clause-says : goal.returns-then-ends-clause-says
returns-then-ends-clause-says g c =
    let text = c.as_bytes-bytes.result.now in
    let whole : take c.loop-at.at text ≡ text = take_all c.loop-at.at text c.loop-at-test.false in
    let is : IsTextOf text (digits_in text) = said_text text c.loop-at.part (sym (ap part_of whole) ∙ c.loop-at.invariant.part) (search rules) in
    rw (← c.as_bytes-bytes.ensures.value, c.loop-at.invariant.list, whole) is

pub loop-at-preserved : goal.loop-at-preserved
loop-at-preserved g c = grind (arith, common_steps)
