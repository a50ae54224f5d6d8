use Rattle.std.proofs.Common.{◌≡◌, ◌-◌, ◌%◌, ◌≤◌, length, take, refl, ◌∙◌, ap, arith}
use Rattle.bit_addressing.specs.Row.{number_bits}
use Rattle.bit_rows.proofs.Binary.{length-number_bits}
use Rattle.bit_containers.proofs.Removing.{take_put}
use Rattle.bit_containers.proofs.Calling.{TakesIf, parted_at, same_there, takes_one, takes_not, retains_nothing, retains_more, retains_all}
use Rattle.std.proofs.lemmas.List.{length-take-le}
use Rattle.std.proofs.Common.{◌+◌, ◌<◌, ◌∷◌, ◌++◌, drop, false, get_or, sym}
use Rattle.bit_containers.proofs.vec.BitVec.retain_by.Goals.{then-f, else-f}
use Rattle.bit_containers.proofs.vec.BitVec.retain_by.Goals as goal

pub loop-index-init : goal.loop-index-init
loop-index-init g c = record {
  head = refl;
  capacity = refl;
  retains = retains_nothing (goal.F-step g) c.args.f.now c.args.self.now.list;
}

pub loop-index-preserved : goal.loop-index-preserved
loop-index-preserved g c =
    let at = c.loop-index in
    let now = at.self.list in
    let bit = c.bit-bit.result in
    let was = at.invariant.retains in
    let head : c.if-f.self.head ≡ c.args.self.now.head =
    elim c.if-f.branch [
      | then-f w ↦ ap (λ v. v.head) w.self-is ∙ w.keep-number.ensures.stayed.head ∙ at.invariant.head
      | else-f w ↦ ap (λ v. v.head) w.self-is ∙ at.invariant.head
    ] in
    let capacity : c.if-f.self.capacity ≡ c.args.self.now.capacity =
    elim c.if-f.branch [
      | then-f w ↦ ap (λ v. v.capacity) w.self-is ∙ w.keep-number.ensures.stayed.capacity ∙ at.invariant.capacity
      | else-f w ↦ ap (λ v. v.capacity) w.self-is ∙ at.invariant.capacity
    ] in
    let takes : TakesIf c.f.result bit at.index now at.count at.number c.if-f.self.list c.if-f.count c.if-f.number =
    elim c.if-f.branch [
      | then-f w ↦ rw (w.if-f.true, w.self-is, w.count-is, w.number-is) (takes_one bit at.index now at.count at.number w.keep-number.new.self.list w.keep-number.result was.beyond w.keep-number.ensures.stayed.len w.keep-number.ensures.rest w.keep-number.ensures.front)
      | else-f w ↦ rw (w.if-f.false, w.self-is, w.count-is, w.number-is) (takes_not bit at.index now at.count at.number was.beyond)
    ] in
    record {
      head = head;
      capacity = capacity;
      retains = retains_more (goal.F-step g) c.args.f.now c.args.self.now.list at.f now at.count at.number at.index bit _ c.f.result c.f.new.self c.if-f.self.list c.if-f.count c.if-f.number (omega (arith, c.loop-index-test.true, c.len-index-end.ensures.value, was.size)) c.bit-bit.ensures refl c.f.ensures takes was;
    }

pub returns-clause-list : goal.returns-clause-list
returns-clause-list g c =
    let at = c.loop-index in
    let was = at.invariant.retains in
    let count = at.count in
    let bits = number_bits at.number (count % 64) in
    let size = length-number_bits at.number (count % 64) in
    let whole = retains_all (goal.F-step g) c.args.f.now c.args.self.now.list at.f at.self.list count at.number at.index (omega (arith, c.loop-index-test.false, c.len-index-end.ensures.value)) was in
    let short : count ≤ length at.self.list = omega (arith, was.beyond, was.size, c.loop-index-test.false, c.len-index-end.ensures.value) in (
      whole.0,
      whole.1,
      c.truncate.ensures.list ∙ ap (take count) c.write_number.ensures.list ∙ take_put at.self.list bits (count - count % 64) count (omega arith) short ∙ whole.2,
    )

pub f-requires : goal.f-requires
f-requires g c =
    let at = c.loop-index in
    let was = at.invariant.retains in
    let list = c.args.self.now.list in
    let within : at.index < length list = omega (arith, c.loop-index-test.true, c.len-index-end.ensures.value) in
    let short : at.index < length at.self.list = omega (arith, was.size, within) in
    let here : c.bit-bit.result ≡ get_or list at.index false = same_there list at.self.list at.index within short was.rest c.bit-bit.ensures in
    let parted : list ≡ take at.index list ++ c.bit-bit.result ∷ drop (at.index + 1) list = rw here (parted_at list at.index within) in
    c.requires.at (take at.index list) (drop (at.index + 1) list) was.results c.bit-bit.result _ at.f at.index parted refl (sym (length-take-le at.index list (omega (arith, within)))) was.gave
