use Rattle.std.proofs.Common.{◌≡◌, ◌^◌, ◌<◌, length, set, sym, subst, ◌∙◌, ap, arith}
use Rattle.bit_records.specs.Records.{numbers_in}
use Rattle.bit_records.proofs.Numbers.{count_of, number_set, place_inside}
use Rattle.bit_records.proofs.records.Records.set.Goals as goal

pub overflow_mul-i : goal.overflow_mul-i
overflow_mul-i g c =
    let i = c.self.inside in
    let inv = c.self.invariant in
    let len : i.len ≡ length c.args.self.now.list = sym (count_of i.width i.len i.bits.list inv.some inv.size) ∙ ap (λ v. length v.list) c.self.view_is in
    let inside = place_inside i.width i.len c.args.i (omega (arith, len, c.requires.inside)) in
    let size = inv.size in
    let small = inv.small in
    omega arith

pub store_be_at-requires-clause-within : goal.store_be_at-requires-clause-within
store_be_at-requires-clause-within g c =
    let i = c.self.inside in
    let inv = c.self.invariant in
    let len : i.len ≡ length c.args.self.now.list = sym (count_of i.width i.len i.bits.list inv.some inv.size) ∙ ap (λ v. length v.list) c.self.view_is in
    let inside = place_inside i.width i.len c.args.i (omega (arith, len, c.requires.inside)) in
    let size = inv.size in
    omega arith

pub returns-clause-list : goal.returns-clause-list
returns-clause-list g c =
    let i = c.self.inside in
    let inv = c.self.invariant in
    let len : i.len ≡ length c.args.self.now.list = sym (count_of i.width i.len i.bits.list inv.some inv.size) ∙ ap (λ v. length v.list) c.self.view_is in
    let fits : c.args.number < 2 ^ i.width = subst (λ v. c.args.number < 2 ^ v.width) (sym c.self.view_is) c.requires.fits in
    ap (numbers_in i.width) c.store_be_at.ensures.list
    ∙ number_set i.width i.len c.args.i c.args.number i.bits.list inv.some inv.few inv.size (omega (arith, len, c.requires.inside)) fits
    ∙ ap (λ v. set v.list c.args.i c.args.number) c.self.view_is
