use Rattle.std.proofs.Common.{◌≡◌, ◌+◌, ◌-◌, ◌*◌, ◌<◌, ◌≤◌, ◌↔◌, Err, OnOk, length, refl, sym, subst, ◌∙◌, ap, arith}
use Rattle.std.proofs.Math.Nat.{div-lt_iff_lt-mul}
use Rattle.bit_addressing.specs.declared.errors.GrowError.TheVariants.{TooLong}
use Rattle.bit_addressing.specs.declared.length.TheConstants.{MAX_BITS}
use Rattle.bit_records.proofs.Numbers.{count_of, bits_of_more}
use Rattle.bit_records.proofs.records.Records.reserve.Goals as goal

pub returns-then-more-room-clause-too_long : goal.returns-then-more-room-clause-too_long
returns-then-more-room-clause-too_long g c =
    let i = c.self.inside in
    let inv = c.self.invariant in
    let now = c.args.self.now in
    let len : i.len ≡ length now.list = sym (count_of i.width i.len i.bits.list inv.some inv.size) ∙ ap (λ r. length r.list) c.self.view_is in
    let wanted : length i.bits.list + c.args.more * i.width ≡ (length now.list + c.args.more) * now.width = ap (λ n. n + c.args.more * i.width) inv.size ∙ bits_of_more i.len c.args.more i.width ∙ ap (λ n. (n + c.args.more) * i.width) len ∙ ap (λ r. (length now.list + c.args.more) * r.width) c.self.view_is in
    let past : MAX_BITS - c.len.result < c.args.more * i.width = (div-lt_iff_lt-mul {k = i.width} {x = MAX_BITS - c.len.result} {y = c.args.more} inv.some).0 c.if-more-room.true in
    let size = c.len.ensures.value in
    let over : MAX_BITS < length i.bits.list + c.args.more * i.width = omega arith in
    ((λ _. subst (λ n. MAX_BITS < n) wanted over), (λ _. refl))

pub returns-clause-room : goal.returns-clause-room
returns-clause-room g c =
    let i = c.self.inside in
    let inv = c.self.invariant in
    let now = c.args.self.now in
    let len : i.len ≡ length now.list = sym (count_of i.width i.len i.bits.list inv.some inv.size) ∙ ap (λ r. length r.list) c.self.view_is in
    let wanted : length i.bits.list + c.args.more * i.width ≡ (length now.list + c.args.more) * now.width = ap (λ n. n + c.args.more * i.width) inv.size ∙ bits_of_more i.len c.args.more i.width ∙ ap (λ n. (n + c.args.more) * i.width) len ∙ ap (λ r. (length now.list + c.args.more) * r.width) c.self.view_is in
    subst (λ n. OnOk c.reserve.result (n ≤ c.reserve.new.self.capacity)) wanted c.reserve.ensures.room

pub returns-clause-fits : goal.returns-clause-fits
returns-clause-fits g c =
    let i = c.self.inside in
    let inv = c.self.invariant in
    let now = c.args.self.now in
    let len : i.len ≡ length now.list = sym (count_of i.width i.len i.bits.list inv.some inv.size) ∙ ap (λ r. length r.list) c.self.view_is in
    let wanted : length i.bits.list + c.args.more * i.width ≡ (length now.list + c.args.more) * now.width = ap (λ n. n + c.args.more * i.width) inv.size ∙ bits_of_more i.len c.args.more i.width ∙ ap (λ n. (n + c.args.more) * i.width) len ∙ ap (λ r. (length now.list + c.args.more) * r.width) c.self.view_is in
    subst (λ n. OnOk c.reserve.result (n ≤ MAX_BITS)) wanted c.reserve.ensures.fits

pub returns-clause-too_long : goal.returns-clause-too_long
returns-clause-too_long g c =
    let i = c.self.inside in
    let inv = c.self.invariant in
    let now = c.args.self.now in
    let len : i.len ≡ length now.list = sym (count_of i.width i.len i.bits.list inv.some inv.size) ∙ ap (λ r. length r.list) c.self.view_is in
    let wanted : length i.bits.list + c.args.more * i.width ≡ (length now.list + c.args.more) * now.width = ap (λ n. n + c.args.more * i.width) inv.size ∙ bits_of_more i.len c.args.more i.width ∙ ap (λ n. (n + c.args.more) * i.width) len ∙ ap (λ r. (length now.list + c.args.more) * r.width) c.self.view_is in
    subst (λ n. (c.reserve.result ≡ Err TooLong) ↔ (MAX_BITS < n)) wanted c.reserve.ensures.refusal.too_long

pub returns-clause-memory : goal.returns-clause-memory
returns-clause-memory g c = λ e.
    let i = c.self.inside in
    let inv = c.self.invariant in
    let now = c.args.self.now in
    let len : i.len ≡ length now.list = sym (count_of i.width i.len i.bits.list inv.some inv.size) ∙ ap (λ r. length r.list) c.self.view_is in
    let wanted : length i.bits.list + c.args.more * i.width ≡ (length now.list + c.args.more) * now.width = ap (λ n. n + c.args.more * i.width) inv.size ∙ bits_of_more i.len c.args.more i.width ∙ ap (λ n. (n + c.args.more) * i.width) len ∙ ap (λ r. (length now.list + c.args.more) * r.width) c.self.view_is in
    subst (λ n. now.bits.capacity < n) wanted (subst (λ r. r.bits.capacity < length i.bits.list + c.args.more * i.width) c.self.view_is (c.reserve.ensures.refusal.memory e))

pub returns-clause-no_memory : goal.returns-clause-no_memory
returns-clause-no_memory g c = λ room.
    let i = c.self.inside in
    let inv = c.self.invariant in
    let now = c.args.self.now in
    let len : i.len ≡ length now.list = sym (count_of i.width i.len i.bits.list inv.some inv.size) ∙ ap (λ r. length r.list) c.self.view_is in
    let wanted : length i.bits.list + c.args.more * i.width ≡ (length now.list + c.args.more) * now.width = ap (λ n. n + c.args.more * i.width) inv.size ∙ bits_of_more i.len c.args.more i.width ∙ ap (λ n. (n + c.args.more) * i.width) len ∙ ap (λ r. (length now.list + c.args.more) * r.width) c.self.view_is in
    c.reserve.ensures.no_memory (subst (λ n. n ≤ i.bits.capacity) (sym wanted) (subst (λ r. (length now.list + c.args.more) * now.width ≤ r.bits.capacity) (sym c.self.view_is) room)) ∙ ap (λ r. r.bits.capacity) c.self.view_is
