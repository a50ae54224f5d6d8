use Rattle.std.proofs.Common.{◌≡◌, ◌+◌, ◌*◌, ◌^◌, ◌<◌, ◌≤◌, ◌++◌, ◌↔◌, [], ◌∷◌, Ok, Err, length, sym, subst, ◌∙◌, ap, inl, inr, arith}
use Rattle.std.proofs.lemmas.Bool.{cases_lt}
use Rattle.std.proofs.lemmas.List.{length-append}
use Rattle.bit_addressing.specs.Row.{binary}
use Rattle.bit_addressing.specs.declared.errors.GrowError.TheVariants.{TooLong}
use Rattle.bit_addressing.specs.declared.length.TheConstants.{MAX_BITS}
use Rattle.bit_rows.proofs.Binary.{length-binary}
use Rattle.bit_addressing.proofs.lists.Sized.{one_more_word}
use Rattle.bit_records.specs.Records.{numbers_in}
use Rattle.bit_records.proofs.Numbers.{count_of, number_joined}
use Rattle.bit_records.proofs.records.Records.push.Goals as goal

pub invariant_of-self : goal.invariant_of-self
invariant_of-self g c =
    let i = c.self.inside in
    let inv = c.self.invariant in
    let xs = i.bits.list in
    let bits = binary i.width c.args.number in
    let long : length c.push_be.new.self.list ≡ length xs + i.width = ap length c.in-Ok.ensures.list ∙ length-append xs bits ∙ ap (λ n. length xs + n) (length-binary i.width c.args.number) in
    let more = one_more_word i.len i.width in
    let size = inv.size in
    record {
      some = inv.some;
      few = inv.few;
      clean = c.in-Ok.ensures.clean inv.clean;
      size = omega arith;
      small = elim (cases_lt MAX_BITS (length xs + i.width)) [
        | inl h ↦ absurd (let e = c.in-Ok.ensures.refusal.too_long.1 h in cc)
        | inr h ↦ omega (arith, h, long)
      ];
    }

pub returns-in-Ok-clause-list : goal.returns-in-Ok-clause-list
returns-in-Ok-clause-list g c =
    let i = c.self.inside in
    let inv = c.self.invariant in
    let fits : c.args.number < 2 ^ i.width = subst (λ r. c.args.number < 2 ^ r.width) (sym c.self.view_is) c.requires in
    ap (numbers_in i.width) c.in-Ok.ensures.list
    ∙ number_joined i.width i.len c.args.number i.bits.list inv.some inv.few inv.size fits
    ∙ ap (λ r. r.list ++ c.args.number ∷ []) c.self.view_is

pub returns-in-Ok-clause-too_long : goal.returns-in-Ok-clause-too_long
returns-in-Ok-clause-too_long g c =
    let i = c.self.inside in
    let inv = c.self.invariant in
    let now = c.args.self.now in
    let len : i.len ≡ length now.list = sym (count_of i.width i.len i.bits.list inv.some inv.size) ∙ ap (λ r. length r.list) c.self.view_is in
    let wanted : length i.bits.list + i.width ≡ length now.list * now.width + now.width = ap (λ n. n + i.width) inv.size ∙ ap (λ n. n * i.width + i.width) len ∙ ap (λ r. length now.list * r.width + r.width) c.self.view_is in
    subst (λ n. (Ok tt ≡ Err TooLong) ↔ (MAX_BITS < n)) wanted c.in-Ok.ensures.refusal.too_long

pub returns-in-Err-clause-too_long : goal.returns-in-Err-clause-too_long
returns-in-Err-clause-too_long g c =
    let i = c.self.inside in
    let inv = c.self.invariant in
    let now = c.args.self.now in
    let len : i.len ≡ length now.list = sym (count_of i.width i.len i.bits.list inv.some inv.size) ∙ ap (λ r. length r.list) c.self.view_is in
    let wanted : length i.bits.list + i.width ≡ length now.list * now.width + now.width = ap (λ n. n + i.width) inv.size ∙ ap (λ n. n * i.width + i.width) len ∙ ap (λ r. length now.list * r.width + r.width) c.self.view_is in
    ((λ e. subst (λ n. MAX_BITS < n) wanted (c.in-Err.ensures.refusal.too_long.0 e)), (λ h. c.in-Err.ensures.refusal.too_long.1 (subst (λ n. MAX_BITS < n) (sym wanted) h)))

pub returns-in-Err-clause-memory : goal.returns-in-Err-clause-memory
returns-in-Err-clause-memory g c = λ e.
    let i = c.self.inside in
    let inv = c.self.invariant in
    let now = c.args.self.now in
    let len : i.len ≡ length now.list = sym (count_of i.width i.len i.bits.list inv.some inv.size) ∙ ap (λ r. length r.list) c.self.view_is in
    let wanted : length i.bits.list + i.width ≡ length now.list * now.width + now.width = ap (λ n. n + i.width) inv.size ∙ ap (λ n. n * i.width + i.width) len ∙ ap (λ r. length now.list * r.width + r.width) c.self.view_is in
    subst (λ n. now.bits.capacity < n) wanted (subst (λ r. r.bits.capacity < length i.bits.list + i.width) c.self.view_is (c.in-Err.ensures.refusal.memory e))

pub returns-in-Ok-clause-no_memory : goal.returns-in-Ok-clause-no_memory
returns-in-Ok-clause-no_memory g c = λ room.
    let i = c.self.inside in
    let inv = c.self.invariant in
    let now = c.args.self.now in
    let len : i.len ≡ length now.list = sym (count_of i.width i.len i.bits.list inv.some inv.size) ∙ ap (λ r. length r.list) c.self.view_is in
    let wanted : length i.bits.list + i.width ≡ length now.list * now.width + now.width = ap (λ n. n + i.width) inv.size ∙ ap (λ n. n * i.width + i.width) len ∙ ap (λ r. length now.list * r.width + r.width) c.self.view_is in
    c.in-Ok.ensures.no_memory (subst (λ n. n ≤ i.bits.capacity) (sym wanted) (subst (λ r. length now.list * now.width + now.width ≤ r.bits.capacity) (sym c.self.view_is) room)) ∙ ap (λ r. r.bits.capacity) c.self.view_is

pub returns-in-Err-clause-no_memory : goal.returns-in-Err-clause-no_memory
returns-in-Err-clause-no_memory g c = λ room.
    let i = c.self.inside in
    let inv = c.self.invariant in
    let now = c.args.self.now in
    let len : i.len ≡ length now.list = sym (count_of i.width i.len i.bits.list inv.some inv.size) ∙ ap (λ r. length r.list) c.self.view_is in
    let wanted : length i.bits.list + i.width ≡ length now.list * now.width + now.width = ap (λ n. n + i.width) inv.size ∙ ap (λ n. n * i.width + i.width) len ∙ ap (λ r. length now.list * r.width + r.width) c.self.view_is in
    c.in-Err.ensures.no_memory (subst (λ n. n ≤ i.bits.capacity) (sym wanted) (subst (λ r. length now.list * now.width + now.width ≤ r.bits.capacity) (sym c.self.view_is) room)) ∙ ap (λ r. r.bits.capacity) c.self.view_is
