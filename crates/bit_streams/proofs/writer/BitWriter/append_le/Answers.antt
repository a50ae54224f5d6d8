use Rattle.std.proofs.Common.{◌≡◌, ◌+◌, ◌-◌, ◌++◌, append_assoc, length, sym, ◌∙◌, ap, arith}
use Rattle.bit_addressing.specs.Row.{number_bits}
use Rattle.bit_streams.proofs.Lists.{not_refused, refused_as, within_limit}
use Rattle.bit_streams.proofs.Lows.{with_tail}
use Rattle.bit_streams.proofs.writer.BitWriter.append_le.Goals as goal

pub returns-then-count-lt64-clause-list : goal.returns-then-count-lt64-clause-list
returns-then-count-lt64-clause-list g c =
    let i = c.self.inside in
    ap (λ l. i.blocks.list ++ l) c.joined_le-self-inside.ensures.digits ∙ sym (append_assoc i.blocks.list (number_bits i.tail i.tails) (number_bits c.args.x c.args.n))
    ∙ ap (λ v. v.list ++ number_bits c.args.x c.args.n) c.self.view_is

pub returns-then-count-lt64-clause-len : goal.returns-then-count-lt64-clause-len
returns-then-count-lt64-clause-len g c =
    let i = c.self.inside in
    let all : length c.args.self.now.list ≡ length i.blocks.list + i.tails = ap (λ v. length v.list) (sym c.self.view_is) ∙ with_tail i.blocks.list i.tails i.tail in
    with_tail i.blocks.list (i.tails + c.args.n) c.joined_le-self-inside.result ∙ omega arith

pub returns-then-count-lt64-clause-refusal : goal.returns-then-count-lt64-clause-refusal
returns-then-count-lt64-clause-refusal g c =
    let i = c.self.inside in
    let all : length c.args.self.now.list ≡ length i.blocks.list + i.tails = ap (λ v. length v.list) (sym c.self.view_is) ∙ with_tail i.blocks.list i.tails i.tail in
    let short = c.if-count-lt64.true in
    let room = c.waits-waits.ensures.room in
    not_refused (length c.args.self.now.list + c.args.n) c.args.self.now _ (omega arith)

pub invariant_of-self-in-Ok : goal.invariant_of-self-in-Ok
invariant_of-self-in-Ok g c =
    let i = c.self.inside in
    let x = c.filled_le.result in
    let long : length c.push_le.new.self.list ≡ length i.blocks.list + 64 = ap length c.in-Ok.ensures.list ∙ with_tail i.blocks.list 64 x in
    let waits = c.waits-waits.ensures.value in
    let none = c.if-waits-ne0.false in
    let few = c.self.invariant.few in
    let most = c.requires in
    record {
      few = omega arith;
      small = c.rest_le-self-inside.ensures.below;
    }

pub returns-in-Ok-clause-len : goal.returns-in-Ok-clause-len
returns-in-Ok-clause-len g c =
    let i = c.self.inside in
    let rest = c.waits-waits.result + i.tails + c.args.n - 64 in
    let all : length c.args.self.now.list ≡ length i.blocks.list + i.tails = ap (λ v. length v.list) (sym c.self.view_is) ∙ with_tail i.blocks.list i.tails i.tail in
    let long : length c.push_le.new.self.list ≡ length i.blocks.list + 64 = ap length c.in-Ok.ensures.list ∙ with_tail i.blocks.list 64 c.filled_le.result in
    let none = c.if-waits-ne0.false in
    let over = c.if-count-lt64.false in
    with_tail c.push_le.new.self.list rest c.rest_le-self-inside.result ∙ omega arith

pub returns-in-Ok-clause-refusal : goal.returns-in-Ok-clause-refusal
returns-in-Ok-clause-refusal g c =
    let i = c.self.inside in
    let all : length c.args.self.now.list ≡ length i.blocks.list + i.tails = ap (λ v. length v.list) (sym c.self.view_is) ∙ with_tail i.blocks.list i.tails i.tail in
    let limit = within_limit _ (length i.blocks.list + 64) i.blocks c.push_le.new.self c.in-Ok.ensures.refusal in
    let waits = c.waits-waits.ensures.value in
    let none = c.if-waits-ne0.false in
    let few = c.self.invariant.few in
    let most = c.requires in
    not_refused (length c.args.self.now.list + c.args.n) c.args.self.now _ (omega arith)

pub returns-in-Err-clause-refusal : goal.returns-in-Err-clause-refusal
returns-in-Err-clause-refusal g c =
    let i = c.self.inside in
    let all : length c.args.self.now.list ≡ length i.blocks.list + i.tails = ap (λ v. length v.list) (sym c.self.view_is) ∙ with_tail i.blocks.list i.tails i.tail in
    let waits = c.waits-waits.ensures.value in
    let none = c.if-waits-ne0.false in
    let over = c.if-count-lt64.false in
    let few = c.self.invariant.few in
    let most = c.requires in
    refused_as _ (length c.args.self.now.list + c.args.n) (length i.blocks.list + 64) c.args.self.now _ i.blocks c.push_le.new.self
    (ap (λ v. v.capacity) c.self.view_is) (λ e. ap (λ l. l ++ number_bits i.tail i.tails) e ∙ ap (λ v. v.list) c.self.view_is) (omega arith) (λ h. omega arith) c.in-Err.ensures.refusal
