use Rattle.std.proofs.Common.{◌≡◌, ◌+◌, ◌<◌, ◌++◌, length, sym, ◌∙◌, ap, arith}
use Rattle.bit_addressing.specs.Row.{binary, number_bits}
use Rattle.bit_streams.proofs.Lists.{written_length, not_refused, refused_long, refused_memory, none_waits}
use Rattle.bit_streams.proofs.blocks.Blocks.push_le.Goals as goal

pub returns-then-is_full-clause-refusal : goal.returns-then-is_full-clause-refusal
returns-then-is_full-clause-refusal g c =
    let i = c.self.inside in
    let all : length c.args.self.now.list ≡ length i.words.list + i.count = ap (λ v. length v.list) (sym c.self.view_is) ∙ written_length i.words.list i.count i.pending in
    let past = c.is_full.ensures.full c.if-is_full.true in
    refused_long (length c.args.self.now.list + 64) c.args.self.now (omega arith)

pub returns-clause-list : goal.returns-clause-list
returns-clause-list g c =
    let i = c.self.inside in
    let all : length c.args.self.now.list ≡ length i.words.list + i.count = ap (λ v. length v.list) (sym c.self.view_is) ∙ written_length i.words.list i.count i.pending in
    let few = c.self.invariant.few in
    let blocks = c.self.invariant.blocks in
    let even = c.requires in
    let none : i.count ≡ 0 = omega arith in
    none_waits c.push_le.new.self.list i.count i.pending none
    ∙ c.in-Ok.ensures.list
    ∙ ap (λ l. l ++ number_bits c.args.x 64) (sym (none_waits (i.words.list) i.count i.pending none) ∙ ap (λ v. v.list) c.self.view_is)

pub returns-clause-refusal : goal.returns-clause-refusal
returns-clause-refusal g c =
    let i = c.self.inside in
    let all : length c.args.self.now.list ≡ length i.words.list + i.count = ap (λ v. length v.list) (sym c.self.view_is) ∙ written_length i.words.list i.count i.pending in
    let few = c.self.invariant.few in
    let blocks = c.self.invariant.blocks in
    let even = c.requires in
    let within = c.is_full.ensures.room c.if-is_full.false in
    not_refused (length c.args.self.now.list + 64) c.args.self.now _ (omega arith)

pub returns-in-Err-clause-refusal : goal.returns-in-Err-clause-refusal
returns-in-Err-clause-refusal g c =
    let i = c.self.inside in
    let all : length c.args.self.now.list ≡ length i.words.list + i.count = ap (λ v. length v.list) (sym c.self.view_is) ∙ written_length i.words.list i.count i.pending in
    let few = c.self.invariant.few in
    let blocks = c.self.invariant.blocks in
    let even = c.requires in
    let within = c.is_full.ensures.room c.if-is_full.false in
    let full : i.words.capacity < length i.words.list + 64 = c.in-Err.ensures.full in
    let capacity : c.args.self.now.capacity ≡ i.words.capacity = ap (λ v. v.capacity) (sym c.self.view_is) in
    refused_memory (length c.args.self.now.list + 64) c.args.self.now _ (omega arith) (omega arith)
    (ap (λ l. l ++ binary i.count i.pending) c.in-Err.ensures.unchanged ∙ ap (λ v. v.list) c.self.view_is)
