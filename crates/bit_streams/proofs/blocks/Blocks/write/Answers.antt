use Rattle.std.proofs.Common.{◌≡◌, ◌+◌, ◌-◌, ◌/◌, ◌^◌, ◌<◌, ◌++◌, length, refl, sym, ◌∙◌, ap, arith}
use Rattle.std.proofs.lemmas.List.{length-append}
use Rattle.std.proofs.lemmas.Grind.{common_steps}
use Rattle.bit_addressing.specs.Row.{binary}
use Rattle.bit_rows.proofs.Binary.{length-binary}
use Rattle.bit_streams.proofs.Lists.{written_length, not_refused, refused_long, refused_memory, block_written}
use Rattle.bit_streams.proofs.blocks.Blocks.write.Goals as goal

pub returns-then-count-lt64-clause-len : goal.returns-then-count-lt64-clause-len
returns-then-count-lt64-clause-len g c =
    let i = c.self.inside in
    let all : length c.args.self.now.list ≡ length i.words.list + i.count = ap (λ v. length v.list) (sym c.self.view_is) ∙ written_length i.words.list i.count i.pending in
    let more = written_length i.words.list (i.count + c.args.n) c.joined-self-inside.result in
    more ∙ omega arith

pub returns-then-count-lt64-clause-refusal : goal.returns-then-count-lt64-clause-refusal
returns-then-count-lt64-clause-refusal g c =
    let i = c.self.inside in
    let all : length c.args.self.now.list ≡ length i.words.list + i.count = ap (λ v. length v.list) (sym c.self.view_is) ∙ written_length i.words.list i.count i.pending in
    let fits = c.self.invariant.fits in
    let few = c.self.invariant.few in
    let blocks = c.self.invariant.blocks in
    let short = c.if-count-lt64.true in
    not_refused (length c.args.self.now.list + c.args.n) c.args.self.now _ (omega arith)

pub returns-then-is_full-clause-refusal : goal.returns-then-is_full-clause-refusal
returns-then-is_full-clause-refusal g c =
    let i = c.self.inside in
    let all : length c.args.self.now.list ≡ length i.words.list + i.count = ap (λ v. length v.list) (sym c.self.view_is) ∙ written_length i.words.list i.count i.pending in
    let fits = c.self.invariant.fits in
    let few = c.self.invariant.few in
    let blocks = c.self.invariant.blocks in
    let over = c.if-count-lt64.false in
    let past = c.is_full.ensures.full c.if-is_full.true in
    refused_long (length c.args.self.now.list + c.args.n) c.args.self.now (omega arith)

pub returns-in-Ok-clause-list : goal.returns-in-Ok-clause-list
returns-in-Ok-clause-list g c =
    let i = c.self.inside in
    let few = c.self.invariant.few in
    let room = c.if-count-lt64.false in
    let rest = i.count + c.args.n - 64 in
    let whole : c.args.n ≡ (64 - i.count) + rest = omega arith in
    block_written i.words.list c.push.new.self.list i.count i.pending (64 - i.count) rest c.args.n c.args.x c.filled-block.result (c.args.x / 2 ^ rest) c.low_digits-self-inside.result
    c.in-Ok.ensures.list c.filled-block.ensures refl c.low_digits-self-inside.ensures whole
    ∙ ap (λ v. v.list ++ binary c.args.n c.args.x) c.self.view_is

pub returns-in-Ok-clause-len : goal.returns-in-Ok-clause-len
returns-in-Ok-clause-len g c =
    let digits = length-binary c.args.n c.args.x in
    ap length (returns-in-Ok-clause-list g c) ∙ length-append c.args.self.now.list (binary c.args.n c.args.x) ∙ ap (λ k. length c.args.self.now.list + k) digits

pub returns-in-Ok-clause-refusal : goal.returns-in-Ok-clause-refusal
returns-in-Ok-clause-refusal g c =
    let i = c.self.inside in
    let all : length c.args.self.now.list ≡ length i.words.list + i.count = ap (λ v. length v.list) (sym c.self.view_is) ∙ written_length i.words.list i.count i.pending in
    let fits = c.self.invariant.fits in
    let few = c.self.invariant.few in
    let blocks = c.self.invariant.blocks in
    let within = c.is_full.ensures.room c.if-is_full.false in
    not_refused (length c.args.self.now.list + c.args.n) c.args.self.now _ (omega arith)

pub returns-in-Err-clause-refusal : goal.returns-in-Err-clause-refusal
returns-in-Err-clause-refusal g c =
    let i = c.self.inside in
    let all : length c.args.self.now.list ≡ length i.words.list + i.count = ap (λ v. length v.list) (sym c.self.view_is) ∙ written_length i.words.list i.count i.pending in
    let fits = c.self.invariant.fits in
    let few = c.self.invariant.few in
    let blocks = c.self.invariant.blocks in
    let within = c.is_full.ensures.room c.if-is_full.false in
    let room = c.if-count-lt64.false in
    let full : i.words.capacity < length i.words.list + 64 = c.in-Err.ensures.full in
    let capacity : c.args.self.now.capacity ≡ i.words.capacity = ap (λ v. v.capacity) (sym c.self.view_is) in
    refused_memory (length c.args.self.now.list + c.args.n) c.args.self.now _ (omega arith) (omega arith)
    (ap (λ l. l ++ binary i.count i.pending) c.in-Err.ensures.unchanged ∙ ap (λ v. v.list) c.self.view_is)

pub returns-then-count-lt64-clause-list : goal.returns-then-count-lt64-clause-list
returns-then-count-lt64-clause-list g c = grind (arith, common_steps)
