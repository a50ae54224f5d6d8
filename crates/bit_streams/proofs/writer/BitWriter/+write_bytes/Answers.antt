use Rattle.std.proofs.Common.{◌≡◌, ◌+◌, ◌-◌, ◌/◌, ◌%◌, ◌++◌, OnOk, append_assoc, length, sym, ◌∙◌, ap, subst, arith}
use Rattle.std.proofs.lemmas.List.{length-append}
use Rattle.bit_addressing.specs.Row.{binary}
use Rattle.bit_rows.proofs.Binary.{length-binary}
use Rattle.bit_streams.specs.Codes.{leb_bytes}
use Rattle.bit_streams.proofs.Bytes.{leb_last, leb_more, leb_none}
use Rattle.bit_streams.proofs.Steps.{may_refuse_after, one_step, refused_first}
use Rattle.bit_streams.proofs.writer.BitWriter.+write_bytes.Goals as goal

pub returns-then-more-eq0-clause-list : goal.returns-then-more-eq0-clause-list
returns-then-more-eq0-clause-list g t c =
    subst (λ l. OnOk c.write_last.result (c.write_last.new.self.list ≡ c.args.self.now.list ++ l)) (sym (leb_none c.args.more c.args.x c.if-more-eq0.true)) c.write_last.ensures.list

pub returns-then-more-eq0-clause-refusal : goal.returns-then-more-eq0-clause-refusal
returns-then-more-eq0-clause-refusal g t c =
    one_step c.write_last.result _ (binary 8 c.args.x) 8 c.args.self.now c.write_last.new.self (leb_none c.args.more c.args.x c.if-more-eq0.true) (length-binary 8 c.args.x) c.write_last.ensures.refusal

pub returns-then-x-lt128-clause-list : goal.returns-then-x-lt128-clause-list
returns-then-x-lt128-clause-list g t c =
    subst (λ l. OnOk c.write_last-then-x-lt128.result (c.write_last-then-x-lt128.new.self.list ≡ c.args.self.now.list ++ l)) (sym (leb_last c.args.more c.args.x c.if-x-lt128.true)) c.write_last-then-x-lt128.ensures.list

pub returns-then-x-lt128-clause-refusal : goal.returns-then-x-lt128-clause-refusal
returns-then-x-lt128-clause-refusal g t c =
    one_step c.write_last-then-x-lt128.result _ (binary 8 c.args.x) 8 c.args.self.now c.write_last-then-x-lt128.new.self (leb_last c.args.more c.args.x c.if-x-lt128.true) (length-binary 8 c.args.x) c.write_last-then-x-lt128.ensures.refusal

pub returns-in-Err-clause-refusal : goal.returns-in-Err-clause-refusal
returns-in-Err-clause-refusal g t c =
    let m = c.args.more in
    let x = c.args.x in
    let some = c.if-more-eq0.false in
    let all = ap length (leb_more m x (omega arith) c.if-x-lt128.false) ∙ length-append (binary 8 (x % 128 + 128)) (leb_bytes (m - 1) (x / 128)) in
    let digits = length-binary 8 (x % 128 + 128) in
    refused_first c.in-Err.why (leb_bytes m x) 8 c.args.self.now c.write.new.self c.in-Err.ensures.refusal (omega arith)

pub returns-in-Ok-write_bytes-clause-list : goal.returns-in-Ok-write_bytes-clause-list
returns-in-Ok-write_bytes-clause-list g t c =
    let m = c.args.more in
    let x = c.args.x in
    let some = c.if-more-eq0.false in
    let high = c.if-x-lt128.false in
    c.in-Ok-write_bytes.ensures.list
    ∙ ap (λ l. l ++ leb_bytes (m - 1) (x / 128)) c.in-Ok.ensures.list ∙ append_assoc c.args.self.now.list (binary 8 (x % 128 + 128)) (leb_bytes (m - 1) (x / 128))
    ∙ ap (λ l. c.args.self.now.list ++ l) (sym (leb_more m x (omega arith) high))

pub returns-in-Err-write_bytes-clause-refusal : goal.returns-in-Err-write_bytes-clause-refusal
returns-in-Err-write_bytes-clause-refusal g t c =
    let m = c.args.more in
    let x = c.args.x in
    let some = c.if-more-eq0.false in
    may_refuse_after c.in-Err-write_bytes.why (leb_bytes m x) (binary 8 (x % 128 + 128)) (leb_bytes (m - 1) (x / 128)) c.len-before.result c.args.self.now c.truncate.new.self c.write.new.self c.write_bytes.new.self
    c.in-Err-write_bytes.ensures.refusal c.in-Ok.ensures.list (leb_more m x (omega arith) c.if-x-lt128.false) c.in-Ok.ensures.capacity c.truncate.ensures.list c.len-before.ensures.value
