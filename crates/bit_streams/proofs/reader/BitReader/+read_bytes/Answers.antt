use Rattle.std.proofs.Common.{◌≡◌, ◌+◌, ◌-◌, ◌*◌, ◌/◌, ◌%◌, ◌++◌, Ok, inl, inr, sym, ◌∙◌, ap, arith}
use Rattle.std.proofs.lemmas.Bool.{cases_lt}
use Rattle.bit_addressing.specs.Row.{binary}
use Rattle.bit_streams.specs.Codes.{leb_bytes}
use Rattle.bit_streams.proofs.Bytes.{ends_on, first_byte, leb_last, leb_none, leb_read, leb_within, padded_here, padded_on, passes_here, passes_on}
use Rattle.bit_streams.proofs.Coded.{both_parts}
use Rattle.bit_streams.proofs.reader.BitReader.+read_bytes.Goals as goal

pub returns-in-None-clause-back : goal.returns-in-None-clause-back
returns-in-None-clause-back g t c x more below e within =
    let f = first_byte c.args.most x c.args.self.now.rest more within e in
    let b = c.in-None.ensures.back f.byte f.tail f.is f.below in
    absurd cc

pub returns-then-most-eq0-clause-found : goal.returns-then-most-eq0-clause-found
returns-then-most-eq0-clause-found g t c = c.in-Some.ensures.digits ∙ ap (λ l. l ++ c.read.new.self.rest) (sym (leb_none c.args.most c.in-Some.byte c.if-most-eq0.true))

pub returns-then-most-eq0-clause-back : goal.returns-then-most-eq0-clause-back
returns-then-most-eq0-clause-back g t c x more below e within =
    let f = first_byte c.args.most x c.args.self.now.rest more within e in
    let b = c.in-Some.ensures.back f.byte f.tail f.is f.below in
    let byte : c.in-Some.byte ≡ f.byte = cc in
    let i = f.none_is c.if-most-eq0.true in
    (ap Ok (byte ∙ i.0), b.1 ∙ i.1)

pub returns-then-byte-lt128-clause-found : goal.returns-then-byte-lt128-clause-found
returns-then-byte-lt128-clause-found g t c = c.in-Some.ensures.digits ∙ ap (λ l. l ++ c.read.new.self.rest) (sym (leb_last c.args.most c.in-Some.byte c.if-byte-lt128.true))

pub returns-then-byte-lt128-clause-back : goal.returns-then-byte-lt128-clause-back
returns-then-byte-lt128-clause-back g t c x more below e within =
    let f = first_byte c.args.most x c.args.self.now.rest more within e in
    let b = c.in-Some.ensures.back f.byte f.tail f.is f.below in
    let byte : c.in-Some.byte ≡ f.byte = cc in
    let some = c.if-most-eq0.false in
    let low = c.if-byte-lt128.true in
    elim (cases_lt x 128) [
      | inl l ↦ let i = f.last_is l in (ap Ok (byte ∙ i.0), b.1 ∙ i.1)
      | inr l ↦ let i = (f.more_is (omega arith) l).0 in absurd (omega arith)
    ]

pub returns-in-Err-clause-back : goal.returns-in-Err-clause-back
returns-in-Err-clause-back g t c x more below e within =
    let f = first_byte c.args.most x c.args.self.now.rest more within e in
    let b = c.in-Some.ensures.back f.byte f.tail f.is f.below in
    let byte : c.in-Some.byte ≡ f.byte = cc in
    let some = c.if-most-eq0.false in
    let high = c.if-byte-lt128.false in
    elim (cases_lt x 128) [
      | inl l ↦ let i = (f.last_is l).0 in absurd (omega arith)
      | inr l ↦
          let i = f.more_is (omega arith) l in
          let u = c.in-Err.ensures.back (x / 128) more (omega arith) (b.1 ∙ i.1) (leb_within c.args.most x (omega arith) within) in
          absurd cc
    ]

pub returns-then-upper-eq0-clause-back : goal.returns-then-upper-eq0-clause-back
returns-then-upper-eq0-clause-back g t c x more below e within =
    let f = first_byte c.args.most x c.args.self.now.rest more within e in
    let b = c.in-Some.ensures.back f.byte f.tail f.is f.below in
    let byte : c.in-Some.byte ≡ f.byte = cc in
    let some = c.if-most-eq0.false in
    let high = c.if-byte-lt128.false in
    let none = c.if-upper-eq0.true in
    elim (cases_lt x 128) [
      | inl l ↦ let i = (f.last_is l).0 in absurd (omega arith)
      | inr l ↦
          let i = f.more_is (omega arith) l in
          let u = c.in-Ok.ensures.back (x / 128) more (omega arith) (b.1 ∙ i.1) (leb_within c.args.most x (omega arith) within) in
          let upper : c.in-Ok.upper ≡ x / 128 = cc in
          absurd (omega arith)
    ]

pub returns-then-upper-clause-back : goal.returns-then-upper-clause-back
returns-then-upper-clause-back g t c x more below e within =
    let f = first_byte c.args.most x c.args.self.now.rest more within e in
    let b = c.in-Some.ensures.back f.byte f.tail f.is f.below in
    let byte : c.in-Some.byte ≡ f.byte = cc in
    let some = c.if-most-eq0.false in
    let high = c.if-byte-lt128.false in
    elim (cases_lt x 128) [
      | inl l ↦ let i = (f.last_is l).0 in absurd (omega arith)
      | inr l ↦
          let i = f.more_is (omega arith) l in
          let u = c.in-Ok.ensures.back (x / 128) more (omega arith) (b.1 ∙ i.1) (leb_within c.args.most x (omega arith) within) in
          let upper : c.in-Ok.upper ≡ x / 128 = cc in
          absurd (omega arith)
    ]

pub returns-else-upper-clause-found : goal.returns-else-upper-clause-found
returns-else-upper-clause-found g t c =
    let some = c.if-most-eq0.false in
    let high = c.if-byte-lt128.false in
    let low = c.in-Some.ensures.below in
    let there = c.if-upper-eq0.false in
    both_parts c.args.self.now.rest c.read.new.self.rest c.read_bytes.new.self.rest (binary 8 c.in-Some.byte) (leb_bytes (c.args.most - 1) c.in-Ok.upper) (leb_bytes c.args.most (c.in-Ok.upper * 128 + c.in-Some.byte % 128))
    c.in-Some.ensures.digits c.in-Ok.ensures.found (leb_read c.args.most c.in-Some.byte c.in-Ok.upper (omega arith) (omega arith) (omega arith) (omega arith))

pub returns-else-upper-clause-back : goal.returns-else-upper-clause-back
returns-else-upper-clause-back g t c x more below e within =
    let f = first_byte c.args.most x c.args.self.now.rest more within e in
    let b = c.in-Some.ensures.back f.byte f.tail f.is f.below in
    let byte : c.in-Some.byte ≡ f.byte = cc in
    let some = c.if-most-eq0.false in
    let high = c.if-byte-lt128.false in
    elim (cases_lt x 128) [
      | inl l ↦ let i = (f.last_is l).0 in absurd (omega arith)
      | inr l ↦
          let i = f.more_is (omega arith) l in
          let u = c.in-Ok.ensures.back (x / 128) more (omega arith) (b.1 ∙ i.1) (leb_within c.args.most x (omega arith) within) in
          let upper : c.in-Ok.upper ≡ x / 128 = cc in
          let first = i.0 in
          (ap Ok (let sum : c.in-Ok.upper * 128 + c.in-Some.byte % 128 ≡ x = omega arith in sum), u.1)
    ]

pub returns-then-upper-eq0-clause-padded : goal.returns-then-upper-eq0-clause-padded
returns-then-upper-eq0-clause-padded g t c e =
    let some = c.if-most-eq0.false in
    padded_here c.args.self.now.rest c.read.new.self.rest c.read_bytes.new.self.rest c.in-Some.byte c.args.most c.in-Ok.upper c.in-Some.ensures.digits c.in-Ok.ensures.found c.if-upper-eq0.true c.if-byte-lt128.false (omega arith)

pub returns-then-upper-clause-too_long : goal.returns-then-upper-clause-too_long
returns-then-upper-clause-too_long g t c e =
    let some = c.if-most-eq0.false in
    let low = c.in-Some.ensures.below in
    passes_here c.args.self.now.rest c.read.new.self.rest c.read_bytes.new.self.rest c.in-Some.byte c.args.most c.in-Ok.upper c.in-Some.ensures.digits c.in-Ok.ensures.found (omega arith) c.if-byte-lt128.false (omega arith) (omega arith)

pub returns-in-Err-clause-ended : goal.returns-in-Err-clause-ended
returns-in-Err-clause-ended g t c e =
    let some = c.if-most-eq0.false in
    ends_on c.args.self.now.rest c.read.new.self.rest c.in-Some.byte c.args.most c.in-Some.ensures.digits c.if-byte-lt128.false (omega arith) (c.in-Err.ensures.ended e)

pub returns-in-Err-clause-too_long : goal.returns-in-Err-clause-too_long
returns-in-Err-clause-too_long g t c e =
    let some = c.if-most-eq0.false in
    let low = c.in-Some.ensures.below in
    passes_on c.args.self.now.rest c.read.new.self.rest c.in-Some.byte c.args.most c.in-Some.ensures.digits c.if-byte-lt128.false (omega arith) (omega arith) (c.in-Err.ensures.too_long e)

pub returns-in-Err-clause-padded : goal.returns-in-Err-clause-padded
returns-in-Err-clause-padded g t c e =
    let some = c.if-most-eq0.false in
    padded_on c.args.self.now.rest c.read.new.self.rest c.in-Some.byte c.args.most c.in-Some.ensures.digits c.if-byte-lt128.false (omega arith) (c.in-Err.ensures.padded e)
