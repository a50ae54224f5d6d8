use Rattle.std.proofs.Common.{◌≡◌, ◌+◌, ◌-◌, cond, Some, inl, inr, ◌∙◌, ap, arith}
use Rattle.std.proofs.lemmas.Bool.{cases_lt}
use Rattle.bit_streams.proofs.Rests.{first_digits, rest_found_long, short_is}
use Rattle.bit_streams.proofs.reader.BitReader.read_rest.Goals as goal

pub returns-then-rest-short-clause-below : goal.returns-then-rest-short-clause-below
returns-then-rest-short-clause-below g c =
    let s = short_is c.args.m c.top_of-top.result c.requires (omega arith) c.top_of-top.ensures.place in
    let least = s.0 in
    let double = s.2 in
    let sum = c.short_rests-short.ensures.within in
    let low = c.if-rest-short.true in
    omega arith

pub returns-in-None-clause-back : goal.returns-in-None-clause-back
returns-in-None-clause-back g c x more below e =
    let s = short_is c.args.m c.top_of-top.result c.requires (omega arith) c.top_of-top.ensures.place in
    let d = first_digits c.args.m c.top_of-top.result c.short_rests-short.result x c.args.self.now.rest more s.0 s.1 s.2 c.top_of-top.ensures.place c.short_rests-short.ensures.value below e in
    let b = c.in-None.ensures.back d.digits d.tail d.is d.below in
    absurd cc

pub returns-then-rest-short-clause-back : goal.returns-then-rest-short-clause-back
returns-then-rest-short-clause-back g c x more below e =
    let s = short_is c.args.m c.top_of-top.result c.requires (omega arith) c.top_of-top.ensures.place in
    let d = first_digits c.args.m c.top_of-top.result c.short_rests-short.result x c.args.self.now.rest more s.0 s.1 s.2 c.top_of-top.ensures.place c.short_rests-short.ensures.value below e in
    let b = c.in-Some.ensures.back d.digits d.tail d.is d.below in
    let rest : c.in-Some.rest ≡ d.digits = cc in
    let low = c.if-rest-short.true in
    elim (cases_lt x c.short_rests-short.result) [
      | inl l ↦ let i = d.short_is l in (ap Some (rest ∙ i.0), b.1 ∙ i.1)
      | inr l ↦ let i = (d.long_is l).0 in absurd (omega arith)
    ]

pub returns-in-None-read_bit-clause-back : goal.returns-in-None-read_bit-clause-back
returns-in-None-read_bit-clause-back g c x more below e =
    let s = short_is c.args.m c.top_of-top.result c.requires (omega arith) c.top_of-top.ensures.place in
    let d = first_digits c.args.m c.top_of-top.result c.short_rests-short.result x c.args.self.now.rest more s.0 s.1 s.2 c.top_of-top.ensures.place c.short_rests-short.ensures.value below e in
    let b = c.in-Some.ensures.back d.digits d.tail d.is d.below in
    let rest : c.in-Some.rest ≡ d.digits = cc in
    let high = c.if-rest-short.false in
    elim (cases_lt x c.short_rests-short.result) [
      | inl l ↦ let i = (d.short_is l).0 in absurd (omega arith)
      | inr l ↦ let i = (d.long_is l).1 in let r = c.in-None-read_bit.ensures.back i.0 more (b.1 ∙ i.1.1) in absurd cc
    ]

pub returns-in-Some-read_bit-clause-found : goal.returns-in-Some-read_bit-clause-found
returns-in-Some-read_bit-clause-found g c =
    rest_found_long c.args.m c.top_of-top.result c.short_rests-short.result c.in-Some.rest c.digit_of.result c.in-Some-read_bit.bit c.args.self.now.rest c.read.new.self.rest c.read_bit.new.self.rest
    c.top_of-top.ensures.place c.short_rests-short.ensures.value (let high = c.if-rest-short.false in omega arith) c.digit_of.ensures.value c.in-Some.ensures.digits c.in-Some-read_bit.ensures.digits

pub returns-in-Some-read_bit-clause-back : goal.returns-in-Some-read_bit-clause-back
returns-in-Some-read_bit-clause-back g c x more below e =
    let s = short_is c.args.m c.top_of-top.result c.requires (omega arith) c.top_of-top.ensures.place in
    let d = first_digits c.args.m c.top_of-top.result c.short_rests-short.result x c.args.self.now.rest more s.0 s.1 s.2 c.top_of-top.ensures.place c.short_rests-short.ensures.value below e in
    let b = c.in-Some.ensures.back d.digits d.tail d.is d.below in
    let rest : c.in-Some.rest ≡ d.digits = cc in
    let high = c.if-rest-short.false in
    elim (cases_lt x c.short_rests-short.result) [
      | inl l ↦ let i = (d.short_is l).0 in absurd (omega arith)
      | inr l ↦
          let long = (d.long_is l).0 in
          let i = (d.long_is l).1 in
          let r = c.in-Some-read_bit.ensures.back i.0 more (b.1 ∙ i.1.1) in
          let bit : c.in-Some-read_bit.bit ≡ i.0 = cc in
          let digit : c.digit_of.result ≡ cond i.0 1 0 = c.digit_of.ensures.value ∙ ap (λ k. cond k 1 0) bit in
          let sum = i.1.0 in
          (ap Some (let is : c.in-Some.rest - c.short_rests-short.result + c.in-Some.rest + c.digit_of.result ≡ x = omega arith in is), r.1)
    ]
