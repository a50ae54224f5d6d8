use Rattle.std.proofs.Common.{◌≡◌, ◌-◌, ◌%◌, ◌++◌, inl, inr, length, rules, refl, sym, ◌∙◌, ap, arith}
use Rattle.std.proofs.Math.Pow.{pow_pos}
use Rattle.bit_addressing.specs.Row.{binary}
use Rattle.bit_slice.specs.BitSlice.{list_of}
use Rattle.bit_streams.proofs.Parted.{list_cut, list_filled, listed_found, listed_opened, part_is, part_size, part_there}
use Rattle.bit_streams.proofs.reader.BitReader.list_parts.Goals as goal

pub returns-else-fill-ne0-clause-found : goal.returns-else-fill-ne0-clause-found
returns-else-fill-ne0-clause-found g c =
    let v = list_of c.in-Some-read_part.bits in
    listed_found c.args.self.now.rest c.read.new.self.rest c.read_part.new.self.rest c.read-in-Some-read_part.new.self.rest v c.in-Some.len c.in-Some-read.fill c.in-Some.ensures.digits c.in-Some-read_part.ensures.digits c.in-Some-read.ensures.digits
    (part_size c.in-Some.len c.read.new.self.rest c.read_part.new.self.rest v c.in-Some-read_part.ensures.part c.in-Some-read_part.ensures.passed.left) c.if-fill-ne0.false

pub returns-in-None-clause-back : goal.returns-in-None-clause-back
returns-in-None-clause-back g c bits more few e =
    let n = length bits in
    let o = listed_opened c.args.self.now.rest more bits e in
    let a = c.in-None.ensures.back n (bits ++ (binary ((8 - n % 8) % 8) 0 ++ more)) o (omega arith) in
    absurd cc

pub returns-in-None-read_part-clause-back : goal.returns-in-None-read_part-clause-back
returns-in-None-read_part-clause-back g c bits more few e =
    let n = length bits in
    let o = listed_opened c.args.self.now.rest more bits e in
    let a = c.in-Some.ensures.back n (bits ++ (binary ((8 - n % 8) % 8) 0 ++ more)) o (omega arith) in
    let len : c.in-Some.len ≡ n = cc in
    let room = part_there c.in-Some.len c.read.new.self.rest bits (binary ((8 - n % 8) % 8) 0 ++ more) a.1 (sym len) in
    let short = c.in-None-read_part.ensures.none.0 refl in
    absurd (omega arith)

pub returns-then-fill-ne0-clause-back : goal.returns-then-fill-ne0-clause-back
returns-then-fill-ne0-clause-back g c bits more few e =
    let n = length bits in
    let o = listed_opened c.args.self.now.rest more bits e in
    let a = c.in-Some.ensures.back n (bits ++ (binary ((8 - n % 8) % 8) 0 ++ more)) o (omega arith) in
    let len : c.in-Some.len ≡ n = cc in
    let p = part_is c.in-Some.len c.read.new.self.rest c.read_part.new.self.rest (list_of c.in-Some-read_part.bits) bits (binary ((8 - n % 8) % 8) 0 ++ more) c.in-Some-read_part.ensures.part c.in-Some-read_part.ensures.passed.rest a.1 (sym len) in
    let last = p.1 ∙ ap (λ k. binary ((8 - k % 8) % 8) 0 ++ more) (sym len) in
    let pad = (8 - c.in-Some.len % 8) % 8 in
    let r = c.in-Some-read.ensures.back 0 more last (pow_pos pad) in
    let none : c.in-Some-read.fill ≡ 0 = cc in
    absurd (c.if-fill-ne0.true none)

pub returns-in-None-read-clause-back : goal.returns-in-None-read-clause-back
returns-in-None-read-clause-back g c bits more few e =
    let n = length bits in
    let o = listed_opened c.args.self.now.rest more bits e in
    let a = c.in-Some.ensures.back n (bits ++ (binary ((8 - n % 8) % 8) 0 ++ more)) o (omega arith) in
    let len : c.in-Some.len ≡ n = cc in
    let p = part_is c.in-Some.len c.read.new.self.rest c.read_part.new.self.rest (list_of c.in-Some-read_part.bits) bits (binary ((8 - n % 8) % 8) 0 ++ more) c.in-Some-read_part.ensures.part c.in-Some-read_part.ensures.passed.rest a.1 (sym len) in
    let last = p.1 ∙ ap (λ k. binary ((8 - k % 8) % 8) 0 ++ more) (sym len) in
    let pad = (8 - c.in-Some.len % 8) % 8 in
    let r = c.in-None-read.ensures.back 0 more last (pow_pos pad) in
    absurd cc

pub returns-else-fill-ne0-clause-back : goal.returns-else-fill-ne0-clause-back
returns-else-fill-ne0-clause-back g c bits more few e =
    let n = length bits in
    let o = listed_opened c.args.self.now.rest more bits e in
    let a = c.in-Some.ensures.back n (bits ++ (binary ((8 - n % 8) % 8) 0 ++ more)) o (omega arith) in
    let len : c.in-Some.len ≡ n = cc in
    let p = part_is c.in-Some.len c.read.new.self.rest c.read_part.new.self.rest (list_of c.in-Some-read_part.bits) bits (binary ((8 - n % 8) % 8) 0 ++ more) c.in-Some-read_part.ensures.part c.in-Some-read_part.ensures.passed.rest a.1 (sym len) in
    let last = p.1 ∙ ap (λ k. binary ((8 - k % 8) % 8) 0 ++ more) (sym len) in
    let pad = (8 - c.in-Some.len % 8) % 8 in
    let r = c.in-Some-read.ensures.back 0 more last (pow_pos pad) in
    (search rules, p.0, r.1)

pub returns-in-None-clause-ended : goal.returns-in-None-clause-ended
returns-in-None-clause-ended g c e = inl (c.in-None.ensures.none.0 refl)

pub returns-in-None-read_part-clause-ended : goal.returns-in-None-read_part-clause-ended
returns-in-None-read_part-clause-ended g c e =
    let short = c.in-None-read_part.ensures.none.0 refl in
    inr (c.in-Some.len, c.read.new.self.rest, c.in-Some.ensures.digits, omega arith)

pub returns-in-None-read-clause-ended : goal.returns-in-None-read-clause-ended
returns-in-None-read-clause-ended g c e =
    let v = list_of c.in-Some-read_part.bits in
    list_cut c.args.self.now.rest c.read.new.self.rest c.read_part.new.self.rest v c.in-Some.len c.in-Some.ensures.digits c.in-Some-read_part.ensures.digits
    (part_size c.in-Some.len c.read.new.self.rest c.read_part.new.self.rest v c.in-Some-read_part.ensures.part c.in-Some-read_part.ensures.passed.left) (c.in-None-read.ensures.none.0 refl)

pub returns-then-fill-ne0-clause-filled : goal.returns-then-fill-ne0-clause-filled
returns-then-fill-ne0-clause-filled g c e =
    let v = list_of c.in-Some-read_part.bits in
    list_filled c.args.self.now.rest c.read.new.self.rest c.read_part.new.self.rest c.read-in-Some-read_part.new.self.rest v c.in-Some.len c.in-Some-read.fill c.in-Some.ensures.digits c.in-Some-read_part.ensures.digits c.in-Some-read.ensures.digits
    (part_size c.in-Some.len c.read.new.self.rest c.read_part.new.self.rest v c.in-Some-read_part.ensures.part c.in-Some-read_part.ensures.passed.left) c.in-Some-read.ensures.below c.if-fill-ne0.true
