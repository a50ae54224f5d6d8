use Rattle.std.proofs.Common.{◌≡◌, ◌*◌, ◌/◌, ◌++◌, append_assoc, inl, inr, length, rules, refl, sym, ◌∙◌, ap, arith}
use Rattle.std.proofs.lemmas.List.{length-append}
use Rattle.bit_addressing.specs.Row.{binary}
use Rattle.bit_slice.specs.BitSlice.{list_of}
use Rattle.bit_rows.proofs.Binary.{length-binary}
use Rattle.bit_streams.proofs.Parted.{part_is, part_size, part_there, tagged_found, three_opened}
use Rattle.bit_streams.proofs.reader.BitReader.tagged_parts.Goals as goal

pub returns-in-Some-read_part-clause-found : goal.returns-in-Some-read_part-clause-found
returns-in-Some-read_part-clause-found g c =
    let v = list_of c.in-Some-read_part.value in
    let bytes = c.in-Some-read.bytes in
    tagged_found c.args.self.now.rest c.read.new.self.rest c.read-in-Some.new.self.rest c.read_part.new.self.rest v c.in-Some.tag bytes c.in-Some.ensures.digits c.in-Some-read.ensures.digits c.in-Some-read_part.ensures.digits
    (part_size (8 * bytes) c.read-in-Some.new.self.rest c.read_part.new.self.rest v c.in-Some-read_part.ensures.part c.in-Some-read_part.ensures.passed.left)

pub returns-in-None-clause-back : goal.returns-in-None-clause-back
returns-in-None-clause-back g c tag value more some below whole few e =
    let o = three_opened c.args.self.now.rest more (binary 8 tag) (binary 16 (length value / 8)) value e in
    let a = c.in-None.ensures.back tag (binary 16 (length value / 8) ++ (value ++ more)) o below in
    absurd cc

pub returns-then-tag-eq0-clause-back : goal.returns-then-tag-eq0-clause-back
returns-then-tag-eq0-clause-back g c tag value more some below whole few e =
    let o = three_opened c.args.self.now.rest more (binary 8 tag) (binary 16 (length value / 8)) value e in
    let a = c.in-Some.ensures.back tag (binary 16 (length value / 8) ++ (value ++ more)) o below in
    let is : c.in-Some.tag ≡ tag = cc in
    let none = c.if-tag-eq0.true in
    absurd (omega arith)

pub returns-in-None-read-clause-back : goal.returns-in-None-read-clause-back
returns-in-None-read-clause-back g c tag value more some below whole few e =
    let o = three_opened c.args.self.now.rest more (binary 8 tag) (binary 16 (length value / 8)) value e in
    let a = c.in-Some.ensures.back tag (binary 16 (length value / 8) ++ (value ++ more)) o below in
    let b = c.in-None-read.ensures.back (length value / 8) (value ++ more) a.1 (omega arith) in
    absurd cc

pub returns-in-None-read_part-clause-back : goal.returns-in-None-read_part-clause-back
returns-in-None-read_part-clause-back g c tag value more some below whole few e =
    let o = three_opened c.args.self.now.rest more (binary 8 tag) (binary 16 (length value / 8)) value e in
    let a = c.in-Some.ensures.back tag (binary 16 (length value / 8) ++ (value ++ more)) o below in
    let b = c.in-Some-read.ensures.back (length value / 8) (value ++ more) a.1 (omega arith) in
    let bytes : c.in-Some-read.bytes ≡ length value / 8 = cc in
    let room = part_there (8 * c.in-Some-read.bytes) c.read-in-Some.new.self.rest value more b.1 (omega arith) in
    let short = c.in-None-read_part.ensures.none.0 refl in
    absurd (omega arith)

pub returns-in-Some-read_part-clause-back : goal.returns-in-Some-read_part-clause-back
returns-in-Some-read_part-clause-back g c tag value more some below whole few e =
    let o = three_opened c.args.self.now.rest more (binary 8 tag) (binary 16 (length value / 8)) value e in
    let a = c.in-Some.ensures.back tag (binary 16 (length value / 8) ++ (value ++ more)) o below in
    let b = c.in-Some-read.ensures.back (length value / 8) (value ++ more) a.1 (omega arith) in
    let is : c.in-Some.tag ≡ tag = cc in
    let bytes : c.in-Some-read.bytes ≡ length value / 8 = cc in
    let p = part_is (8 * c.in-Some-read.bytes) c.read-in-Some.new.self.rest c.read_part.new.self.rest (list_of c.in-Some-read_part.value) value more c.in-Some-read_part.ensures.part c.in-Some-read_part.ensures.passed.rest b.1 (omega arith) in
    (search rules, (is, p.0), p.1)

pub returns-in-None-clause-ended : goal.returns-in-None-clause-ended
returns-in-None-clause-ended g c e =
    let short = c.in-None.ensures.none.0 refl in
    inl (omega arith)

pub returns-in-None-read-clause-ended : goal.returns-in-None-read-clause-ended
returns-in-None-read-clause-ended g c e =
    let short = c.in-None-read.ensures.none.0 refl in
    let sum = ap length c.in-Some.ensures.digits ∙ length-append (binary 8 c.in-Some.tag) c.read.new.self.rest in
    let front = length-binary 8 c.in-Some.tag in
    inl (omega arith)

pub returns-in-None-read_part-clause-ended : goal.returns-in-None-read_part-clause-ended
returns-in-None-read_part-clause-ended g c e =
    let short = c.in-None-read_part.ensures.none.0 refl in
    let bytes = c.in-Some-read.bytes in
    inr (
      c.in-Some.tag,
      bytes,
      c.read-in-Some.new.self.rest,
      c.in-Some.ensures.digits ∙ ap (λ l. binary 8 c.in-Some.tag ++ l) c.in-Some-read.ensures.digits ∙ sym (append_assoc (binary 8 c.in-Some.tag) (binary 16 bytes) c.read-in-Some.new.self.rest),
      omega arith,
    )
