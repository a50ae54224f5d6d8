use Rattle.std.proofs.Common.{◌≡◌, ◌+◌, ◌++◌, Some, inl, inr, length, refl, ◌∙◌, ap, arith}
use Rattle.std.proofs.lemmas.Bool.{cases_lt}
use Rattle.std.proofs.lemmas.List.{length-append}
use Rattle.bit_streams.specs.Header.{header_bits, header_from, header_parts}
use Rattle.bit_streams.proofs.Headers.{header_size, some_header}
use Rattle.bit_streams.proofs.formats.header.read_fields.Goals as goal

pub returns-in-None-clause-back : goal.returns-in-None-clause-back
returns-in-None-clause-back g c h more fit e =
    let b = c.in-None.ensures.back (header_parts h) more (
      ((omega arith, fit.version), ((omega arith, fit.header_words), ((omega arith, fit.service), ((omega arith, fit.congestion), (omega arith, fit.total_length))))),
      (
        ((omega arith, fit.identification), ((omega arith, fit.flags), ((omega arith, fit.fragment_offset), ((omega arith, fit.time_to_live), (omega arith, fit.protocol))))),
        ((omega arith, fit.checksum), ((omega arith, fit.source), (omega arith, fit.destination))),
      ),
    ) e in
    absurd cc

pub returns-in-Some-clause-back : goal.returns-in-Some-clause-back
returns-in-Some-clause-back g c h more fit e =
    let b = c.in-Some.ensures.back (header_parts h) more (
      ((omega arith, fit.version), ((omega arith, fit.header_words), ((omega arith, fit.service), ((omega arith, fit.congestion), (omega arith, fit.total_length))))),
      (
        ((omega arith, fit.identification), ((omega arith, fit.flags), ((omega arith, fit.fragment_offset), ((omega arith, fit.time_to_live), (omega arith, fit.protocol))))),
        ((omega arith, fit.checksum), ((omega arith, fit.source), (omega arith, fit.destination))),
      ),
    ) e in
    let parts : c.in-Some.parts ≡ header_parts h = cc in
    (ap Some (c.header_of.ensures ∙ ap header_from parts), b.1)

pub returns-in-None-clause-none : goal.returns-in-None-clause-none
returns-in-None-clause-none g c =
    let rest = c.args.reader.now.rest in (
      λ e. elim (cases_lt (length rest) 160) [
        | inl short ↦ short
        | inr enough ↦ let h = some_header rest enough in absurd (let b = (returns-in-None-clause-back g c h.0 h.1 h.2 h.3).0 in cc)
      ],
      λ short. refl,
    )

pub returns-in-Some-clause-none : goal.returns-in-Some-clause-none
returns-in-Some-clause-none g c =
    let h = header_from c.in-Some.parts in
    let found : c.args.reader.now.rest ≡ header_bits h ++ c.read.new.reader.rest = c.in-Some.ensures.found in
    let size = header_size h in
    let all : length c.args.reader.now.rest ≡ length (header_bits h) + length c.read.new.reader.rest = ap length found ∙ length-append (header_bits h) c.read.new.reader.rest in
    (λ e. absurd cc, λ short. absurd (omega arith))
