use Rattle.std.proofs.Common.{◌≡◌, [], append-nil, Some, sym, ◌∙◌, ap}
use Rattle.bit_streams.specs.Header.{header_bits}
use Rattle.bit_streams.proofs.formats.header.HeaderFields.read.Goals as goal

pub returns-in-Ok-clause-whole : goal.returns-in-Ok-clause-whole
returns-in-Ok-clause-whole g c x fit e =
    let b = c.in-Ok.ensures.back x [] fit (e ∙ sym (append-nil (header_bits x))) in
    (ap Some (let same : c.in-Ok.h ≡ x = cc in same), b.1)
