use Rattle.std.proofs.Common.{[], append-nil, sym, ◌∙◌}
use Rattle.bit_streams.specs.Formats.{listed_bits}
use Rattle.bit_streams.proofs.reader.BitReader.read_list.Goals as goal

pub returns-in-Ok-clause-whole : goal.returns-in-Ok-clause-whole
returns-in-Ok-clause-whole g c bits few e = c.in-Ok.ensures.back bits [] few (e ∙ sym (append-nil (listed_bits bits)))

pub returns-in-Err-clause-whole : goal.returns-in-Err-clause-whole
returns-in-Err-clause-whole g c bits few e = absurd (let b = (c.in-Err.ensures.back bits [] few (e ∙ sym (append-nil (listed_bits bits)))).0 in cc)
