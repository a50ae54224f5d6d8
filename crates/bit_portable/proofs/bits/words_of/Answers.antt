use Rattle.std.proofs.Common.{◌∙◌}
use Rattle.bit_portable.proofs.Rowed.{count_of_words, shown_numbers}
use Rattle.bit_portable.proofs.bits.words_of.Goals as goal

pub returns-clause-len : goal.returns-clause-len
returns-clause-len c = c.into_vec.ensures.exact ∙ count_of_words c.args.bits.head c.args.bits.list c.requires.head c.requires.len

pub returns-clause-numbers : goal.returns-clause-numbers
returns-clause-numbers c =
    let len = c.into_vec.ensures.exact ∙ count_of_words c.args.bits.head c.args.bits.list c.requires.head c.requires.len in
    shown_numbers c.into_vec.result.items c.args.bits.list c.args.bits.head len c.requires.len c.requires.head c.into_vec.ensures.shows
