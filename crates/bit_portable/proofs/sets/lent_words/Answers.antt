use Rattle.std.proofs.Common.{◌∙◌, ap, subst}
use Rattle.bit_portable.specs.Stored.{Words}
use Rattle.bit_portable.proofs.Coded.{Wholes, wholes_from}
use Rattle.bit_portable.proofs.Portable.{content_of_words}
use Rattle.bit_portable.proofs.sets.lent_words.Goals as goal

pub returns-then-head-eq0 : goal.returns-then-head-eq0
returns-then-head-eq0 c =
    let words = c.words_lent-words.result.now in
    ap Words (content_of_words c.args.block.now words c.words_lent-words.ensures.len (wholes_from words c.prove_words.ensures) (c.words_lent-words.ensures.numbers ∙ c.in-Some.ensures.numbers))

pub returns : goal.returns
returns c =
    let xs = c.args.block.now in
    let ws = c.words_of-words.result.items in
    let fits : Wholes ws = subst Wholes c.deref.ensures.value (wholes_from c.deref.result.now c.prove_words-2.ensures) in
    ap Words (content_of_words xs ws c.words_of-words.ensures.len fits (c.words_of-words.ensures.numbers ∙ c.in_ok-bits.ensures.numbers))
