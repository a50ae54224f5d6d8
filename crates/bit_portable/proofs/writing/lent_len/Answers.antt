use Rattle.std.proofs.Common.{length, ap, arith}
use Rattle.bit_portable.specs.Stored.{content_bytes, content_lent}
use Rattle.bit_portable.proofs.Bytes.{numbers_length, words_length, runs_length}
use Rattle.bit_portable.proofs.writing.lent_len.Goals as goal

pub overflow_mul-result-in-Words : goal.overflow_mul-result-in-Words
overflow_mul-result-in-Words c =
    let e = ap (λ d. length (content_bytes (content_lent d))) c.in-Words.is in
    omega (arith, words_length c.in-Words.words.now)

pub returns-in-Numbers : goal.returns-in-Numbers
returns-in-Numbers c =
    let e = ap (λ d. length (content_bytes (content_lent d))) c.in-Numbers.is in
    omega (arith, numbers_length c.in-Numbers.numbers.now)

pub returns-in-Words : goal.returns-in-Words
returns-in-Words c =
    let e = ap (λ d. length (content_bytes (content_lent d))) c.in-Words.is in
    omega (arith, words_length c.in-Words.words.now)

pub returns-in-Runs : goal.returns-in-Runs
returns-in-Runs c =
    let e = ap (λ d. length (content_bytes (content_lent d))) c.in-Runs.is in
    omega (arith, runs_length c.in-Runs.runs.now)
