use Rattle.std.proofs.Common.{length, ap, arith}
use Rattle.bit_portable.specs.Stored.{content_bytes, content_of}
use Rattle.bit_portable.proofs.Bytes.{numbers_length, words_length, runs_length}
use Rattle.bit_portable.proofs.writing.data_len.Goals as goal

pub overflow_mul-result-in-Words : goal.overflow_mul-result-in-Words
overflow_mul-result-in-Words c =
    let e = ap (λ d. length (content_bytes (content_of d))) c.in-Words.is in
    omega (arith, words_length c.in-Words.words.items)

pub overflow_mul-result-in-Runs : goal.overflow_mul-result-in-Runs
overflow_mul-result-in-Runs c =
    let e = ap (λ d. length (content_bytes (content_of d))) c.in-Runs.is in
    omega (arith, runs_length c.in-Runs.runs.items)

pub overflow_add-result : goal.overflow_add-result
overflow_add-result c =
    let e = ap (λ d. length (content_bytes (content_of d))) c.in-Runs.is in
    omega (arith, runs_length c.in-Runs.runs.items)

pub returns-in-Numbers : goal.returns-in-Numbers
returns-in-Numbers c =
    let e = ap (λ d. length (content_bytes (content_of d))) c.in-Numbers.is in
    omega (arith, numbers_length c.in-Numbers.numbers.items)

pub returns-in-Words : goal.returns-in-Words
returns-in-Words c =
    let e = ap (λ d. length (content_bytes (content_of d))) c.in-Words.is in
    omega (arith, words_length c.in-Words.words.items)

pub returns-in-Runs : goal.returns-in-Runs
returns-in-Runs c =
    let e = ap (λ d. length (content_bytes (content_of d))) c.in-Runs.is in
    omega (arith, runs_length c.in-Runs.runs.items)
