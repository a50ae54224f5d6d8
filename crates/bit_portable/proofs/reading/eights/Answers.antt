use Rattle.std.proofs.Common.{◌≡◌, ◌∷◌, ◌++◌, ℕ, List, [], take, drop, ap, sym, ◌∙◌, arith, append_assoc}
use Rattle.std.specs.Int.{w64, from_le_bytes}
use Rattle.std.proofs.lemmas.List.{append-nil}
use Rattle.bit_portable.specs.Reading.{eights}
use Rattle.bit_portable.proofs.Decoded.{eights_step, eights_end}
use Rattle.bit_portable.proofs.reading.eights.Goals as goal

pub loop-rest-preserved : goal.loop-rest-preserved
loop-rest-preserved c =
    let rest = c.loop-rest.rest.now in
    let step = eights_step rest (omega arith) in
    let word : c.eight.result ≡ from_le_bytes w64 (take 8 rest) = c.eight.ensures ∙ ap (λ (bs : List ℕ). from_le_bytes w64 bs) c.split_at.ensures.front in
    let whole : (c.loop-rest.numbers.items ++ c.eight.result ∷ []) ++ eights (drop 8 rest) ≡ eights c.args.bytes.now =
    append_assoc c.loop-rest.numbers.items (c.eight.result ∷ []) (eights (drop 8 rest))
    ∙ ap (λ (n : ℕ). c.loop-rest.numbers.items ++ (n ∷ eights (drop 8 rest))) word
    ∙ ap (λ (ns : List ℕ). c.loop-rest.numbers.items ++ ns) (sym step) ∙ c.loop-rest.invariant.so_far in
    record { so_far = rw (c.push_reserved.ensures.items, c.split_at.ensures.back) whole; few = omega arith; memory = omega arith; room = omega arith }

pub returns-clause-value : goal.returns-clause-value
returns-clause-value c = sym (append-nil c.loop-rest.numbers.items) ∙ ap (λ (ns : List ℕ). c.loop-rest.numbers.items ++ ns) (sym (eights_end c.loop-rest.rest.now (omega arith))) ∙ c.loop-rest.invariant.so_far
