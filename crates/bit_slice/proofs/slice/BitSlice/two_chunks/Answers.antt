use Rattle.std.proofs.Common.{◌≡◌, ◌+◌, ◌-◌, ◌<◌, false, get_or, ◌∙◌, ap, inl, inr, arith}
use Rattle.std.proofs.lemmas.Bool.{cases_lt}
use Rattle.bit_slice.specs.BitSlice.{list_of}
use Rattle.bit_slice.proofs.Patterns.{item_of_chunk, of_first, of_second}
use Rattle.bit_slice.proofs.slice.BitSlice.two_chunks.Goals as goal

pub returns-then-left-le64 : goal.returns-then-left-le64
returns-then-left-le64 g c q near inside =
    let low = c.chunk_at-low in
    let here : q < c.min.result = omega (arith, inside, c.min.ensures) in
    of_first low.result 0 q (omega arith) ∙ item_of_chunk (list_of c.args.self) c.args.at c.min.result q low.result here low.ensures.number

pub returns : goal.returns
returns g c q near inside =
    let xs = list_of c.args.self in
    let low = c.chunk_at-low in
    let high = c.chunk_at in
    elim (cases_lt q 64) [
      | inl l ↦ of_first low.result high.result q l ∙ item_of_chunk xs c.args.at c.min.result q low.result (omega (arith, inside, c.min.ensures)) low.ensures.number
      | inr l ↦
          let place : c.args.at + 64 + (q - 64) ≡ c.args.at + q = omega arith in
          of_second low.result high.result q l
          ∙ item_of_chunk xs (c.args.at + 64) c.min-2.result (q - 64) high.result (omega (arith, inside, near, c.min-2.ensures)) high.ensures.number
          ∙ ap (λ i. get_or xs i false) place
    ]
