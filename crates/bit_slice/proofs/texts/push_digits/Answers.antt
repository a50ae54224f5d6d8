use Rattle.std.proofs.Common.{◌≡◌, ◌+◌, List, ℕ, [], ◌∷◌, ◌++◌, map, take, slice_range, if◌then◌else◌, sym, ◌∙◌, ap, arith}
use Rattle.std.specs.Prelude.{Result, Ok, Err, OnOk, is_ok}
use Rattle.std.specs.String.{string_bytes}
use Rattle.std.proofs.lemmas.List.{map-append}
use Rattle.bit_addressing.specs.Bits.{has_bit}
use Rattle.bit_addressing.specs.Row.{number_bits}
use Rattle.bit_addressing.specs.Text.{digit_of}
use Rattle.bit_rows.proofs.Binary.{number_bits_none}
use Rattle.bit_slice.specs.BitSlice.{list_of}
use Rattle.bit_slice.proofs.Parts.{view_length}
use Rattle.bit_slice.proofs.Writing.{number_bits_more, run_of_number}
use Rattle.bit_slice.proofs.texts.push_digits.Goals as goal

pub loop-k-init : goal.loop-k-init
loop-k-init g c = record {
  text = ap (map digit_of) (sym (number_bits_none c.chunk_at-chunk.result));
  ascii = λ _. omega arith;
}

pub loop-k-preserved : goal.loop-k-preserved
loop-k-preserved g c =
    let x = c.chunk_at-chunk.result in
    let k = c.loop-k.k in
    record {
      text = c.put.ensures.text
          ∙ ap (λ l. l ++ c.digit_at.result ∷ []) c.loop-k.invariant.text
          ∙ ap (λ d. map digit_of (number_bits x k) ++ d ∷ []) c.digit_at.ensures.value
          ∙ sym (ap (map digit_of) (number_bits_more x k) ∙ map-append digit_of (number_bits x k) (has_bit x k ∷ []));
      ascii = c.put.ensures.ascii c.loop-k.invariant.ascii;
    }

appended : {X E : Type 0} (r : Result X E) (old new text digits : List ℕ) → new ≡ (if is_ok r then old ++ text else old) → text ≡ digits → OnOk r (new ≡ old ++ digits)
appended (Ok x) old new text digits is same = is ∙ ap (λ l. old ++ l) same
appended (Err e) old new text digits is same = tt

pub returns : goal.returns
returns g c =
    let list = list_of c.args.view in
    let from = c.args.from in
    let n = c.args.n in
    let x = c.chunk_at-chunk.result in
    let end : c.loop-k.k ≡ n = omega (arith, c.loop-k-test.false, c.loop-k.auto.k-end) in
    appended c.push_str.result (string_bytes c.args.text.now) (string_bytes c.push_str.new.self) _ (map digit_of (slice_range list from (from + n))) c.push_str.ensures.bytes
    (c.text_of.ensures
    ∙ ap (λ k. take k c.loop-k.piece) (sym end)
    ∙ c.loop-k.invariant.text
    ∙ ap (λ k. map digit_of (number_bits x k)) end
    ∙ ap (map digit_of) (run_of_number list x from n (omega (arith, c.requires.within, view_length c.args.view)) c.chunk_at-chunk.ensures.number))
