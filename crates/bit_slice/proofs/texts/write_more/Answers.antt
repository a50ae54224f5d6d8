use Rattle.std.proofs.Common.{◌≡◌, ◌+◌, ◌*◌, Bool, List, [], ◌∷◌, ◌++◌, length, take, slice_range, subst, sym, ◌∙◌, ap, arith}
use Rattle.std.proofs.Output.{has_written_styled_of_eq}
use Rattle.std.specs.Str.{IsAscii}
use Rattle.bit_addressing.specs.Row.{number_bits, number_of}
use Rattle.bit_addressing.specs.Typed.{row}
use Rattle.bit_slice.specs.BitSlice.{list_of}
use Rattle.bit_slice.specs.Texts.{spaced}
use Rattle.bit_slice.proofs.Parts.{in_row}
use Rattle.bit_addressing.proofs.lists.Shown.{length-between}
use Rattle.bit_rows.proofs.Binary.{number_bits_none}
use Rattle.bit_slice.proofs.Writing.{chunk_of_list, bits_of_number, spaced_more}
use Rattle.bit_slice.proofs.texts.write_more.Goals as goal

pub loop-k-init : goal.loop-k-init
loop-k-init g c = record {
  text = ap spaced (sym (number_bits_none c.read_chunk-chunk.result));
  ascii = λ _. omega arith;
}

pub loop-k-preserved : goal.loop-k-preserved
loop-k-preserved g c =
    let x = c.read_chunk-chunk.result in
    let k = c.loop-k.k in
    let d = c.digit_at.result in
    let at = k * 3 in
    let second : at + 1 + 1 ≡ at + 2 = omega arith in
    let third : at + 2 + 1 ≡ (k + 1) * 3 = omega arith in
    let comma = c.put.ensures.text in
    let space = c.put-in-loop-k.ensures.text in
    let last = c.put-in-loop-k-2.ensures.text in
    let text : take ((k + 1) * 3) c.put-in-loop-k-2.new.piece ≡ spaced (number_bits x (k + 1)) =
    ap (λ n. take n c.put-in-loop-k-2.new.piece) (sym third) ∙ last
    ∙ ap (λ t. t ++ d ∷ []) (ap (λ n. take n c.put-in-loop-k.new.piece) (sym second) ∙ space ∙ ap (λ t. t ++ 32 ∷ []) comma)
    ∙ spaced_more x k (take at c.loop-k.piece) d c.loop-k.invariant.text c.digit_at.ensures.value in
    record {
      text = text;
      ascii = subst (λ n. IsAscii (take n c.put-in-loop-k-2.new.piece)) third (c.put-in-loop-k-2.ensures.ascii (subst (λ n. IsAscii (take n c.put-in-loop-k.new.piece)) second (c.put-in-loop-k.ensures.ascii (c.put.ensures.ascii c.loop-k.invariant.ascii))));
    }

pub returns : goal.returns
returns g c flush ok =
    let v = c.args.view in
    let bits = row g.T.BitStore g.O.BitOrder v.words.now in
    let list = list_of v in
    let end : c.loop-k.k ≡ c.args.n = omega (arith, c.loop-k-test.false, c.loop-k.auto.k-end) in
    let run : List Bool = slice_range list c.args.from (c.args.from + c.args.n) in
    let all : length list ≡ v.len = length-between bits v.head (v.head + v.len) (in_row g.T.BitStore g.O.BitOrder v.words.now (v.head + v.len) v.fits.room) ∙ omega arith in
    let size : length run ≡ c.args.n = length-between list c.args.from (c.args.from + c.args.n) (omega (arith, all, c.requires.within)) ∙ omega arith in
    let chunk : c.read_chunk-chunk.result ≡ number_of run =
    c.read_chunk-chunk.ensures ∙ ap (λ ws. number_of (slice_range (row g.T.BitStore g.O.BitOrder ws) (c.head.result + c.args.from) (c.head.result + c.args.from + c.args.n))) c.as_raw_slice.ensures.words
    ∙ ap (λ h. number_of (slice_range bits (h + c.args.from) (h + c.args.from + c.args.n))) c.head.ensures.value
    ∙ ap number_of (chunk_of_list g.T.BitStore g.O.BitOrder v c.args.from c.args.n c.requires.within) in
    has_written_styled_of_eq _ _ _ _ _
    (c.text_of.ensures ∙ ap (λ k. take (k * 3) c.loop-k.piece) (sym end) ∙ c.loop-k.invariant.text ∙ ap (λ k. spaced (number_bits c.read_chunk-chunk.result k)) end
    ∙ ap (λ x. spaced (number_bits x c.args.n)) chunk ∙ ap spaced (bits_of_number run c.args.n size))
    (c.write_str.ensures.styled flush ok)
